use Rattle.std.proofs.Common.{ℕ, List, Bor, map, inr, sym, subst}
use Rattle.std.proofs.lemmas.Result.{err_from_is_err_and}
use Rattle.std.specs.Cow.{cow_slice_items}
use Rattle.xet_core_structures.specs.TwoShards.ByteResults.{UnitesBytes, BytesRefusal}
use Rattle.xet_core_structures.specs.Trees.MergeTrees.{TreeWrites, TreeRefusal}
use Rattle.xet_core_structures.proofs.set_operations.+merge_or_lend.Goals as goal

pub returns-in_err-unite_bytes-in-Both-clause-bytes :
    goal.returns-in_err-unite_bytes-in-Both-clause-bytes
returns-in_err-unite_bytes-in-Both-clause-bytes t c =
    let inputs : List (List ℕ) = map (λ (x : Bor (List ℕ)). x.now) c.args.inputs.now in
    let p = err_from_is_err_and c.from_residual-in_err-unite_bytes-in-Both.result c.from_residual-in_err-unite_bytes-in-Both.ensures.1 in
    rw (p.1, p.2) (subst (λ plan. TreeRefusal inputs plan c.in_err-unite_bytes-in-Both.field-0.0) (sym c.in-Both.is) (inr (
      cow_slice_items c.in_ok-left-in-Both.left,
      subst (λ plan. TreeWrites inputs plan (cow_slice_items c.in_ok-left-in-Both.left)) c.deref.ensures c.in_ok-left-in-Both.ensures.bytes,
      inr (
        cow_slice_items c.in_ok-right-in-Both.right,
        subst (λ plan. TreeWrites inputs plan (cow_slice_items c.in_ok-right-in-Both.right)) c.deref-in-Both.ensures c.in_ok-right-in-Both.ensures.bytes,
        subst (λ p. p) (λ k. BytesRefusal (c.deref-in-Both-2.ensures.value k) (c.deref-in-Both-3.ensures.value k) c.in_err-unite_bytes-in-Both.field-0.0) c.in_err-unite_bytes-in-Both.ensures,
      ),
    )))

pub returns-in_ok-unite_bytes-in-Both-clause-bytes :
    goal.returns-in_ok-unite_bytes-in-Both-clause-bytes
returns-in_ok-unite_bytes-in-Both-clause-bytes t c =
    let inputs : List (List ℕ) = map (λ (x : Bor (List ℕ)). x.now) c.args.inputs.now in
    subst (λ plan. TreeWrites inputs plan c.in_ok-unite_bytes-in-Both.field-0.items) (sym c.in-Both.is) (
      cow_slice_items c.in_ok-left-in-Both.left,
      cow_slice_items c.in_ok-right-in-Both.right,
      subst (λ plan. TreeWrites inputs plan (cow_slice_items c.in_ok-left-in-Both.left)) c.deref.ensures c.in_ok-left-in-Both.ensures.bytes,
      subst (λ plan. TreeWrites inputs plan (cow_slice_items c.in_ok-right-in-Both.right)) c.deref-in-Both.ensures c.in_ok-right-in-Both.ensures.bytes,
      subst (λ p. p) (λ k. UnitesBytes (c.deref-in-Both-2.ensures.value k) (c.deref-in-Both-3.ensures.value k) c.in_ok-unite_bytes-in-Both.field-0.items) c.in_ok-unite_bytes-in-Both.ensures,
    )
