use Rattle.std.proofs.Common.{◌↔◌, Contains, IsTrue, refl, sym, ◌∙◌, subst}
use Rattle.std.specs.List.Sorted.{IsPermutation}
use Rattle.xet_core_structures.specs.Shard.{xorb_hash_of}
use Rattle.shard_bytes.specs.Minimal.{Keeps}
use Rattle.shard_bytes.proofs.Keeping.{IsKept-wider, both_so}
use Rattle.shard_bytes.proofs.MinimalCompositions.{keeps_all}
use Rattle.shard_bytes.proofs.Searching.{sorted_has}
use Rattle.shard_bytes.proofs.minimal.with_kept_xorbs.Goals as goal

pub returns-in-All : goal.returns-in-All
returns-in-All c = (keeps_all c.args.kept.now c.in-All.is c.args.shard.xorbs.items, record { files = refl; xorbs = refl; options = refl; as_read = refl })

pub returns-in_ok-hashes-in-Listed : goal.returns-in_ok-hashes-in-Listed
returns-in_ok-hashes-in-Listed c =
    let sorted = c.of.result.items.items in
    let given = subst (λ hs. IsPermutation hs sorted) (c.in_ok-hashes-in-Listed.ensures.items ∙ c.as_slice.ensures.value) c.of.ensures in
    let made = c.with_xorbs.ensures in (
      IsKept-wider (λ x accepted. IsTrue accepted ↔ Contains sorted (xorb_hash_of x)) (λ x accepted. IsTrue accepted ↔ Keeps c.args.kept.now (xorb_hash_of x))
          (λ x accepted is. both_so is (subst (λ kept. Contains sorted (xorb_hash_of x) ↔ Keeps kept (xorb_hash_of x)) (sym c.in-Listed.is) (sorted_has c.in-Listed.hashes.items sorted given (xorb_hash_of x))))
          c.args.shard.xorbs.items c.with_xorbs.result.xorbs.items made.0,
      made.1,
    )
