use Rattle.std.proofs.Common.{inl, inr, sym, subst, true, rules}
use Rattle.std.specs.List.{Any}
use Rattle.std.proofs.lemmas.Result.{err_from_is_err_and}
use Rattle.xet_core_structures.specs.KeyedExport.{ExportCase}
use Rattle.xet_core_structures.specs.View.{LacksVerification}
use Rattle.shard_bytes.proofs.MemoryErrors.{not_read_in_memory}
use Rattle.shard_bytes.proofs.MinimalCompositions.{minimal_steps, none_found, none_wanted}
use Rattle.shard_bytes.proofs.minimal.minimal.Goals as goal
use Rattle.shard_bytes.proofs.minimal.minimal.Goals.{else-kept-via-then-kept+else-lack_verification, else-kept-via-else-kept}

pub returns-in_err-shard : goal.returns-in_err-shard
returns-in_err-shard c =
    let p = err_from_is_err_and c.from_residual.result c.from_residual.ensures.1 in
    rw (p.1, p.2) (inl (not_read_in_memory c.args.bytes.now (ExportCase c.args.bytes.now) c.in_err-shard.field-0.0 (λ why. why) c.in_err-shard.ensures))

pub returns-then-lack_verification : goal.returns-then-lack_verification
returns-then-lack_verification c =
    let shard = c.in_ok-shard.shard in
    let lacks = subst (λ fs. Any (LacksVerification true) fs) c.as_slice.ensures.value (c.lack_verification.ensures.0 c.if-lack_verification.true) in
    inr (search rules, (record { files = shard.files.items; xorbs = shard.xorbs.items }, c.in_ok-shard.ensures.0, subst (λ b. Any (LacksVerification b) shard.files.items) (sym c.if-kept.true) lacks))

pub returns : goal.returns
returns c =
    let a = c.args in
    let opened = c.in_ok-shard.shard in
    let files = opened.files.items in
    let none : ¬ Any (LacksVerification a.kept.verification) files =
    elim c.else-kept.branch [
      | else-kept-via-then-kept+else-lack_verification w ↦
          (subst (λ fs. ¬ Any (LacksVerification a.kept.verification) fs) w.as_slice.ensures.value
          (none_found a.kept.verification w.lack_verification.result w.as_slice.result.now w.if-kept.true w.lack_verification.ensures w.if-lack_verification.false))
      | else-kept-via-else-kept w ↦ (none_wanted a.kept.verification files w.if-kept.false)
    ] in
    minimal_steps a.kept a.now a.bytes.now opened c.in_ok-with_marks.field-0 c.in_ok-shard-2.shard c.with_options.result c.minimal.result c.in_ok-shard.ensures.0 c.in_ok-shard.ensures.1 none
    c.in_ok-with_marks.ensures c.in_ok-shard-2.ensures c.with_options.ensures.content c.minimal.ensures
