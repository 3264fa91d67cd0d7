use Rattle.std.proofs.Common.{inl, refl}
use Rattle.std.proofs.lemmas.Result.{err_from_is_err_and}
use Rattle.placed_shards.specs.Content.{content}
use Rattle.placed_shards.proofs.Outcomes.{if_written}
use Rattle.shard_bytes.specs.Combining.{CombinesTo, RefusesCombining}
use Rattle.shard_bytes.specs.Versions.{IsWrittenIn, NotWrittenIn}
use Rattle.shard_bytes.proofs.Combining.{size_of_result}
use Rattle.shard_bytes.proofs.Compositions.{IsWritten, IsNotWritten, written_of, not_written_of}
use Rattle.shard_bytes.proofs.Sizes.{if_made}
use Rattle.shard_bytes.proofs.combine.combine_bytes.Goals as goal

pub returns-in_err-combined-clause-combined : goal.returns-in_err-combined-clause-combined
returns-in_err-combined-clause-combined c =
    let p = err_from_is_err_and c.from_residual.result c.from_residual.ensures.1 in
    rw (p.1, p.2) (inl c.in_err-combined.ensures)

pub returns-clause-combined : goal.returns-clause-combined
returns-clause-combined c =
    let a = c.args in
    let made = content c.in_ok-combined.field-0 in
    let IsMade = CombinesTo a.operation a.first.now a.second.now in
    let Refuses = RefusesCombining a.operation a.first.now a.second.now in
    if_written (IsWritten a.version made) (IsWrittenIn a.version IsMade) (IsNotWritten a.version made) (NotWrittenIn a.version IsMade Refuses) c.to_bytes.result
    (written_of a.version IsMade made c.in_ok-combined.ensures) (not_written_of a.version IsMade made c.in_ok-combined.ensures Refuses (inl refl)) c.to_bytes.ensures

pub returns-clause-size : goal.returns-clause-size
returns-clause-size c = if_made c.to_bytes.result _ _ _ (λ out. size_of_result c.args.operation c.args.first.now c.args.second.now out.items c.args.version) (returns-clause-combined c)
