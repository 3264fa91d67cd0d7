use Rattle.std.proofs.Common.{◌≡◌, inl, arith}
use Rattle.std.proofs.lemmas.Result.{err_from_is_err_and}
use Rattle.xet_core_structures.specs.declared.error.CoreError.TheVariants.{OutOfMemory}
use Rattle.xet_records.specs.declared.record_reader.FormatVersion.TheVariants.{V3}
use Rattle.xet_core_structures.specs.Hash.{IsHash}
use Rattle.placed_shards.proofs.Outcomes.{if_written}
use Rattle.placed_shards.specs.Content.{content}
use Rattle.shard_bytes.specs.Completing.{Completes, RefusesCompletion}
use Rattle.xet_core_structures.specs.Records.ShardContents.{HoldsShard}
use Rattle.shard_bytes.proofs.Completing.{whole_holds, only_memory_lacks, completes_made, size_completed}
use Rattle.shard_bytes.proofs.Compositions.{IsWritten, IsNotWritten, written_in_3, memory_in_3}
use Rattle.shard_bytes.proofs.Sizes.{if_made}
use Rattle.shard_bytes.proofs.complete.complete_bytes.Goals as goal

pub returns-in_err-completed-clause-of_shard : goal.returns-in_err-completed-clause-of_shard
returns-in_err-completed-clause-of_shard c = λ s shard follows.
    let p = err_from_is_err_and c.from_residual.result c.from_residual.ensures.1 in
    rw (p.1, p.2) (only_memory_lacks s shard c.args.bytes.now follows _ c.in_err-completed.ensures)

pub returns-clause-completed : goal.returns-clause-completed
returns-clause-completed c =
    let made = content c.in_ok-completed.field-0 in
    if_written (IsWritten V3 made) (Completes c.args.key c.args.bytes.now) (IsNotWritten V3 made) (RefusesCompletion c.args.bytes.now) c.to_bytes.result
    (λ out written. completes_made c.args.key c.args.bytes.now made out c.in_ok-completed.ensures (written_in_3 made out written)) (λ e why. inl (memory_in_3 made e why)) c.to_bytes.ensures

pub returns-clause-of_shard : goal.returns-clause-of_shard
returns-clause-of_shard c = λ s shard follows.
    let hash : IsHash c.args.key = record { word0 = omega arith; word1 = omega arith; word2 = omega arith; word3 = omega arith } in
    let made = content c.in_ok-completed.field-0 in
    if_written (IsWritten V3 made) (HoldsShard c.args.key s) (IsNotWritten V3 made) (λ e. e ≡ OutOfMemory) c.to_bytes.result
    (λ out written. whole_holds s shard c.args.bytes.now follows c.args.key out hash (completes_made c.args.key c.args.bytes.now made out c.in_ok-completed.ensures (written_in_3 made out written)))
    (memory_in_3 made) c.to_bytes.ensures

pub returns-clause-size : goal.returns-clause-size
returns-clause-size c = if_made c.to_bytes.result _ _ _ (λ out. size_completed c.args.key c.args.bytes.now out.items) (returns-clause-completed c)
