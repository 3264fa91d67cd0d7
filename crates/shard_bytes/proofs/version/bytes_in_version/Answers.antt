use Rattle.std.proofs.Common.{inl, refl}
use Rattle.std.proofs.lemmas.Result.{err_from_is_err_and}
use Rattle.placed_shards.specs.Content.{content}
use Rattle.shard_bytes.specs.Versions.{IsSameShard, RefusesSameShard, IsInVersion, RefusesVersion}
use Rattle.placed_shards.proofs.Outcomes.{if_written}
use Rattle.shard_bytes.proofs.Compositions.{IsWritten, IsNotWritten, written_of, not_written_of, size_in_version}
use Rattle.shard_bytes.proofs.Sizes.{if_made}
use Rattle.shard_bytes.proofs.version.bytes_in_version.Goals as goal

pub returns-in_err-same_shard-clause-written : goal.returns-in_err-same_shard-clause-written
returns-in_err-same_shard-clause-written c =
    let p = err_from_is_err_and c.from_residual.result c.from_residual.ensures.1 in
    rw (p.1, p.2) (inl c.in_err-same_shard.ensures)

pub returns-clause-written : goal.returns-clause-written
returns-clause-written c =
    let made = content c.in_ok-same_shard.field-0 in
    let same = c.in_ok-same_shard.ensures in
    let version = c.args.version in
    let bytes = c.args.bytes.now in
    if_written (IsWritten version made) (IsInVersion version bytes) (IsNotWritten version made) (RefusesVersion version bytes) c.to_bytes.result (written_of version (IsSameShard bytes) made same)
    (not_written_of version (IsSameShard bytes) made same (RefusesSameShard bytes) (inl refl))
    c.to_bytes.ensures

pub returns-clause-size : goal.returns-clause-size
returns-clause-size c = if_made c.to_bytes.result _ _ _ (λ out. size_in_version c.args.version c.args.bytes.now out.items) (returns-clause-written c)
