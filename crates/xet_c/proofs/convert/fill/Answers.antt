use Rattle.std.proofs.Common.{inl, refl}
use Rattle.std.proofs.lemmas.Result.{err_from_is_err_and}
use Rattle.placed_shards.specs.Content.{content}
use Rattle.shard_bytes.specs.ResultSizes.{IsRewriteSize}
use Rattle.shard_bytes.specs.Versions.{IsInVersion, IsSameShard, RefusesSameShard, RefusesVersion}
use Rattle.shard_bytes.proofs.Compositions.{written_of, not_written_of, size_in_version}
use Rattle.xet_c.proofs.Versions.{no_version, refused_in, filled_in, size_filled}
use Rattle.xet_c.proofs.convert.fill.Goals as goal

pub returns-in_err-version-clause-written : goal.returns-in_err-version-clause-written
returns-in_err-version-clause-written c =
    let bytes = c.args.shard.now in
    let p = err_from_is_err_and c.from_residual.result c.from_residual.ensures.1 in
    rw (p.1, p.2) (no_version c.args.version (λ v. IsInVersion v bytes) (λ v. RefusesVersion v bytes) _ c.in_err-version.ensures, refl)

pub returns-in_err-same_shard-clause-written : goal.returns-in_err-same_shard-clause-written
returns-in_err-same_shard-clause-written c =
    let bytes = c.args.shard.now in
    let p = err_from_is_err_and c.from_residual-in_err-same_shard.result c.from_residual-in_err-same_shard.ensures.1 in
    rw (p.1, p.2) (refused_in c.args.version (λ v. IsInVersion v bytes) (λ v. RefusesVersion v bytes) c.in_ok-version.version c.in_ok-version.ensures _ (inl c.in_err-same_shard.ensures), refl)

pub returns-clause-written : goal.returns-clause-written
returns-clause-written c =
    let bytes = c.args.shard.now in
    let version = c.in_ok-version.version in
    let made = content c.in_ok-same_shard.field-0 in
    let same = c.in_ok-same_shard.ensures in
    filled_in c.args.version (λ v. IsInVersion v bytes) (λ v. RefusesVersion v bytes) version c.in_ok-version.ensures made _ _ c.write_into.result (written_of version (IsSameShard bytes) made same)
    (not_written_of version (IsSameShard bytes) made same (RefusesSameShard bytes) (inl refl)) c.write_into.ensures

pub returns-clause-size : goal.returns-clause-size
returns-clause-size c =
    let bytes = c.args.shard.now in
    size_filled _ _ (IsRewriteSize bytes) _ _ c.write_into.result (λ out made. size_in_version made.0 bytes out made.2) (returns-clause-written c)
