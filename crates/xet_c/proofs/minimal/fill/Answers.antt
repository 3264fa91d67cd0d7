use Rattle.std.proofs.Common.{inl, refl, subst}
use Rattle.std.proofs.lemmas.Result.{err_from_is_err_and}
use Rattle.placed_shards.specs.Content.{content}
use Rattle.shard_bytes.specs.Minimal.{IsMinimalOf, MinimalBytes, RefusesMinimalBytes}
use Rattle.shard_bytes.specs.ResultSizes.{IsMinimalSize}
use Rattle.shard_bytes.specs.Versions.{LaidOutIn, NotLaidOutIn}
use Rattle.shard_bytes.proofs.Compositions.{made_in, refused_in as not_made_in}
use Rattle.shard_bytes.proofs.InVersions.{not_laid_out_for, size_laid_out}
use Rattle.shard_bytes.proofs.MinimalCompositions.{minimal_made, minimal_fits}
use Rattle.shard_bytes.proofs.MinimalSizes.{minimal_size}
use Rattle.xet_c.specs.Arguments.{kept_parts}
use Rattle.xet_c.proofs.Versions.{no_version, refused_in, filled_in, size_filled}
use Rattle.xet_c.proofs.minimal.fill.Goals as goal

pub returns-in_err-version-clause-minimal : goal.returns-in_err-version-clause-minimal
returns-in_err-version-clause-minimal c =
    let kept = kept_parts c.args.options.now in
    let Makes = MinimalBytes kept c.args.options.now.now c.args.shard.now in
    let Refuses = RefusesMinimalBytes kept c.args.shard.now in
    let p = err_from_is_err_and c.from_residual.result c.from_residual.ensures.1 in
    rw (p.1, p.2) (no_version c.args.version (λ v. LaidOutIn v Makes) (λ v. NotLaidOutIn v Makes Refuses) _ c.in_err-version.ensures, refl)

pub returns-in_err-minimal-clause-minimal : goal.returns-in_err-minimal-clause-minimal
returns-in_err-minimal-clause-minimal c =
    let kept = kept_parts c.args.options.now in
    let Makes = MinimalBytes kept c.args.options.now.now c.args.shard.now in
    let Refuses = RefusesMinimalBytes kept c.args.shard.now in
    let version = c.in_ok-version.version in
    let why = subst (λ k. RefusesMinimalBytes k c.args.shard.now c.in_err-minimal.field-0.0) c.kept_of-kept.ensures c.in_err-minimal.ensures in
    let p = err_from_is_err_and c.from_residual-in_err-minimal.result c.from_residual-in_err-minimal.ensures.1 in
    rw (p.1, p.2) (refused_in c.args.version (λ v. LaidOutIn v Makes) (λ v. NotLaidOutIn v Makes Refuses) version c.in_ok-version.ensures _ (not_laid_out_for Makes Refuses version _ why), refl)

pub returns-clause-minimal : goal.returns-clause-minimal
returns-clause-minimal c =
    let kept = kept_parts c.args.options.now in
    let now = c.args.options.now.now in
    let bytes = c.args.shard.now in
    let Makes = MinimalBytes kept now bytes in
    let Refuses = RefusesMinimalBytes kept bytes in
    let version = c.in_ok-version.version in
    let made = content c.in_ok-minimal.field-0 in
    let is = subst (λ k. IsMinimalOf k now bytes made) c.kept_of-kept.ensures c.in_ok-minimal.ensures in
    let makes = minimal_made kept now bytes made is in
    let fits = minimal_fits kept now bytes made is in
    filled_in c.args.version (λ v. LaidOutIn v Makes) (λ v. NotLaidOutIn v Makes Refuses) version c.in_ok-version.ensures made _ _ c.write_into.result (made_in Makes Refuses version made makes fits)
    (not_made_in Makes Refuses version made makes fits (inl (inl refl))) c.write_into.ensures

pub returns-clause-size : goal.returns-clause-size
returns-clause-size c =
    let kept = kept_parts c.args.options.now in
    let now = c.args.options.now.now in
    let bytes = c.args.shard.now in
    size_filled _ _ (IsMinimalSize bytes) _ _ c.write_into.result
    (λ out made. size_laid_out made.0 (MinimalBytes kept now bytes) (IsMinimalSize bytes) out (λ whole makes. minimal_size bytes whole kept now makes) made.2) (returns-clause-minimal c)
