use Rattle.std.proofs.Common.{inl, refl}
use Rattle.std.proofs.lemmas.Result.{err_from_is_err_and}
use Rattle.xet_core_structures.specs.KeyedExport.{ExportCase}
use Rattle.placed_shards.specs.Content.{content, content_layout}
use Rattle.xet_core_structures.specs.declared.record_reader.FormatVersion.TheVariants.{V3}
use Rattle.shard_bytes.specs.Outcomes.{InMemory}
use Rattle.shard_bytes.specs.ResultSizes.{IsMinimalSize}
use Rattle.shard_bytes.specs.Versions.{LaidOutIn}
use Rattle.shard_bytes.proofs.Compositions.{made_in}
use Rattle.shard_bytes.proofs.InVersions.{size_laid_out}
use Rattle.shard_bytes.proofs.MinimalCompositions.{subset_made, subset_fits, subset_refused}
use Rattle.shard_bytes.proofs.MinimalSizes.{subset_size}
use Rattle.xet_c.specs.Arguments.{WritesSubset}
use Rattle.xet_c.proofs.Versions.{no_version, refused_in, filled_in, size_filled}
use Rattle.xet_c.proofs.subset.fill.Goals as goal

pub returns-in_err-version-clause-subset : goal.returns-in_err-version-clause-subset
returns-in_err-version-clause-subset c =
    let a = c.args in
    let p = err_from_is_err_and c.from_residual.result c.from_residual.ensures.1 in
    rw (p.1, p.2) (no_version a.version (λ v. LaidOutIn v (WritesSubset a.options.now a.xorbs.now a.shard.now)) (λ v. InMemory (ExportCase a.shard.now)) _ c.in_err-version.ensures, refl)

pub returns-in_err-asked-clause-subset : goal.returns-in_err-asked-clause-subset
returns-in_err-asked-clause-subset c =
    let a = c.args in
    let p = err_from_is_err_and c.from_residual-in_err-asked.result c.from_residual-in_err-asked.ensures.1 in
    rw (p.1, p.2)
    (refused_in a.version (λ v. LaidOutIn v (WritesSubset a.options.now a.xorbs.now a.shard.now)) (λ v. InMemory (ExportCase a.shard.now)) c.in_ok-version.version c.in_ok-version.ensures _ (inl c.in_err-asked.ensures.causes), refl)

pub returns-in_err-subset_of-clause-subset : goal.returns-in_err-subset_of-clause-subset
returns-in_err-subset_of-clause-subset c =
    let a = c.args in
    let p = err_from_is_err_and c.from_residual-in_err-subset_of.result c.from_residual-in_err-subset_of.ensures.1 in
    rw (p.1, p.2)
    (refused_in a.version (λ v. LaidOutIn v (WritesSubset a.options.now a.xorbs.now a.shard.now)) (λ v. InMemory (ExportCase a.shard.now)) c.in_ok-version.version c.in_ok-version.ensures _ c.in_err-subset_of.ensures, refl)

pub returns-clause-subset : goal.returns-clause-subset
returns-clause-subset c =
    let a = c.args in
    let bytes = a.shard.now in
    let Makes = WritesSubset a.options.now a.xorbs.now bytes in
    let Refuses = InMemory (ExportCase bytes) in
    let version = c.in_ok-version.version in
    let asked = c.in_ok-asked.asked in
    let made = content c.in_ok-subset_of.field-0 in
    let is = c.in_ok-subset_of.ensures in
    let makes : Makes (content_layout V3 made) = (asked, c.in_ok-asked.ensures.ok, subset_made asked bytes made is) in
    filled_in a.version (λ v. LaidOutIn v Makes) (λ v. Refuses) version c.in_ok-version.ensures made _ _ c.write_into.result (made_in Makes Refuses version made makes (subset_fits asked bytes made is))
    (subset_refused asked bytes made is version) c.write_into.ensures

pub returns-clause-size : goal.returns-clause-size
returns-clause-size c =
    let bytes = c.args.shard.now in
    size_filled _ _ (IsMinimalSize bytes) _ _ c.write_into.result
    (λ out made. size_laid_out made.0 (WritesSubset c.args.options.now c.args.xorbs.now bytes) (IsMinimalSize bytes) out (λ whole written. subset_size bytes whole written.0 written.2) made.2) (returns-clause-subset c)
