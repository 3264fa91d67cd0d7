use Rattle.std.proofs.Common.{inl, refl}
use Rattle.std.proofs.lemmas.Result.{err_from_is_err_and}
use Rattle.placed_shards.specs.Content.{content}
use Rattle.shard_bytes.specs.Exporting.{ExportsBytes, RefusesExport}
use Rattle.shard_bytes.specs.ResultSizes.{IsRewriteSize}
use Rattle.shard_bytes.specs.Versions.{LaidOutIn, NotLaidOutIn}
use Rattle.shard_bytes.proofs.Compositions.{made_in, refused_in as not_made_in, exports_made, export_fits}
use Rattle.shard_bytes.proofs.ExportedShards.{export_size}
use Rattle.shard_bytes.proofs.InVersions.{not_laid_out_for, size_laid_out}
use Rattle.xet_c.proofs.Versions.{no_version, refused_in, filled_in, size_filled}
use Rattle.xet_c.proofs.export.fill.Goals as goal

pub returns-in_err-version-clause-exported : goal.returns-in_err-version-clause-exported
returns-in_err-version-clause-exported c =
    let Makes = ExportsBytes c.args.export.now c.args.shard.now in
    let Refuses = RefusesExport c.args.export.now c.args.shard.now in
    let p = err_from_is_err_and c.from_residual.result c.from_residual.ensures.1 in
    rw (p.1, p.2) (no_version c.args.version (λ v. LaidOutIn v Makes) (λ v. NotLaidOutIn v Makes Refuses) _ c.in_err-version.ensures, refl)

pub returns-in_err-exported-clause-exported : goal.returns-in_err-exported-clause-exported
returns-in_err-exported-clause-exported c =
    let Makes = ExportsBytes c.args.export.now c.args.shard.now in
    let Refuses = RefusesExport c.args.export.now c.args.shard.now in
    let version = c.in_ok-version.version in
    let p = err_from_is_err_and c.from_residual-in_err-exported.result c.from_residual-in_err-exported.ensures.1 in
    rw (p.1, p.2)
    (refused_in c.args.version (λ v. LaidOutIn v Makes) (λ v. NotLaidOutIn v Makes Refuses) version c.in_ok-version.ensures _ (not_laid_out_for Makes Refuses version _ c.in_err-exported.ensures), refl)

pub returns-clause-exported : goal.returns-clause-exported
returns-clause-exported c =
    let x = c.args.export.now in
    let bytes = c.args.shard.now in
    let Makes = ExportsBytes x bytes in
    let Refuses = RefusesExport x bytes in
    let version = c.in_ok-version.version in
    let made = content c.in_ok-exported.field-0 in
    let is = c.in_ok-exported.ensures in
    let makes = exports_made x bytes made is in
    let fits = export_fits x bytes made is in
    filled_in c.args.version (λ v. LaidOutIn v Makes) (λ v. NotLaidOutIn v Makes Refuses) version c.in_ok-version.ensures made _ _ c.write_into.result (made_in Makes Refuses version made makes fits)
    (not_made_in Makes Refuses version made makes fits (inl refl)) c.write_into.ensures

pub returns-clause-size : goal.returns-clause-size
returns-clause-size c =
    let x = c.args.export.now in
    let bytes = c.args.shard.now in
    size_filled _ _ (IsRewriteSize bytes) _ _ c.write_into.result (λ out made. size_laid_out made.0 (ExportsBytes x bytes) (IsRewriteSize bytes) out (export_size x bytes) made.2) (returns-clause-exported c)
