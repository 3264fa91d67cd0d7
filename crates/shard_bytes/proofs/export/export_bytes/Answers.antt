use Rattle.std.proofs.Common.{◌≡◌, inl, refl}
use Rattle.std.proofs.lemmas.Result.{err_from_is_err_and}
use Rattle.xet_core_structures.specs.declared.error.CoreError.TheVariants.{OutOfMemory}
use Rattle.placed_shards.specs.Content.{content}
use Rattle.placed_shards.proofs.Outcomes.{if_written}
use Rattle.shard_bytes.specs.Exporting.{ExportsBytes, HoldsExport, RefusesExport}
use Rattle.shard_bytes.specs.ResultSizes.{IsRewriteSize}
use Rattle.shard_bytes.specs.Versions.{LaidOutIn, NotLaidOutIn}
use Rattle.shard_bytes.proofs.Compositions.{IsWritten, IsNotWritten, made_in, refused_in, exports_made, export_fits}
use Rattle.shard_bytes.proofs.ExportedShards.{export_held, export_size, only_out_of_memory}
use Rattle.shard_bytes.proofs.InVersions.{not_laid_out_for, size_laid_out}
use Rattle.shard_bytes.proofs.Sizes.{if_made, if_refused}
use Rattle.shard_bytes.proofs.export.export_bytes.Goals as goal

pub returns-in_err-exported-clause-exported : goal.returns-in_err-exported-clause-exported
returns-in_err-exported-clause-exported c =
    let x = c.args.export.now in
    let p = err_from_is_err_and c.from_residual.result c.from_residual.ensures.1 in
    rw (p.1, p.2) (not_laid_out_for (ExportsBytes x c.args.bytes.now) (RefusesExport x c.args.bytes.now) c.args.version _ c.in_err-exported.ensures)

pub returns-in_err-exported-clause-succeeds : goal.returns-in_err-exported-clause-succeeds
returns-in_err-exported-clause-succeeds c = λ s holds follows fits.
    let x = c.args.export.now in
    let p = err_from_is_err_and c.from_residual.result c.from_residual.ensures.1 in
    rw (p.1, p.2) (not_laid_out_for (HoldsExport x s) (λ e. e ≡ OutOfMemory) c.args.version _ (only_out_of_memory s c.args.bytes.now follows x holds fits _ c.in_err-exported.ensures))

pub returns-clause-exported : goal.returns-clause-exported
returns-clause-exported c =
    let x = c.args.export.now in
    let bytes = c.args.bytes.now in
    let is = c.in_ok-exported.ensures in
    let made = content c.in_ok-exported.field-0 in
    let makes = exports_made x bytes made is in
    let fits = export_fits x bytes made is in
    if_written (IsWritten c.args.version made) (LaidOutIn c.args.version (ExportsBytes x bytes)) (IsNotWritten c.args.version made) (NotLaidOutIn c.args.version (ExportsBytes x bytes) (RefusesExport x bytes))
    c.to_bytes.result (made_in (ExportsBytes x bytes) (RefusesExport x bytes) c.args.version made makes fits)
    (refused_in (ExportsBytes x bytes) (RefusesExport x bytes) c.args.version made makes fits (inl refl)) c.to_bytes.ensures

pub returns-clause-of_shard : goal.returns-clause-of_shard
returns-clause-of_shard c = λ s shard follows.
    let x = c.args.export.now in
    let bytes = c.args.bytes.now in
    let is = c.in_ok-exported.ensures in
    let made = content c.in_ok-exported.field-0 in
    let holds = export_held s bytes follows x _ shard c.words_fit.ensures.key c.words_fit.ensures.now (exports_made x bytes made is) in
    if_made c.to_bytes.result _ _ _ (λ out. made_in (HoldsExport x s) (λ e. e ≡ OutOfMemory) c.args.version made holds (export_fits x bytes made is) out.items) c.to_bytes.ensures

pub returns-clause-succeeds : goal.returns-clause-succeeds
returns-clause-succeeds c = λ s holds follows fits.
    let x = c.args.export.now in
    let bytes = c.args.bytes.now in
    let is = c.in_ok-exported.ensures in
    let made = content c.in_ok-exported.field-0 in
    let held = export_held s bytes follows x _ holds.shard c.words_fit.ensures.key c.words_fit.ensures.now (exports_made x bytes made is) in
    if_refused c.to_bytes.result _ _ _ (refused_in (HoldsExport x s) (λ e. e ≡ OutOfMemory) c.args.version made held (export_fits x bytes made is) refl) c.to_bytes.ensures

pub returns-clause-size : goal.returns-clause-size
returns-clause-size c =
    let x = c.args.export.now in
    let bytes = c.args.bytes.now in
    if_made c.to_bytes.result _ _ _ (λ out. size_laid_out c.args.version (ExportsBytes x bytes) (IsRewriteSize bytes) out.items (export_size x bytes)) (returns-clause-exported c)
