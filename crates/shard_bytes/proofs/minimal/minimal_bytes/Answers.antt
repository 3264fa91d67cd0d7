use Rattle.std.proofs.Common.{inl, refl}
use Rattle.std.proofs.lemmas.Result.{err_from_is_err_and}
use Rattle.placed_shards.specs.Content.{content}
use Rattle.placed_shards.proofs.Outcomes.{if_written}
use Rattle.shard_bytes.specs.Minimal.{MinimalBytes, RefusesMinimalBytes}
use Rattle.shard_bytes.specs.ResultSizes.{IsMinimalSize}
use Rattle.shard_bytes.specs.Versions.{LaidOutIn, NotLaidOutIn}
use Rattle.shard_bytes.proofs.Compositions.{IsWritten, IsNotWritten, made_in, refused_in}
use Rattle.shard_bytes.proofs.InVersions.{not_laid_out_for, size_laid_out}
use Rattle.shard_bytes.proofs.MinimalCompositions.{minimal_made, minimal_fits}
use Rattle.shard_bytes.proofs.MinimalSizes.{minimal_size}
use Rattle.shard_bytes.proofs.Sizes.{if_made}
use Rattle.shard_bytes.proofs.minimal.minimal_bytes.Goals as goal

pub returns-in_err-minimal-clause-minimal : goal.returns-in_err-minimal-clause-minimal
returns-in_err-minimal-clause-minimal c =
    let a = c.args in
    let p = err_from_is_err_and c.from_residual.result c.from_residual.ensures.1 in
    rw (p.1, p.2) (not_laid_out_for (MinimalBytes a.kept a.now a.bytes.now) (RefusesMinimalBytes a.kept a.bytes.now) a.version _ c.in_err-minimal.ensures)

pub returns-clause-minimal : goal.returns-clause-minimal
returns-clause-minimal c =
    let a = c.args in
    let Makes = MinimalBytes a.kept a.now a.bytes.now in
    let Refuses = RefusesMinimalBytes a.kept a.bytes.now in
    let made = content c.in_ok-minimal.field-0 in
    let is = c.in_ok-minimal.ensures in
    let makes = minimal_made a.kept a.now a.bytes.now made is in
    let fits = minimal_fits a.kept a.now a.bytes.now made is in
    if_written (IsWritten a.version made) (LaidOutIn a.version Makes) (IsNotWritten a.version made) (NotLaidOutIn a.version Makes Refuses) c.to_bytes.result (made_in Makes Refuses a.version made makes fits)
    (refused_in Makes Refuses a.version made makes fits (inl (inl refl))) c.to_bytes.ensures

pub returns-clause-size : goal.returns-clause-size
returns-clause-size c =
    let a = c.args in
    if_made c.to_bytes.result _ _ _
    (λ out. size_laid_out a.version (MinimalBytes a.kept a.now a.bytes.now) (IsMinimalSize a.bytes.now) out.items (λ bytes made. minimal_size a.bytes.now bytes a.kept a.now made))
    (returns-clause-minimal c)
