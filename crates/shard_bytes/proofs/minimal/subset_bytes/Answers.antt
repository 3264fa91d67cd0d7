use Rattle.placed_shards.specs.Content.{content}
use Rattle.placed_shards.proofs.Outcomes.{if_written}
use Rattle.xet_core_structures.specs.KeyedExport.{ExportCase}
use Rattle.shard_bytes.specs.Minimal.{SubsetBytes}
use Rattle.shard_bytes.specs.Outcomes.{InMemory}
use Rattle.shard_bytes.specs.ResultSizes.{IsMinimalSize}
use Rattle.shard_bytes.specs.Versions.{LaidOutIn}
use Rattle.shard_bytes.proofs.Compositions.{IsWritten, IsNotWritten, made_in}
use Rattle.shard_bytes.proofs.InVersions.{size_laid_out}
use Rattle.shard_bytes.proofs.MinimalCompositions.{subset_made, subset_fits, subset_refused}
use Rattle.shard_bytes.proofs.MinimalSizes.{subset_size}
use Rattle.shard_bytes.proofs.Sizes.{if_made}
use Rattle.shard_bytes.proofs.minimal.subset_bytes.Goals as goal

pub returns-clause-subset : goal.returns-clause-subset
returns-clause-subset c =
    let a = c.args in
    let x = a.chosen.now in
    let bytes = a.bytes.now in
    let made = content c.in_ok-subset_of.field-0 in
    let is = c.in_ok-subset_of.ensures in
    if_written (IsWritten a.version made) (LaidOutIn a.version (SubsetBytes x bytes)) (IsNotWritten a.version made) (InMemory (ExportCase bytes)) c.to_bytes.result
    (made_in (SubsetBytes x bytes) (InMemory (ExportCase bytes)) a.version made (subset_made x bytes made is) (subset_fits x bytes made is)) (subset_refused x bytes made is a.version) c.to_bytes.ensures

pub returns-clause-size : goal.returns-clause-size
returns-clause-size c =
    let a = c.args in
    if_made c.to_bytes.result _ _ _
    (λ out. size_laid_out a.version (SubsetBytes a.chosen.now a.bytes.now) (IsMinimalSize a.bytes.now) out.items (λ bytes made. subset_size a.bytes.now bytes a.chosen.now made)) (returns-clause-subset c)
