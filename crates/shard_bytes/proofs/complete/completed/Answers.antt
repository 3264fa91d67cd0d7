use Rattle.std.proofs.Common.{◌∙◌}
use Rattle.std.proofs.lemmas.Result.{err_from_is_err_and}
use Rattle.xet_core_structures.specs.KeyedExport.{ExportCase}
use Rattle.placed_shards.specs.StoredFiles.{files_as}
use Rattle.shard_bytes.proofs.MemoryErrors.{not_read_in_memory}
use Rattle.shard_bytes.proofs.complete.completed.Goals as goal

pub returns-in_err-shard : goal.returns-in_err-shard
returns-in_err-shard c =
    let p = err_from_is_err_and c.from_residual.result c.from_residual.ensures.1 in
    rw (p.1, p.2) (not_read_in_memory c.args.bytes.now (ExportCase c.args.bytes.now) c.in_err-shard.field-0.0 (λ why. why) c.in_err-shard.ensures)

pub returns : goal.returns
returns c =
    let shard = c.in_ok-shard.shard in
    let read = c.in_ok-shard.ensures in (
      shard.files.items,
      shard.xorbs.items,
      read.0,
      c.with_options.ensures.content
          ∙ (λ i. record { files = files_as (read.1 i) shard.files.items; xorbs = shard.xorbs.items; options = record (read.2 i) { key = c.args.key } }),
    )
