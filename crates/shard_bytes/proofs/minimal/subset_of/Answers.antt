use Rattle.std.proofs.lemmas.Result.{err_from_is_err_and}
use Rattle.xet_core_structures.specs.KeyedExport.{ExportCase}
use Rattle.shard_bytes.proofs.MemoryErrors.{not_read_in_memory}
use Rattle.shard_bytes.proofs.MinimalCompositions.{subset_steps}
use Rattle.shard_bytes.proofs.minimal.subset_of.Goals as goal

pub returns-in_err-open_behind_header : goal.returns-in_err-open_behind_header
returns-in_err-open_behind_header c =
    let p = err_from_is_err_and c.from_residual.result c.from_residual.ensures.1 in
    rw (p.1, p.2) (not_read_in_memory c.args.bytes.now (ExportCase c.args.bytes.now) c.in_err-open_behind_header.field-0.0 (λ why. why) c.in_err-open_behind_header.ensures)

pub returns : goal.returns
returns c =
    subset_steps c.args.chosen.now c.args.bytes.now c.in_ok-open_behind_header.field-0 c.in_ok-shard.shard c.in_ok-with_marks.field-0 c.without_files-shard.result c.with_options.result c.minimal.result
    c.in_ok-open_behind_header.ensures.0 c.in_ok-shard.ensures.0 c.in_ok-shard.ensures.1 c.in_ok-with_marks.ensures c.without_files-shard.ensures.content c.with_options.ensures.content c.minimal.ensures
