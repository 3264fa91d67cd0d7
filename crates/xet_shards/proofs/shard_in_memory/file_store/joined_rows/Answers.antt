use Rattle.std.proofs.Common.{◌+◌, sym, ap, ◌∙◌}
use Rattle.xet_records.specs.FileRecord.{rows_after}
use Rattle.xet_records.proofs.Merging.{merged_rows}
use Rattle.xet_shards.proofs.shard_in_memory.file_store.joined_rows.Goals as goal

pub returns : goal.returns
returns c =
    ap (λ n. 1 + n) (c.rows_after.ensures.rows ∙ ap rows_after c.mix_with.ensures)
    ∙ sym (merged_rows c.args.file_info.now c.args.twin.now c.requires.own c.requires.others c.requires.same)
