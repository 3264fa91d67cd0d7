use Rattle.std.proofs.Common.{◌≡◌, ◌++◌, ap, ◌∙◌}
use Rattle.xet_records.specs.FileRecord.{file_records}
use Rattle.xet_records.specs.XorbRecord.{xorb_records}
use Rattle.xet_shards.specs.Write.Layout.{if_included, shard_footer_bytes}
use Rattle.xet_shards.specs.Write.Tables.{table_bytes}
use Rattle.xet_shards.proofs.shard_format.write.shard_end.ShardEnd.make.Goals as goal

pub returns-clause-bytes : goal.returns-clause-bytes
returns-clause-bytes c = λ rs xs fit files xorbs.
    let options = c.args.options.now in
    let file_table : c.table_if_included-file_table.result.now ≡ if_included options.file_table (table_bytes file_records rs) =
    c.table_if_included-file_table.ensures ∙ ap (if_included options.file_table) (c.as_slice.ensures.value ∙ files.table.bytes) in
    let xorb_table : c.owned_table_if_included-xorb_table.result.items ≡ if_included options.xorb_table (table_bytes xorb_records xs) =
    c.owned_table_if_included-xorb_table.ensures ∙ ap (if_included options.xorb_table) xorbs.table.bytes in
    let chunk_table = c.in_ok-chunk_rows.ensures.bytes xs xorbs.chunk_rows in
    let footer = c.footer_of-footer.ensures.value rs xs fit files xorbs in
    λ i. ((file_table i ++ xorb_table i) ++ chunk_table i) ++ shard_footer_bytes (footer i)
