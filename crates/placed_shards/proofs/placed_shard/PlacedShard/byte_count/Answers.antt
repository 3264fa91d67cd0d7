use Rattle.std.proofs.Common.{length, sym, ap, ◌∙◌, subst, arith}
use Rattle.std.specs.Prelude.{All}
use Rattle.xet_records.specs.FileRecord.{file_records, IsStored}
use Rattle.xet_records.specs.XorbRecord.{xorb_records}
use Rattle.xet_shards.specs.Write.Section.{total_rows}
use Rattle.xet_shards.specs.Write.Tables.{chunk_table}
use Rattle.xet_shards.proofs.Write.Written.{rows_of_table}
use Rattle.xet_shards.proofs.Write.XorbLayouts.{length-chunk_table, length-with_options, xorb_rows-chunks}
use Rattle.placed_shards.specs.Content.{content, options_in}
use Rattle.placed_shards.proofs.Contents.{length_files, rows_of_files, widths_of_files}
use Rattle.placed_shards.proofs.placed_shard.PlacedShard.byte_count.Goals as goal

pub overflow_sub-xorb_rows : goal.overflow_sub-xorb_rows
overflow_sub-xorb_rows c =
    let xs = c.args.self.now.xorbs.items in
    let rows = c.rows_of-xorb_rows.ensures ∙ ap (total_rows xorb_records) c.as_slice-xorbs.ensures.value in
    omega (arith, rows, ap length c.as_slice-xorbs.ensures.value, xorb_rows-chunks xs)

pub returns : goal.returns
returns c = λ version.
    let s = c.args.self.now in
    let fs = s.files.items in
    let xs = s.xorbs.items in
    let stored = subst (All IsStored) c.as_slice-files.ensures.value c.all_stored.ensures in
    let file_rows = c.rows_of-file_rows.ensures ∙ ap (total_rows file_records) c.as_slice-files.ensures.value ∙ sym (rows_of_files s.as_read fs) in
    let xorb_rows = c.rows_of-xorb_rows.ensures ∙ ap (total_rows xorb_records) c.as_slice-xorbs.ensures.value in
    let files = c.if_in-file_starts.ensures ∙ rows_of_table s.options.file_table (content s).files _ (ap length c.as_slice-files.ensures.value ∙ sym (length_files s.as_read fs)) in
    let xorbs = c.if_in-xorb_starts.ensures ∙ rows_of_table s.options.xorb_table xs _ (ap length c.as_slice-xorbs.ensures.value) in
    let chunks = c.if_in-chunks.ensures ∙ rows_of_table s.options.chunk_table (chunk_table xs) _ (omega (arith, xorb_rows, ap length c.as_slice-xorbs.ensures.value, xorb_rows-chunks xs, length-chunk_table xs)) in
    omega (arith, length-with_options (content s).files xs (options_in version (content s)) (widths_of_files s.as_read fs stored), file_rows, xorb_rows, files, xorbs, chunks)
