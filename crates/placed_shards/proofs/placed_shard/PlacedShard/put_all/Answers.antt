use Rattle.std.proofs.Common.{length, ap, subst, arith}
use Rattle.std.specs.Prelude.{All}
use Rattle.xet_records.specs.FileRecord.{file_records, IsStored}
use Rattle.xet_records.specs.XorbRecord.{xorb_records}
use Rattle.xet_shards.specs.Write.Layout.{header_value}
use Rattle.xet_shards.specs.Write.Section.{section_bytes, total_rows}
use Rattle.xet_shards.proofs.Write.Layouts.{length-file_section, length-xorb_section, length-shard_header_bytes}
use Rattle.placed_shards.specs.Content.{content, options_in}
use Rattle.xet_shards.specs.Write.Puts.{Puts}
use Rattle.placed_shards.specs.StoredFiles.{files_as}
use Rattle.placed_shards.proofs.Contents.{rows_of_files, shard_put, size_of_parts, widths_of_files}
use Rattle.placed_shards.proofs.placed_shard.PlacedShard.put_all.Goals as goal

pub put_header-at-requires : goal.put_header-at-requires
put_header-at-requires c =
    let s = c.args.self.now in
    let options = options_in c.args.version (content s) in
    let fit = widths_of_files s.as_read s.files.items (subst (All IsStored) c.as_slice.ensures.value c.all_stored.ensures) in
    let size = size_of_parts (content s).files s.xorbs.items options fit in
    let rows = rows_of_files s.as_read s.files.items in
    let header = length-shard_header_bytes (header_value c.args.version) in
    omega (arith, c.requires.room, size)

pub put_files-at-requires : goal.put_files-at-requires
put_files-at-requires c =
    let s = c.args.self.now in
    let options = options_in c.args.version (content s) in
    let fit = widths_of_files s.as_read s.files.items (subst (All IsStored) c.as_slice.ensures.value c.all_stored.ensures) in
    let size = size_of_parts (content s).files s.xorbs.items options fit in
    let rows = rows_of_files s.as_read s.files.items in
    let header = length-shard_header_bytes (header_value c.args.version) in
    omega (arith, c.requires.room, size, rows, header, c.put_header-at.ensures.end_is, ap (total_rows file_records) c.as_slice-2.ensures.value)

pub put_xorbs-at-requires : goal.put_xorbs-at-requires
put_xorbs-at-requires c =
    let s = c.args.self.now in
    let options = options_in c.args.version (content s) in
    let fit = widths_of_files s.as_read s.files.items (subst (All IsStored) c.as_slice.ensures.value c.all_stored.ensures) in
    let size = size_of_parts (content s).files s.xorbs.items options fit in
    let rows = rows_of_files s.as_read s.files.items in
    let header = length-shard_header_bytes (header_value c.args.version) in
    let files = subst (λ l. Puts c.put_header-at.new.out c.put_files-at.new.out c.put_header-at.result c.put_files-at.result (section_bytes file_records (files_as s.as_read l))) c.as_slice-2.ensures.value c.put_files-at.ensures in
    let first = length-file_section (content s).files fit in
    omega (arith, c.requires.room, size, rows, header, c.put_header-at.ensures.end_is, files.end_is, first, ap (total_rows xorb_records) c.as_slice-3.ensures.value)

pub put-requires : goal.put-requires
put-requires c =
    let s = c.args.self.now in
    let options = options_in c.args.version (content s) in
    let fit = widths_of_files s.as_read s.files.items (subst (All IsStored) c.as_slice.ensures.value c.all_stored.ensures) in
    let size = size_of_parts (content s).files s.xorbs.items options fit in
    let rows = rows_of_files s.as_read s.files.items in
    let header = length-shard_header_bytes (header_value c.args.version) in
    let files = subst (λ l. Puts c.put_header-at.new.out c.put_files-at.new.out c.put_header-at.result c.put_files-at.result (section_bytes file_records (files_as s.as_read l))) c.as_slice-2.ensures.value c.put_files-at.ensures in
    let first = length-file_section (content s).files fit in
    let xorbs = subst (λ l. Puts c.put_files-at.new.out c.put_xorbs-at.new.out c.put_files-at.result c.put_xorbs-at.result (section_bytes xorb_records l)) c.as_slice-3.ensures.value c.put_xorbs-at.ensures in
    let second = length-xorb_section s.xorbs.items in
    omega (arith, c.requires.room, size, header, c.put_header-at.ensures.end_is, files.end_is, first, xorbs.end_is, second, ap length c.requires.end)

pub returns : goal.returns
returns c =
    let s = c.args.self.now in
    let options = options_in c.args.version (content s) in
    let fit = widths_of_files s.as_read s.files.items (subst (All IsStored) c.as_slice.ensures.value c.all_stored.ensures) in
    let files = subst (λ l. Puts c.put_header-at.new.out c.put_files-at.new.out c.put_header-at.result c.put_files-at.result (section_bytes file_records (files_as s.as_read l))) c.as_slice-2.ensures.value c.put_files-at.ensures in
    let xorbs = subst (λ l. Puts c.put_files-at.new.out c.put_xorbs-at.new.out c.put_files-at.result c.put_xorbs-at.result (section_bytes xorb_records l)) c.as_slice-3.ensures.value c.put_xorbs-at.ensures in
    shard_put (content s).files s.xorbs.items options fit c.args.out.now c.put_header-at.new.out c.put_files-at.new.out c.put_xorbs-at.new.out c.put.new.out c.put_header-at.result c.put_files-at.result c.put_xorbs-at.result
    c.put.result c.put_header-at.ensures files xorbs (subst (Puts c.put_xorbs-at.new.out c.put.new.out c.put_xorbs-at.result c.put.result) c.requires.end c.put.ensures)
