use Rattle.std.proofs.Common.{◌<◌, ◌≤◌, ◌++◌, ◌∷◌, [], length, take, flat_map, sym, ap, ◌∙◌, subst, arith, rules}
use Rattle.std.proofs.lemmas.List.{take_more, take_all}
use Rattle.std.proofs.lemmas.List.Sums.{sum_by_more, sum_by_more_le}
use Rattle.xet_records.specs.declared.file_structs.MDBFileInfo.{MDBFileInfo}
use Rattle.xet_records.specs.FileRecord.{file_record_bytes, file_records, row_count}
use Rattle.xet_records.specs.FileRow.{header_row}
use Rattle.xet_shards.specs.Write.Puts.{Puts}
use Rattle.placed_shards.specs.StoredFiles.{file_as, files_as}
use Rattle.placed_shards.proofs.Filling.{files_as-push, record_put, section_put}
use Rattle.placed_shards.proofs.putting.put_files.Goals as goal

pub put_file-end-requires : goal.put_file-end-requires
put_file-end-requires c =
    let files = c.args.files.now in
    let i = c.loop-file.file-index in
    let file = c.file-item.result in
    let below : i < length files = search rules in
    omega (arith, c.loop-file.invariant.size, c.requires, sum_by_more_le row_count files i file below, ap row_count c.file-item.is)

pub loop-file-preserved : goal.loop-file-preserved
loop-file-preserved c =
    let files = c.args.files.now in
    let i = c.loop-file.file-index in
    let file = c.file-item.result in
    let b = c.args.is_read in
    let below : i < length files = search rules in
    let more = ap (λ (f : MDBFileInfo). take i files ++ f ∷ []) c.file-item.is ∙ sym (take_more files i file below) in
    record {
      size = omega (arith, c.loop-file.invariant.size, c.put_file-end.ensures.end, sum_by_more row_count files i file below, ap row_count c.file-item.is);
      puts = subst (λ fs. Puts c.args.out.now c.put_file-end.new.out c.args.at c.put_file-end.result (flat_map file_record_bytes fs)) (sym (files_as-push b (take i files) file) ∙ ap (files_as b) more)
          (record_put file_records c.args.out.now c.loop-file.out c.put_file-end.new.out c.args.at c.loop-file.end c.put_file-end.result (files_as b (take i files)) (file_as b file) c.loop-file.invariant.puts c.put_file-end.ensures.bytes);
    }

pub returns : goal.returns
returns c =
    let files = c.args.files.now in
    let i = c.loop-file.file-index in
    let past : length files ≤ i = search rules in
    section_put file_records c.args.out.now c.loop-file.out c.put_bytes.new.out c.args.at c.loop-file.end c.put_bytes.result (files_as c.args.is_read files)
    (subst (λ fs. Puts c.args.out.now c.loop-file.out c.args.at c.loop-file.end (flat_map file_record_bytes (files_as c.args.is_read fs))) (take_all i files past) c.loop-file.invariant.puts)
    (subst (Puts c.loop-file.out c.put_bytes.new.out c.loop-file.end c.put_bytes.result) (c.to_bytes.ensures ∙ ap header_row c.bookend.ensures) c.put_bytes.ensures)
