use Rattle.std.proofs.Common.{ℕ, ◌≤◌, sum_by, ◌∙◌, ◌+◌, take, get_or, ap, arith, ◌≡◌}
use Rattle.std.proofs.lemmas.List.Sums.{sum_by_more_le_part}
use Rattle.xet_records.specs.declared.file_structs.MDBFileInfo.{MDBFileInfo}
use Rattle.xet_records.specs.FileRecord.{row_count}
use Rattle.xet_records.specs.View.{as_kept}
use Rattle.xet_shards.proofs.StreamingShard.MinimalWriting.{as_kept-rows, sum_as_kept}
use Rattle.xet_shards.proofs.streaming_shard.minimal_writer.write_files.Goals as goal

pub write_file_view-requires : goal.write_file_view-requires
write_file_view-requires g c =
    let kept = c.args.kept in
    let files = c.args.files.now in
    let i = c.loop-file.file-index in
    let x = c.file-item.result in
    let rows : MDBFileInfo → ℕ = λ r. row_count (as_kept kept r) in
    let before : c.loop-file.written.table.rows ≡ sum_by rows (take i files) = c.loop-file.invariant.written.table.rows ∙ sum_as_kept kept (take i files) in
    let within : sum_by rows (take i files) + row_count (get_or files i x) ≤ sum_by row_count files = sum_by_more_le_part rows row_count files i x c.loop-file-test.true (as_kept-rows kept) in
    let fewer : rows x ≤ row_count x = as_kept-rows kept x in
    let goal_is : c.loop-file.written.table.rows + rows x ≤ 4294967295 = omega (arith, before, within, fewer, ap row_count c.file-item.is, c.requires.rows) in
    record { rows = goal_is }
