use Rattle.std.proofs.Common.{[], ◌+◌, ◌*◌, ◌≤◌, length, flat_map, arith}
use Rattle.std.proofs.lemmas.Result.{err_from_is_err_and}
use Rattle.xet_records.specs.FileRecord.{rows_after}
use Rattle.xet_records.specs.FileRow.{segment_row}
use Rattle.xet_records.proofs.Copying.{copy_fails_later, file_copied}
use Rattle.xet_records.proofs.file_copier.copy_file_rows.Goals as goal

pub returns-in_err-size-clause-copied : goal.returns-in_err-size-clause-copied
returns-in_err-size-clause-copied g c =
    let p = err_from_is_err_and c.from_residual.result c.from_residual.ensures.1 in
    rw (p.1, p.2) (copy_fails_later g.I.ByteInput.reads g.I.ByteInput.fails g.met.I.ByteInput.joins g.met.I.ByteInput.fails_later _ c.args.input.now _ [] _ _ _
    (g.met.I.ByteInput.reads_nothing _) c.in_err-size.ensures.copied (omega arith))

pub returns-in_err-copy_rows-clause-copied : goal.returns-in_err-copy_rows-clause-copied
returns-in_err-copy_rows-clause-copied g c =
    let s = c.in_ok-size.ensures.copied.1.read in
    let within : length (flat_map segment_row s.stored) + 48 * c.optional_rows.result ≤ 48 * rows_after c.args.header = omega (arith, s.size, c.optional_rows.ensures.rows) in
    let p = err_from_is_err_and c.from_residual-in_err-copy_rows.result c.from_residual-in_err-copy_rows.ensures.1 in
    rw (p.1, p.2) (copy_fails_later g.I.ByteInput.reads g.I.ByteInput.fails g.met.I.ByteInput.joins g.met.I.ByteInput.fails_later _ c.copy_segments.new.input _ _ _ _ _
    s.taken c.in_err-copy_rows.ensures within)

pub returns-clause-copied : goal.returns-clause-copied
returns-clause-copied g c =
    let s = c.in_ok-size.ensures.copied in
    let e = rw c.optional_rows.ensures.rows at c.in_ok-copy_rows.ensures.1 in
    file_copied _ _ _ (g.met.I.ByteInput.joins c.args.input.now c.copy_segments.new.input _) c.args.header _ (g.W.Write.contents c.copy_segments.new.writer) _ _
    s.0 c.in_ok-copy_rows.ensures.0 s.1 s.2 e
