use Rattle.std.proofs.Common.{[], refl, arith}
use Rattle.std.proofs.lemmas.Result.{err_from_is_err_and}
use Rattle.xet_records.proofs.RecordKinds.{file_read, rows_within, rows_within_aux}
use Rattle.xet_records.proofs.file_structs.MDBFileInfoSectionRecord.skip_rows_after.Goals as goal

pub returns-in_err-skip_rows : goal.returns-in_err-skip_rows
returns-in_err-skip_rows g c =
    let p = err_from_is_err_and c.from_residual.result c.from_residual.ensures.1 in
    rw (p.1, p.2) (g.met.I.ByteInput.fails_later _ c.args.input.now _ [] _ _ _ (g.met.I.ByteInput.reads_nothing _) c.in_err-skip_rows.ensures (omega arith))

pub returns-in_err-metadata_ext : goal.returns-in_err-metadata_ext
returns-in_err-metadata_ext g c =
    let s = c.in_ok-skip_rows.ensures.1 in
    let v = c.in_ok-skip_rows-2.ensures.1 in
    let p = err_from_is_err_and c.from_residual-in_err-metadata_ext.result c.from_residual-in_err-metadata_ext.ensures.1 in
    let within = rows_within c.args.header _ _ _ _ c.part_rows.ensures c.contains_metadata_ext.ensures s.size v.size in
    rw (p.1) (g.met.I.ByteInput.fails_later _ c.skip_rows-2.new.input _ _ _ _ _ (g.met.I.ByteInput.joins _ c.skip_rows.new.input _ _ _ s.taken v.taken)
    (g.met.I.ByteInput.fails_once _ _ _ _ _ c.in_err-metadata_ext.ensures.fails p.2) within)

pub returns-in_err-_aux_ext : goal.returns-in_err-_aux_ext
returns-in_err-_aux_ext g c =
    let s = c.in_ok-skip_rows.ensures.1 in
    let v = c.in_ok-skip_rows-2.ensures.1 in
    let e = c.in_ok-metadata_ext.ensures.value in
    let p = err_from_is_err_and c.from_residual-in_err-_aux_ext.result c.from_residual-in_err-_aux_ext.ensures.1 in
    let within = rows_within_aux c.args.header _ _ _ _ _ _ c.part_rows.ensures c.contains_metadata_ext.ensures c.contains_aux_ext.ensures s.size v.size e.size in
    let joins = g.met.I.ByteInput.joins c.args.input.now in
    rw (p.1) (g.met.I.ByteInput.fails_later _ c.read_optional.new.input _ _ _ _ _ (joins c.skip_rows-2.new.input _ _ _ (joins c.skip_rows.new.input _ _ _ s.taken v.taken) e.taken)
    (g.met.I.ByteInput.fails_once _ _ _ _ _ c.in_err-_aux_ext.ensures.fails p.2) within)

pub returns : goal.returns
returns g c =
    let s = c.in_ok-skip_rows.ensures in
    let v = c.in_ok-skip_rows-2.ensures in
    let kept = c.in_ok-metadata_ext.metadata_ext in
    let skipped = c.in_ok-_aux_ext._aux_ext in (
      record { metadata = c.args.header; segments = s.0; verification = v.0; metadata_ext = kept; aux_ext = skipped },
      refl,
      file_read g.I.ByteInput.reads g.met.I.ByteInput.reads_nothing g.met.I.ByteInput.joins c.args.header _ c.skip_rows.new.input c.skip_rows-2.new.input c.read_optional.new.input _
          _ _ _ s.0 v.0 kept skipped c.part_rows.ensures c.contains_metadata_ext.ensures c.contains_aux_ext.ensures s.1 v.1 c.in_ok-metadata_ext.ensures.value c.in_ok-_aux_ext.ensures.value,
    )
