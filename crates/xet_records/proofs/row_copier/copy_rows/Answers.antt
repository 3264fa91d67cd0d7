use Rattle.std.proofs.Common.{[], ◌∷◌, ◌+◌, ◌*◌, ◌≤◌, ◌++◌, length, flat_map, arith}
use Rattle.std.proofs.lemmas.Result.{err_from_is_err_and}
use Rattle.xet_records.proofs.Copying.{none_copied, more_copied, copy_fails_later}
use Rattle.xet_records.proofs.row_copier.copy_rows.Goals as goal

pub loop-row-init : goal.loop-row-init
loop-row-init g c = ([], none_copied _ _ _ _ _ (g.met.I.ByteInput.reads_nothing _))

pub loop-row-preserved : goal.loop-row-preserved
loop-row-preserved g c =
    let before = c.loop-row.invariant in (
      before.0 ++ c.in_ok-copy_row.field-0 ∷ [],
      more_copied _ _ _ _ _ _ _ (g.W.Write.contents c.loop-row.writer) _ _ _ _ (g.met.I.ByteInput.joins _ c.loop-row.input _) before.1 c.in_ok-copy_row.ensures,
    )

pub returns-in_err-copy_row : goal.returns-in_err-copy_row
returns-in_err-copy_row g c =
    let before = c.loop-row.invariant.1 in
    let within : length (flat_map g.T.Row.row_bytes before.read.stored) + 48 ≤ 48 * c.args.count = omega (arith, before.read.size) in
    let p = err_from_is_err_and c.from_residual.result c.from_residual.ensures.1 in
    rw (p.1, p.2) (copy_fails_later g.I.ByteInput.reads g.I.ByteInput.fails g.met.I.ByteInput.joins g.met.I.ByteInput.fails_later _ c.loop-row.input _ _ _ _ _
    before.read.taken c.in_err-copy_row.ensures within)
