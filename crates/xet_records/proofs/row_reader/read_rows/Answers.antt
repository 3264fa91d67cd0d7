use Rattle.std.proofs.Common.{◌+◌, ◌*◌, ◌≤◌, ◌++◌, length, flat_map, arith}
use Rattle.std.proofs.lemmas.List.{length-append}
use Rattle.std.proofs.lemmas.Result.{err_from_is_err_and}
use Rattle.xet_records.proofs.Reading.{no_rows, more_rows}
use Rattle.xet_records.proofs.row_reader.read_rows.Goals as goal

pub loop-row-init : goal.loop-row-init
loop-row-init g c = rw c.in_ok-rows.ensures.empty (no_rows _ _ _ _ (g.met.I.ByteInput.reads_nothing _))

pub loop-row-preserved : goal.loop-row-preserved
loop-row-preserved g c =
    rw c.in_ok-push.ensures.ok (more_rows _ _ _ _ _ _ _ _ _ (g.met.I.ByteInput.joins _ c.loop-row.input _) c.loop-row.invariant c.in_ok-read_input_row.ensures)

pub returns-in_err-read_input_row : goal.returns-in_err-read_input_row
returns-in_err-read_input_row g c =
    let before = c.loop-row.invariant in
    let within : length (flat_map g.T.Row.row_bytes before.stored) + 48 ≤ 48 * c.args.count = omega (arith, before.size) in
    let p = err_from_is_err_and c.from_residual-in_err-read_input_row.result c.from_residual-in_err-read_input_row.ensures.1 in
    rw (p.1) (g.met.I.ByteInput.fails_later _ c.loop-row.input _ (flat_map g.T.Row.row_bytes before.stored) 48 _ _ before.taken
    (g.met.I.ByteInput.fails_once _ _ 48 _ _ c.in_err-read_input_row.ensures p.2) within)

pub returns-in_err-push : goal.returns-in_err-push
returns-in_err-push g c =
    let row = c.in_ok-read_input_row.ensures in
    let before = c.loop-row.invariant in
    let within : length (flat_map g.T.Row.row_bytes before.stored ++ g.T.Row.row_bytes row.stored) ≤ 48 * c.args.count =
    omega (arith, before.size, row.size, length-append (flat_map g.T.Row.row_bytes before.stored) (g.T.Row.row_bytes row.stored)) in
    let p = err_from_is_err_and c.from_residual-in_err-push.result c.from_residual-in_err-push.ensures.1 in
    rw (p.1) (g.met.I.ByteInput.lacks_memory _ c.read_input_row.new.input (flat_map g.T.Row.row_bytes before.stored ++ g.T.Row.row_bytes row.stored) _ _
    (g.met.I.ByteInput.joins _ c.loop-row.input _ _ _ before.taken row.taken) within (omega (arith, c.loop-row-test.true)) p.2)
