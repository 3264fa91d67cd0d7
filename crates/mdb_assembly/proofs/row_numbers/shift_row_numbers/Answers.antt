use Rattle.std.proofs.Common.{arith, ◌≡◌, ◌+◌, ◌≤◌, length}
use Rattle.std.proofs.lemmas.Result.{err_from_is_err_and}
use Rattle.mdb_assembly.proofs.RowNumbers.{one_more_raised, number_passes, all_raised}
use Rattle.mdb_assembly.proofs.row_numbers.shift_row_numbers.Goals as goal

pub loop-rows-preserved : goal.loop-rows-preserved
loop-rows-preserved c =
    let same : length c.shift_row_number.new.rows ≡ length c.loop-rows.rows = c.in_ok-shift_row_number.ensures.causes in
    let within : c.loop-rows.at + c.args.row_size ≤ length c.loop-rows.rows = omega (arith, c.loop-rows-test.true, c.loop-rows.invariant.0) in (
      omega (arith, same, within),
      omega (arith, same, c.loop-rows.invariant.1),
      λ table are fit.
          one_more_raised c.args.row_size c.args.first c.loop-rows.at table c.loop-rows.rows
          (c.loop-rows.invariant.2 table are fit) c.requires within c.shift_row_number.new.rows c.in_ok-shift_row_number.ensures.value,
    )

pub returns-clause-raised : goal.returns-clause-raised
returns-clause-raised c = λ table are fit.
    all_raised c.args.row_size c.args.first c.loop-rows.at table c.loop-rows.rows
    (c.loop-rows.invariant.2 table are fit) c.loop-rows-test.false

-- a number of this row, and so of the table, passes `u32`
pub returns-in_err-shift_row_number-clause-raised : goal.returns-in_err-shift_row_number-clause-raised
returns-in_err-shift_row_number-clause-raised c = λ table are fit.
    let p = err_from_is_err_and c.from_residual.result c.from_residual.ensures.1 in
    let within : c.loop-rows.at + c.args.row_size ≤ length c.loop-rows.rows =
    omega (arith, c.loop-rows-test.true, c.loop-rows.invariant.0) in
    rw (p.1, p.2) (
      c.in_err-shift_row_number.ensures.causes,
      number_passes c.args.row_size c.args.first c.loop-rows.at table c.loop-rows.rows
          (c.loop-rows.invariant.2 table are fit) c.requires within c.in_err-shift_row_number.ensures.value,
    )
