use Rattle.mdb_assembly.proofs.Parts.{drop_past}
use Rattle.mdb_assembly.proofs.assembly.Assembly.keep_starts.Goals as goal

pub returns-in_err-shift_starts-clause-elsewhere : goal.returns-in_err-shift_starts-clause-elsewhere
returns-in_err-shift_starts-clause-elsewhere g c = λ i past.
    drop_past c.args.from c.args.to c.args.part.now c.shift_starts.new.rows i past c.in_ok-check_range.ensures.0
    c.in_ok-check_range.ensures.1 c.shift_starts.auto.rows

pub returns-clause-elsewhere : goal.returns-clause-elsewhere
returns-clause-elsewhere g c = λ i past.
    drop_past c.args.from c.args.to c.args.part.now c.shift_starts.new.rows i past c.in_ok-check_range.ensures.0
    c.in_ok-check_range.ensures.1 c.shift_starts.auto.rows
