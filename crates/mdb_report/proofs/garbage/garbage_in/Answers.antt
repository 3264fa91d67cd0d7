use Rattle.std.proofs.Common.{inr}
use Rattle.std.proofs.lemmas.Result.{err_from_is_err_and}
use Rattle.mdb_report.proofs.garbage.garbage_in.Goals as goal

pub returns-in_err-xorbs-clause-refused : goal.returns-in_err-xorbs-clause-refused
returns-in_err-xorbs-clause-refused c =
    let p = err_from_is_err_and c.from_residual-in_err-xorbs.result c.from_residual-in_err-xorbs.ensures.1 in
    rw (p.1, p.2) (inr c.in_err-xorbs.ensures.read)
