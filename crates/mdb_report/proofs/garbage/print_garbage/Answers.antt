use Rattle.std.proofs.Common.{arith, ◌≡◌, length}
use Rattle.std.proofs.lemmas.Bool.Decides.{nat_tests}
use Rattle.mdb_report.proofs.Fitting.{no_garbage}
use Rattle.mdb_report.proofs.garbage.print_garbage.Goals as goal

pub returns-in-Ok : goal.returns-in-Ok
returns-in-Ok g c = λ yes.
    let none : length c.in-Ok.found.items ≡ 0 = grind (arith, nat_tests, c.is_empty-fits.ensures, yes) in
    no_garbage c.args.bytes.now c.in-Ok.found.items c.in-Ok.ensures.found none
