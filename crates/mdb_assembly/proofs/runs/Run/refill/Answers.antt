use Rattle.std.proofs.Common.{arith, ◌≡◌, ap, length, refl}
use Rattle.mdb_assembly.proofs.runs.Run.refill.Goals as goal

-- nothing is left, or there is no room
pub returns-then-size-eq0 : goal.returns-then-size-eq0
returns-then-size-eq0 g c =
    let none : length c.clear.new.self.items ≡ 0 = ap length c.clear.ensures.items in (
      omega (arith, none, c.min-size.ensures, c.if-size-eq0.true),
      refl,
      omega (arith, none),
      omega (arith, none),
    )
