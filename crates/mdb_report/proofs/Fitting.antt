-- Records in which nothing is found fit together.
use Rattle.std.proofs.Common.{arith, ◌≡◌, ℕ, List, length}
use Rattle.std.specs.Prelude.{Contains}
use Rattle.mdb_garbage.specs.declared.finding.GarbageFinding.{GarbageFinding}
use Rattle.mdb_report.specs.GarbageReport.{HoldsGarbage, IsFit}

none_found : (found : List GarbageFinding) (f : GarbageFinding) → length found ≡ 0 → ¬ Contains found f
none_found found f none = λ held. omega (arith, none, held.1)

pub no_garbage : (bytes : List ℕ) (found : List GarbageFinding) → HoldsGarbage bytes found → length found ≡ 0 → IsFit bytes
no_garbage bytes found h none = (h.0, h.1, h.2, h.3, λ f garbage. none_found found f none (h.4.all f garbage))
