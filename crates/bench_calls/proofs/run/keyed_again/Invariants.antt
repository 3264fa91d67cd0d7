use Rattle.std.proofs.Common.{◌≡◌}
use Rattle.std.specs.Fn.{iterate}
use Rattle.xet_core_structures.specs.KeyedHash.{hmac}
use Rattle.bench_calls.proofs.run.keyed_again.Given as goal

abbrev pub invariant-loop : goal.invariant-loop
invariant-loop l = l.keyed ≡ iterate (hmac l.key) l.counter l.initial.keyed
