use Rattle.std.proofs.Common.{◌≡◌, string_bytes}
use Rattle.std.specs.List.{flat_map}
use Rattle.mdb_overview.specs.Escapes.{escape}
use Rattle.mdb_overview.proofs.escape.escape_text.Given as goal

abbrev pub invariant-loop-c : goal.invariant-loop-c
invariant-loop-c l = string_bytes l.escaped ≡ flat_map escape l.yielded
