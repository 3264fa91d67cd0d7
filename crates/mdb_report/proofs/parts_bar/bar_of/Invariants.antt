use Rattle.std.proofs.Common.{◌≡◌, string_bytes}
use Rattle.mdb_report.specs.PartsBar.{columns}
use Rattle.mdb_report.proofs.parts_bar.bar_of.Given as goal

-- the columns so far are there
abbrev pub invariant-loop-column : goal.invariant-loop-column
invariant-loop-column l = string_bytes l.bar ≡ columns l.parts l.bytes l.column
