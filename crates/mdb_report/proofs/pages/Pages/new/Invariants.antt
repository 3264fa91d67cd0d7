use Rattle.std.proofs.Common.{◌≡◌, replicate, None}
use Rattle.mdb_report.proofs.pages.Pages.new.Given as goal

-- so many places so far, and no page in them
abbrev pub invariant-loop : goal.invariant-loop
invariant-loop l = l.pages.items ≡ replicate l.counter None
