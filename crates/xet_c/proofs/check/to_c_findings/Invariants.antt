use Rattle.std.proofs.Common.{◌≡◌, map, take}
use Rattle.xet_c.specs.ShownChecks.{c_finding}
use Rattle.xet_c.proofs.check.to_c_findings.Given as goal

abbrev pub invariant-loop-finding : goal.invariant-loop-finding
invariant-loop-finding l = l.shown.items ≡ map c_finding (take l.finding-index l.findings)
