use Rattle.std.proofs.Common.{◌≡◌, map, take}
use Rattle.xet_c.specs.ListedRecords.{c_listed_xorb}
use Rattle.xet_c.proofs.records.listed_xorbs.Given as goal

abbrev pub invariant-loop-xorb : goal.invariant-loop-xorb
invariant-loop-xorb l = l.listed.items ≡ map c_listed_xorb (take l.xorb-index l.xorbs)
