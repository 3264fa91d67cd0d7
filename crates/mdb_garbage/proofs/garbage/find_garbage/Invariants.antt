use Rattle.std.proofs.Common.{◌≡◌, None, take}
use Rattle.mdb_garbage.specs.Reports.{HasSeen}
use Rattle.mdb_garbage.proofs.garbage.find_garbage.Given as goal

abbrev pub invariant-loop-xorb : goal.invariant-loop-xorb
invariant-loop-xorb l = record {
  all : l.garbage.range ≡ record { from = None; to = None };
  seen : HasSeen l.files (take l.xorb-index l.xorbs) l.garbage;
}
