use Rattle.std.proofs.Common.{◌≡◌, None, take}
use Rattle.mdb_garbage.specs.CollectedRanges.{HoldsSegments}
use Rattle.mdb_garbage.proofs.garbage.all_segments.Given as goal

abbrev pub invariant-loop-file : goal.invariant-loop-file
invariant-loop-file l = record {
  all : l.segments.range ≡ record { from = None; to = None };
  holds : HoldsSegments (take l.file-index l.files) l.segments.range l.segments.items.items;
}
