use Rattle.std.proofs.Common.{◌≡◌, take}
use Rattle.xet_c.specs.ListedRecords.{all_segments}
use Rattle.xet_c.proofs.records.segments_of_all.Given as goal

abbrev pub invariant-loop-file : goal.invariant-loop-file
invariant-loop-file l = l.segments.items ≡ all_segments (take l.file-index l.files)
