use Rattle.std.proofs.Common.{◌≡◌, map, take}
use Rattle.xet_c.specs.ListedRecords.{c_listed_file}
use Rattle.xet_c.proofs.records.listed_files.Given as goal

abbrev pub invariant-loop-file : goal.invariant-loop-file
invariant-loop-file l = l.listed.items ≡ map c_listed_file (take l.file-index l.files)
