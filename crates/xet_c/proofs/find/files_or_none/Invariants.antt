use Rattle.std.proofs.Common.{◌≡◌, map, unwrap_or}
use Rattle.xet_c.specs.ListedFiles.{no_file}
use Rattle.xet_c.proofs.find.files_or_none.Given as goal

abbrev pub invariant-loop-file : goal.invariant-loop-file
invariant-loop-file l = l.files.items ≡ map (λ file. unwrap_or file no_file) l.yielded
