use Rattle.xet_c.specs.ListedRecords.{IsListedFile}
use Rattle.xet_c.proofs.Listing.{HasListed}
use Rattle.xet_c.proofs.write.files_of.Given as goal

abbrev pub invariant-loop-file : goal.invariant-loop-file
invariant-loop-file l = HasListed (λ f. f.segments) IsListedFile l.listed l.segments l.file-index l.rest l.files.items
