use Rattle.xet_c.specs.ListedRecords.{IsListedXorb}
use Rattle.xet_c.proofs.Listing.{HasListed}
use Rattle.xet_c.proofs.write.xorbs_of.Given as goal

abbrev pub invariant-loop-xorb : goal.invariant-loop-xorb
invariant-loop-xorb l = HasListed (λ x. x.chunks) IsListedXorb l.listed l.chunks l.xorb-index l.rest l.xorbs.items
