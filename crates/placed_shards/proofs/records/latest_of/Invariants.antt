use Rattle.placed_shards.proofs.Latest.{IsLatest}
use Rattle.placed_shards.proofs.records.latest_of.Given as goal

abbrev pub invariant-loop-given : goal.invariant-loop-given
invariant-loop-given g l =
    IsLatest g.R.SectionRecord.kind g.R.GivenRecord.IsFormed l.fn.records.items l.given-iterator.rest.items l.latest.entries l.rows
