use Rattle.placed_shards.proofs.ConsecutiveTables.{tables_lose_no_record}
use Rattle.placed_shards.proofs.laws.tables_lose_no_record.Goals as goal

pub returns : goal.returns
returns c = tables_lose_no_record
