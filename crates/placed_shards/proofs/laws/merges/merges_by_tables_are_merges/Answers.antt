use Rattle.placed_shards.proofs.MergesByTables.{merges_find_records, merges_lose_no_record}
use Rattle.placed_shards.proofs.laws.merges.merges_by_tables_are_merges.Goals as goal

pub returns-clause-lose_no_record : goal.returns-clause-lose_no_record
returns-clause-lose_no_record c = merges_lose_no_record

pub returns-clause-find_records : goal.returns-clause-find_records
returns-clause-find_records c = merges_find_records
