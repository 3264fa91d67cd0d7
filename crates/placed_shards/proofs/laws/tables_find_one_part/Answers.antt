use Rattle.placed_shards.proofs.OneByTables.{one_by_tables, rows_by_tables}
use Rattle.placed_shards.proofs.laws.tables_find_one_part.Goals as goal

pub returns-clause-one : goal.returns-clause-one
returns-clause-one c = one_by_tables

pub returns-clause-rows : goal.returns-clause-rows
returns-clause-rows c = rows_by_tables
