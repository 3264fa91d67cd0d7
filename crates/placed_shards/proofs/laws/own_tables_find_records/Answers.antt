use Rattle.placed_shards.proofs.OwnTables.{own_tables_open}
use Rattle.placed_shards.proofs.WrittenTables.{written_tables}
use Rattle.placed_shards.proofs.laws.own_tables_find_records.Goals as goal

pub returns-clause-opened : goal.returns-clause-opened
returns-clause-opened c = own_tables_open

pub returns-clause-written : goal.returns-clause-written
returns-clause-written c = written_tables
