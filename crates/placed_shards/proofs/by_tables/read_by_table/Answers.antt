use Rattle.xet_records.specs.RecordKind.{in_version}
use Rattle.placed_shards.proofs.ByTables.{by_table}
use Rattle.placed_shards.proofs.by_tables.read_by_table.Goals as goal

pub returns : goal.returns
returns g c =
    by_table (in_version g.P.PlacedRecord.kind c.args.version) c.args.range.now c.args.section.now c.args.table.now.rows.now c.args.table.now.last c.first_row-first.result c.end_row-end.result (λ records. records.items)
    c.first_row-first.ensures c.end_row-end.ensures c.read_in_rows.result c.read_in_rows.ensures
