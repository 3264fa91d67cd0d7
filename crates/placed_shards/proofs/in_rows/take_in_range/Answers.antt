use Rattle.std.proofs.Common.{inl}
use Rattle.xet_records.specs.RecordKind.{in_version}
use Rattle.xet_records.proofs.RecordKinds.{laws_in}
use Rattle.placed_shards.proofs.InRows.{none_at_end, none_taken}
use Rattle.placed_shards.proofs.in_rows.take_in_range.Goals as goal

pub returns-in-Ok-None : goal.returns-in-Ok-None
returns-in-Ok-None g c =
    let K = g.P.PlacedRecord.kind in
    none_at_end (in_version K c.args.version) (laws_in K c.laws.ensures.laws c.args.version) c.args.range.now c.args.before c.args.rows_left.now c.args.bytes.now (inl (rw c.in-Ok-None.field-0-is at c.in-Ok-None.ensures))

pub returns : goal.returns
returns g c =
    let K = g.P.PlacedRecord.kind in
    none_taken (in_version K c.args.version) (laws_in K c.laws.ensures.laws c.args.version) c.args.range.now c.args.before c.args.rows_left.now c.args.bytes.now _ c.in-Err.ensures
