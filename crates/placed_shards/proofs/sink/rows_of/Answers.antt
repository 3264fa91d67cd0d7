use Rattle.std.proofs.Common.{◌<◌, ◌≤◌, length, ap, ◌∙◌, arith, rules}
use Rattle.std.proofs.lemmas.List.{take_all}
use Rattle.std.proofs.lemmas.List.Sums.{sum_by_more, sum_by_more_le}
use Rattle.xet_shards.specs.Write.Section.{total_rows}
use Rattle.placed_shards.proofs.sink.rows_of.Goals as goal

pub overflow_add-size : goal.overflow_add-size
overflow_add-size g c =
    let count = g.P.PlacedRecord.kind.row_count in
    let rs = c.args.records.now in
    let i = c.loop-record.record-index in
    let r = c.record-item.result in
    let below : i < length rs = search rules in
    omega (arith, c.loop-record.invariant, c.bytes.ensures.len, c.requires, sum_by_more_le count rs i r below, ap count c.record-item.is)

pub loop-record-preserved : goal.loop-record-preserved
loop-record-preserved g c =
    let count = g.P.PlacedRecord.kind.row_count in
    let rs = c.args.records.now in
    let i = c.loop-record.record-index in
    let r = c.record-item.result in
    let below : i < length rs = search rules in
    omega (arith, c.loop-record.invariant, c.bytes.ensures.len, sum_by_more count rs i r below, ap count c.record-item.is)

pub returns : goal.returns
returns g c =
    let past : length c.args.records.now ≤ c.loop-record.record-index = search rules in
    c.loop-record.invariant ∙ ap (total_rows g.P.PlacedRecord.kind) (take_all c.loop-record.record-index c.args.records.now past)
