use Rattle.std.proofs.Common.{◌<◌, ◌++◌, ◌∷◌, [], length, take, sym, ap, ◌∙◌, subst, arith, rules}
use Rattle.std.proofs.lemmas.List.{length-append, take_more}
use Rattle.std.proofs.lemmas.List.Sums.{sum_by_more_le}
use Rattle.xet_records.specs.declared.xorb_structs.MDBXorbInfo.{MDBXorbInfo}
use Rattle.xet_records.specs.XorbRecord.{xorb_records, xorb_row_count}
use Rattle.xet_records.proofs.RecordKinds.{xorb_laws}
use Rattle.xet_shards.specs.Write.Written.{HasWrittenXorbs}
use Rattle.placed_shards.proofs.collecting.collect_with_chunks.Goals as goal

pub collect-requires-clause-there : goal.collect-requires-clause-there
collect-requires-clause-there c =
    let r = c.xorb-item.result in
    let stores = c.header_and_rows.ensures in
    omega (arith, ap length stores.rows_are, length-append (xorb_records.bytes_after r) stores.rest, xorb_laws.size_after r stores.is_stored, ap xorb_records.rows_after stores.header_is)

pub collect-requires-clause-rows : goal.collect-requires-clause-rows
collect-requires-clause-rows c =
    let xorbs = c.args.xorbs.now in
    let i = c.loop-xorb.xorb-index in
    let r = c.xorb-item.result in
    let stores = c.header_and_rows.ensures in
    let below : i < length xorbs = search rules in
    omega (arith, c.loop-xorb.invariant.table.rows, c.requires, sum_by_more_le xorb_row_count xorbs i r below, xorb_laws.rows r stores.is_stored, ap xorb_records.rows_after stores.header_is, ap xorb_row_count c.xorb-item.is)

pub loop-xorb-preserved : goal.loop-xorb-preserved
loop-xorb-preserved c =
    let xorbs = c.args.xorbs.now in
    let i = c.loop-xorb.xorb-index in
    let r = c.xorb-item.result in
    let below : i < length xorbs = search rules in
    let more = ap (λ (x : MDBXorbInfo). take i xorbs ++ x ∷ []) c.xorb-item.is ∙ sym (take_more xorbs i r below) in
    subst (HasWrittenXorbs c.collect.new.self) more (c.in_ok-collect.ensures.collected r c.header_and_rows.ensures (take i xorbs) c.loop-xorb.invariant).0
