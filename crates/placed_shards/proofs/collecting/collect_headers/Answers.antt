use Rattle.std.proofs.Common.{◌+◌, ◌<◌, ◌++◌, ◌∷◌, [], false, length, take, sym, ap, ◌∙◌, subst, arith, rules, true≢false}
use Rattle.std.proofs.lemmas.List.{take_more}
use Rattle.std.proofs.lemmas.List.Sums.{sum_by_more_le}
use Rattle.xet_records.specs.declared.xorb_structs.MDBXorbInfo.{MDBXorbInfo}
use Rattle.xet_records.specs.declared.xorb_structs.XorbChunkSequenceHeader.{XorbChunkSequenceHeader}
use Rattle.xet_records.specs.XorbRecord.{xorb_row_count}
use Rattle.xet_shards.specs.Write.Written.{AddsRecord, HasWrittenFor}
use Rattle.xet_shards.specs.Write.WrittenLaws.{written_for}
use Rattle.xet_shards.proofs.Write.Written.{xorb_written}
use Rattle.placed_shards.proofs.collecting.collect_headers.Goals as goal

pub loop-xorb-init : goal.loop-xorb-init
loop-xorb-init c = written_for false c.new-written.result [] c.new-written.ensures

pub add-requires : goal.add-requires
add-requires c =
    let xorbs = c.args.xorbs.now in
    let i = c.loop-xorb.xorb-index in
    let r = c.xorb-item.result in
    let below : i < length xorbs = search rules in
    omega (
      arith,
      c.loop-xorb.invariant.table.rows,
      c.requires,
      sum_by_more_le xorb_row_count xorbs i r below,
      c.is_stored.ensures.stored.count,
      ap (λ (h : XorbChunkSequenceHeader). h.num_entries) c.header.ensures,
      ap xorb_row_count c.xorb-item.is,
    )

pub loop-xorb-preserved : goal.loop-xorb-preserved
loop-xorb-preserved c =
    let xorbs = c.args.xorbs.now in
    let i = c.loop-xorb.xorb-index in
    let r = c.xorb-item.result in
    let old = c.loop-xorb.written in
    let new = c.add.new.self in
    let below : i < length xorbs = search rules in
    let more = ap (λ (x : MDBXorbInfo). take i xorbs ++ x ∷ []) c.xorb-item.is ∙ sym (take_more xorbs i r below) in
    let header = c.header.ensures in
    let table = subst (λ n. AddsRecord old.table new.table r.metadata.xorb_hash.word0 (1 + n)) (sym c.is_stored.ensures.stored.count)
    (subst (λ (h : XorbChunkSequenceHeader). AddsRecord old.table new.table h.xorb_hash.word0 (1 + h.num_entries)) header c.in_ok-add.ensures.table) in
    subst (HasWrittenFor false new) more
    (xorb_written false old new (take i xorbs) r c.loop-xorb.invariant table (λ wanted. absurd (true≢false (sym wanted))) (c.in_ok-add.ensures.bytes ∙ ap (λ (h : XorbChunkSequenceHeader). old.stored_bytes + h.num_bytes_in_xorb) header)
    (c.in_ok-add.ensures.bytes_on_disk ∙ ap (λ (h : XorbChunkSequenceHeader). old.stored_bytes_on_disk + h.num_bytes_on_disk) header))
