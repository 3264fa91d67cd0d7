use Rattle.std.proofs.Common.{◌<◌, ◌≤◌, ◌++◌, ◌∷◌, [], length, take, flat_map, sym, ap, ◌∙◌, subst, arith, rules}
use Rattle.std.proofs.lemmas.List.{take_more, take_all}
use Rattle.std.proofs.lemmas.List.Sums.{sum_by_more}
use Rattle.xet_records.specs.declared.xorb_structs.MDBXorbInfo.{MDBXorbInfo}
use Rattle.xet_records.specs.XorbRecord.{xorb_record_bytes, xorb_records, xorb_row_count}
use Rattle.xet_records.specs.XorbRow.{xorb_header_row}
use Rattle.xet_shards.specs.Write.Puts.{Puts}
use Rattle.placed_shards.proofs.Filling.{record_put, section_put}
use Rattle.placed_shards.proofs.putting.put_xorbs.Goals as goal

pub loop-xorb-preserved : goal.loop-xorb-preserved
loop-xorb-preserved c =
    let xorbs = c.args.xorbs.now in
    let i = c.loop-xorb.xorb-index in
    let xorb = c.xorb-item.result in
    let below : i < length xorbs = search rules in
    let more = ap (λ (x : MDBXorbInfo). take i xorbs ++ x ∷ []) c.xorb-item.is ∙ sym (take_more xorbs i xorb below) in
    record {
      size = omega (arith, c.loop-xorb.invariant.size, c.put_bytes-end.ensures.end_is, c.bytes.ensures.len, sum_by_more xorb_row_count xorbs i xorb below, ap xorb_row_count c.xorb-item.is);
      puts = subst (λ xs. Puts c.args.out.now c.put_bytes-end.new.out c.args.at c.put_bytes-end.result (flat_map xorb_record_bytes xs)) more
          (record_put xorb_records c.args.out.now c.loop-xorb.out c.put_bytes-end.new.out c.args.at c.loop-xorb.end c.put_bytes-end.result (take i xorbs) xorb c.loop-xorb.invariant.puts
          (subst (Puts c.loop-xorb.out c.put_bytes-end.new.out c.loop-xorb.end c.put_bytes-end.result) c.bytes.ensures.bytes c.put_bytes-end.ensures));
    }

pub returns : goal.returns
returns c =
    let xorbs = c.args.xorbs.now in
    let i = c.loop-xorb.xorb-index in
    let past : length xorbs ≤ i = search rules in
    section_put xorb_records c.args.out.now c.loop-xorb.out c.put_bytes.new.out c.args.at c.loop-xorb.end c.put_bytes.result xorbs
    (subst (λ xs. Puts c.args.out.now c.loop-xorb.out c.args.at c.loop-xorb.end (flat_map xorb_record_bytes xs)) (take_all i xorbs past) c.loop-xorb.invariant.puts)
    (subst (Puts c.loop-xorb.out c.put_bytes.new.out c.loop-xorb.end c.put_bytes.result) (c.to_bytes.ensures ∙ ap xorb_header_row c.bookend.ensures) c.put_bytes.ensures)
