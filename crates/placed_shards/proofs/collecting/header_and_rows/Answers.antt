use Rattle.std.proofs.Common.{[], sym, ◌∙◌, append-nil}
use Rattle.xet_base.proofs.Lists.{rest_is}
use Rattle.placed_shards.proofs.collecting.header_and_rows.Goals as goal

pub returns : goal.returns
returns g c =
    let K = g.P.PlacedRecord.kind in
    let r = c.args.placed.now in
    record {
      is_stored = c.is_stored.ensures.stored;
      header_is = c.header.ensures;
      rest = [];
      rows_are = c.split_at.ensures.back
          ∙ rest_is 48 c.bytes.result.now (K.header_bytes (K.header_of r)) (K.bytes_after r) (c.laws.ensures.laws.header_size (K.header_of r)) (c.bytes.ensures.bytes ∙ c.laws.ensures.laws.record_bytes_are r)
          ∙ sym (append-nil (K.bytes_after r));
    }
