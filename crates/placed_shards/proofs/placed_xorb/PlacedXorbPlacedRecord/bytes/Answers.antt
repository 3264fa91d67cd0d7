use Rattle.std.proofs.Common.{◌*◌, length, ap, ◌∙◌}
use Rattle.xet_records.specs.declared.xorb_structs.MDBXorbInfo.{MDBXorbInfo}
use Rattle.xet_records.specs.XorbRecord.{xorb_records}
use Rattle.xet_records.proofs.RecordKinds.{xorb_laws, length-record_bytes}
use Rattle.placed_shards.specs.Placed.{xorb_of}
use Rattle.placed_shards.proofs.Decoded.{xorb_is_stored}
use Rattle.placed_shards.proofs.placed_xorb.PlacedXorbPlacedRecord.bytes.Goals as goal

pub returns-clause-len : goal.returns-clause-len
returns-clause-len c =
    let bytes = c.self.inside.bytes.now in
    ap length c.self.invariant.shows.bytes_are ∙ length-record_bytes xorb_records xorb_laws (xorb_of bytes) (xorb_is_stored c.self.inside.word bytes c.self.invariant)
    ∙ ap (λ (r : MDBXorbInfo). 48 * xorb_records.row_count r) c.self.view_is
