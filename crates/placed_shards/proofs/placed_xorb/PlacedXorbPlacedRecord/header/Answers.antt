use Rattle.std.proofs.Common.{◌∙◌, ap, arith}
use Rattle.xet_records.specs.declared.xorb_structs.MDBXorbInfo.{MDBXorbInfo}
use Rattle.xet_records.specs.XorbRow.{xorb_header_row, FitsXorbHeader}
use Rattle.xet_records.specs.XorbRecord.{xorb_records}
use Rattle.xet_records.proofs.RecordKinds.{xorb_laws}
use Rattle.placed_shards.specs.Placed.{xorb_of}
use Rattle.placed_shards.proofs.Decoded.{xorb_is_stored, xorb_header_is_row, header_of_record, header_read, size_of_record}
use Rattle.placed_shards.proofs.placed_xorb.PlacedXorbPlacedRecord.header.Goals as goal

pub row-requires : goal.row-requires
row-requires c =
    let bytes = c.self.inside.bytes.now in
    omega (arith, size_of_record xorb_records xorb_laws bytes (xorb_of bytes) (xorb_is_stored c.self.inside.word bytes c.self.invariant) c.self.invariant.shows.bytes_are)

pub returns : goal.returns
returns c =
    let bytes = c.self.inside.bytes.now in
    let begins = header_read xorb_records xorb_header_row FitsXorbHeader (λ h. h) xorb_header_is_row c.row.result bytes c.row.ensures in
    header_of_record xorb_records xorb_laws bytes (xorb_of bytes) (xorb_is_stored c.self.inside.word bytes c.self.invariant) c.self.invariant.shows.bytes_are c.row.result begins
    ∙ ap (λ (r : MDBXorbInfo). r.metadata) c.self.view_is
