use Rattle.std.proofs.Common.{◌∙◌, ap, arith}
use Rattle.xet_records.specs.declared.file_structs.MDBFileInfo.{MDBFileInfo}
use Rattle.xet_records.specs.FileRow.{header_row, FitsHeader}
use Rattle.xet_records.specs.FileRecord.{file_records}
use Rattle.xet_records.proofs.RecordKinds.{file_laws}
use Rattle.placed_shards.specs.Placed.{file_of}
use Rattle.placed_shards.proofs.Decoded.{file_is_stored, file_header_row, header_of_record, header_read, size_of_record}
use Rattle.placed_shards.proofs.placed_file.PlacedFilePlacedRecord.header.Goals as goal

pub row-requires : goal.row-requires
row-requires c =
    let bytes = c.self.inside.bytes.now in
    omega (arith, size_of_record file_records file_laws bytes (file_of bytes) (file_is_stored c.self.inside.word bytes c.self.invariant) c.self.invariant.shows.bytes_are)

pub returns : goal.returns
returns c =
    let bytes = c.self.inside.bytes.now in
    let begins = header_read file_records header_row FitsHeader (λ h. h) file_header_row c.row.result bytes c.row.ensures in
    header_of_record file_records file_laws bytes (file_of bytes) (file_is_stored c.self.inside.word bytes c.self.invariant) c.self.invariant.shows.bytes_are c.row.result begins
    ∙ ap (λ (r : MDBFileInfo). r.metadata) c.self.view_is
