use Rattle.std.proofs.Common.{◌*◌, length, ap, ◌∙◌}
use Rattle.xet_records.specs.declared.file_structs.MDBFileInfo.{MDBFileInfo}
use Rattle.xet_records.specs.FileRecord.{file_records}
use Rattle.xet_records.proofs.RecordKinds.{file_laws, length-record_bytes}
use Rattle.placed_shards.specs.Placed.{file_of}
use Rattle.placed_shards.proofs.Decoded.{file_is_stored}
use Rattle.placed_shards.proofs.placed_file.PlacedFilePlacedRecord.bytes.Goals as goal

pub returns-clause-len : goal.returns-clause-len
returns-clause-len c =
    let bytes = c.self.inside.bytes.now in
    ap length c.self.invariant.shows.bytes_are ∙ length-record_bytes file_records file_laws (file_of bytes) (file_is_stored c.self.inside.word bytes c.self.invariant)
    ∙ ap (λ (r : MDBFileInfo). 48 * file_records.row_count r) c.self.view_is
