use Rattle.xet_records.proofs.RecordKinds.{file_laws}
use Rattle.placed_shards.proofs.Decoded.{file_header_row}
use Rattle.placed_shards.proofs.placed_file.PlacedFilePlacedRecord.laws.Goals as goal

pub returns : goal.returns
returns c = record { laws = file_laws; header_row = file_header_row }
