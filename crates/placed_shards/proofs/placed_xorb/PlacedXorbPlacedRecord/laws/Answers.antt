use Rattle.xet_records.proofs.RecordKinds.{xorb_laws}
use Rattle.placed_shards.proofs.Decoded.{xorb_header_is_row}
use Rattle.placed_shards.proofs.placed_xorb.PlacedXorbPlacedRecord.laws.Goals as goal

pub returns : goal.returns
returns c = record { laws = xorb_laws; header_row = xorb_header_is_row }
