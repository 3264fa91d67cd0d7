-- A record that may be stored is shown by its bytes.
use Rattle.std.proofs.Common.{◌≡◌, ℕ, ◌≤◌, List, refl, arith}
use Rattle.xet_records.specs.declared.file_structs.MDBFileInfo.{MDBFileInfo}
use Rattle.xet_records.specs.declared.xorb_structs.MDBXorbInfo.{MDBXorbInfo}
use Rattle.xet_records.specs.FileRecord.{file_records, file_record_bytes, rows_after, IsStored}
use Rattle.xet_records.specs.XorbRecord.{xorb_records, xorb_record_bytes, IsStoredXorb}
use Rattle.xet_records.specs.View.{IsWholeFile, IsWholeXorb, Shows}

pub file_shown : (r : MDBFileInfo) (bytes : List ℕ) → IsStored r → rows_after r.metadata ≤ 4294967295 → bytes ≡ file_record_bytes r → Shows file_records IsWholeFile r.metadata bytes r
file_shown r bytes stored few are = record { same_header = refl; whole = record { parts = stored.whole; widths = stored.widths }; rows = few; bytes_are = are }

pub xorb_shown : (r : MDBXorbInfo) (bytes : List ℕ) → IsStoredXorb r → bytes ≡ xorb_record_bytes r → Shows xorb_records IsWholeXorb r.metadata bytes r
xorb_shown r bytes stored are =
    record { same_header = refl; whole = record { count = stored.count; widths = stored.widths }; rows = omega (arith, stored.widths.metadata.num_entries); bytes_are = are }
