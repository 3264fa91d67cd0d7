-- Records as their bytes.
use Rattle.std.specs.Prelude.{◌≡◌, ◌≢◌, ℕ, List}
use Rattle.xet_base.specs.Hash.{all_ones}
use Rattle.xet_records.specs.declared.file_structs.MDBFileInfo.{MDBFileInfo}
use Rattle.xet_records.specs.declared.xorb_structs.MDBXorbInfo.{MDBXorbInfo}
use Rattle.xet_records.specs.Decoding.{file_at, header_at, xorb_at, xorb_header_at}
use Rattle.xet_records.specs.FileRecord.{file_records}
use Rattle.xet_records.specs.XorbRecord.{xorb_records}
use Rattle.xet_records.specs.View.{IsWholeFile, IsWholeXorb, Shows}

-- the file record that bytes spell
abbrev pub file_of : List ℕ → MDBFileInfo
file_of bytes = file_at (header_at bytes) bytes

-- the xorb record that bytes spell
abbrev pub xorb_of : List ℕ → MDBXorbInfo
xorb_of bytes = xorb_at (xorb_header_at bytes) bytes

-- bytes are those of the file record that they spell, which is not a bookend, and this is the first
-- word of its hash
pub record IsPlacedFile (word : ℕ) (bytes : List ℕ) : Type 0 where
  pub shows : Shows file_records IsWholeFile (header_at bytes) bytes (file_of bytes)
  pub is_file : (header_at bytes).file_hash ≢ all_ones
  pub word_is : word ≡ (header_at bytes).file_hash.word0

-- bytes are those of the xorb record that they spell, which is not a bookend, and this is the first
-- word of its hash
pub record IsPlacedXorb (word : ℕ) (bytes : List ℕ) : Type 0 where
  pub shows : Shows xorb_records IsWholeXorb (xorb_header_at bytes) bytes (xorb_of bytes)
  pub is_xorb : (xorb_header_at bytes).xorb_hash ≢ all_ones
  pub word_is : word ≡ (xorb_header_at bytes).xorb_hash.word0
