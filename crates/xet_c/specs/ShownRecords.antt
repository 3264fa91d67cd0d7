-- The record at a row of a section, and how it is shown.
use Rattle.std.specs.Prelude.{◌≡◌, ℕ, ◌+◌, true, false, List, [], length, map, Option, None, Some, Ok, Err, MatchResult}
use Rattle.xet_core_structures.specs.declared.file_structs.MDBFileInfo.{MDBFileInfo}
use Rattle.xet_core_structures.specs.declared.xorb_structs.MDBXorbInfo.{MDBXorbInfo}
use Rattle.xet_core_structures.specs.declared.xorb_structs.XorbChunkSequenceEntry.{XorbChunkSequenceEntry}
use Rattle.xet_core_structures.specs.Errors.{CoreResult, variant_number}
use Rattle.xet_core_structures.specs.FileRecord.{rows_after}
use Rattle.xet_core_structures.specs.Hash.{words_of}
use Rattle.shard_bytes.specs.Walking.{HasFileAt, RefusesFileAt, HasXorbAt, RefusesXorbAt}
use Rattle.xet_c.specs.declared.find.XetFile.{XetFile}
use Rattle.xet_c.specs.declared.segment.XetFileSegment.{XetFileSegment}
use Rattle.xet_c.specs.declared.walk.XetChunk.{XetChunk}
use Rattle.xet_c.specs.declared.walk.XetPlace.{XetPlace}
use Rattle.xet_c.specs.declared.walk.XetXorb.{XetXorb}
use Rattle.xet_c.specs.Arguments.{words_or_zero}
use Rattle.xet_c.specs.ShownFiles.{ShowsFile}
use Rattle.xet_c.specs.Output.{Delivers}

-- what was read at a row of the file section is what the bytes have there, or why it was not
abbrev pub IsFileAt : List ℕ → ℕ → CoreResult (Option MDBFileInfo) → Type 0
IsFileAt bytes row found = MatchResult found (HasFileAt bytes row) (RefusesFileAt bytes row)

-- what was read at a row of the xorb section is what the bytes have there, or why it was not
abbrev pub IsXorbAt : List ℕ → ℕ → CoreResult (Option MDBXorbInfo) → Type 0
IsXorbAt bytes row found = MatchResult found (HasXorbAt bytes row) (RefusesXorbAt bytes row)

-- the place of a bookend: a hash of zeros, no flags, and its own row as the next one
abbrev pub c_bookend : ℕ → XetPlace
c_bookend row = record { hash = words_or_zero None; flags = 0; next = row }

-- hash and flags of the file at a row, and the row after its record; without a file, the place of
-- the bookend
abbrev pub c_file_place : ℕ → Option MDBFileInfo → XetPlace
c_file_place row (Some r) = record {
  hash = words_of r.metadata.file_hash;
  flags = r.metadata.file_flags;
  next = row + 1 + rows_after r.metadata;
}
c_file_place row None = c_bookend row

-- hash and flags of the xorb at a row, and the row after its record; without a xorb, the place of
-- the bookend
abbrev pub c_xorb_place : ℕ → Option MDBXorbInfo → XetPlace
c_xorb_place row (Some r) = record {
  hash = words_of r.metadata.xorb_hash;
  flags = r.metadata.xorb_flags;
  next = row + (1 + r.metadata.num_entries);
}
c_xorb_place row None = c_bookend row

-- the numbers of a xorb, or that there is none
abbrev pub c_xorb : Option MDBXorbInfo → XetXorb
c_xorb (Some r) = record {
  found = true;
  bytes = r.metadata.num_bytes_in_xorb;
  bytes_on_disk = r.metadata.num_bytes_on_disk;
  chunks = length r.chunks;
}
c_xorb None = record { found = false; bytes = 0; bytes_on_disk = 0; chunks = 0 }

-- the hash and the numbers of a chunk, its reserved word among them
abbrev pub c_chunk : XorbChunkSequenceEntry → XetChunk
c_chunk c = record {
  hash = words_of c.chunk_hash;
  start = c.chunk_byte_range_start;
  bytes = c.unpacked_segment_bytes;
  flags = c.flags;
  reserved = c._unused;
}

-- the chunks of a xorb, or none without a xorb
abbrev pub chunks_in : Option MDBXorbInfo → List XetChunk
chunks_in (Some r) = map c_chunk r.chunks
chunks_in None = []

-- a value is shown of what was found; after an error it stays
abbrev pub Shows : {T X : Type 0} → (T → X) → CoreResult T → (old new : X) → Type 0
Shows show (Ok found) old new = new ≡ show found
Shows show (Err e) old new = new ≡ old

-- the place of a file at a row is shown, and the file, its segments at the front of an output if
-- they fit
abbrev pub ShowsFileAt : ℕ → CoreResult (Option MDBFileInfo) → (old_place new_place : XetPlace)
    → (old_file new_file : XetFile) → (old new : List XetFileSegment) → ℕ → Type 0
ShowsFileAt row found old_place new_place old_file new_file old new answer =
    Shows (c_file_place row) found old_place new_place
    × ShowsFile found old_file new_file old new answer

-- a xorb is shown, its chunks at the front of an output if they fit; after an error all stays
abbrev pub ShowsXorb : CoreResult (Option MDBXorbInfo) → (old_xorb new_xorb : XetXorb)
    → (old new : List XetChunk) → ℕ → Type 0
ShowsXorb (Ok found) old_xorb new_xorb old new answer =
    (new_xorb ≡ c_xorb found)
    × Delivers (chunks_in found) old new (length (chunks_in found)) answer
ShowsXorb (Err e) old_xorb new_xorb old new answer =
    (new_xorb ≡ old_xorb) × (new ≡ old) × (answer ≡ variant_number e)

-- the place of a xorb at a row is shown, and the xorb, its chunks at the front of an output if they
-- fit
abbrev pub ShowsXorbAt : ℕ → CoreResult (Option MDBXorbInfo) → (old_place new_place : XetPlace)
    → (old_xorb new_xorb : XetXorb) → (old new : List XetChunk) → ℕ → Type 0
ShowsXorbAt row found old_place new_place old_xorb new_xorb old new answer =
    Shows (c_xorb_place row) found old_place new_place
    × ShowsXorb found old_xorb new_xorb old new answer
