-- What does not fit together in files and xorbs.
use Rattle.std.specs.Prelude.{◌≡◌, ◌≢◌, ◌⊎◌, ◌<◌, ◌≤◌, ◌-◌, ℕ, List, Some, Contains, length, take, drop, slice_get}
use Rattle.xet_base.specs.declared.merklehash.DataHash.{DataHash}
use Rattle.xet_records.specs.declared.file_structs.rows.FileDataSequenceEntry.{FileDataSequenceEntry}
use Rattle.xet_records.specs.declared.file_structs.MDBFileInfo.{MDBFileInfo}
use Rattle.xet_records.specs.declared.xorb_structs.XorbChunkSequenceEntry.{XorbChunkSequenceEntry}
use Rattle.xet_records.specs.declared.xorb_structs.MDBXorbInfo.{MDBXorbInfo}
use Rattle.xet_records.specs.XorbRecord.{total_bytes}
use Rattle.mdb_garbage.specs.declared.finding.Segment.{Segment}
use Rattle.mdb_garbage.specs.declared.finding.Misfit.{Misfit}
use Rattle.mdb_garbage.specs.declared.finding.Misfit.TheVariants.{Unnamed, Total, Start, Lacking, Outside, Bytes}
use Rattle.mdb_garbage.specs.declared.finding.GarbageFinding.{GarbageFinding}

-- the segment at an index of a file
abbrev pub segment_at : MDBFileInfo → ℕ → FileDataSequenceEntry → Segment
segment_at file i row =
    record {
      xorb = row.xorb_hash;
      file = file.metadata.file_hash;
      index = i;
      start = row.chunk_index_start;
      end = row.chunk_index_end;
      bytes = row.unpacked_segment_bytes;
    }

-- a segment is one of a file
pub record IsAmong (file : MDBFileInfo) (segment : Segment) : Type 0 where
  pub row : FileDataSequenceEntry
  pub at : slice_get file.segments segment.index ≡ Some row
  pub is : segment_at file segment.index row ≡ segment

-- a segment is one of these files
abbrev pub IsSegment : List MDBFileInfo → Segment → Type 0
IsSegment files segment = (file : MDBFileInfo) × Contains files file × IsAmong file segment

-- one of these xorbs has a hash
abbrev pub HasXorb : List MDBXorbInfo → DataHash → Type 0
HasXorb xorbs hash = (x : MDBXorbInfo) × Contains xorbs x × (x.metadata.xorb_hash ≡ hash)

-- each chunk before one starts where those before it end
abbrev pub StartsAdd : List XorbChunkSequenceEntry → ℕ → Type 0
StartsAdd chunks i =
    (j : ℕ) (c : XorbChunkSequenceEntry) → j < i → slice_get chunks j ≡ Some c
    → c.chunk_byte_range_start ≡ total_bytes (take j chunks)

-- a xorb's own number of bytes is not the sum of its chunks'
abbrev pub IsTotal : MDBXorbInfo → Misfit → Type 0
IsTotal x (Total said sum) =
    (said ≡ x.metadata.num_bytes_in_xorb) × (sum ≡ total_bytes x.chunks) × (said ≢ sum)
IsTotal x _ = ⊥

-- the first chunk that does not start where those before it end
abbrev pub IsStart : MDBXorbInfo → Misfit → Type 0
IsStart x (Start i said sum) =
    ((c : XorbChunkSequenceEntry) × (slice_get x.chunks i ≡ Some c)
    × (c.chunk_byte_range_start ≡ said))
    × (sum ≡ total_bytes (take i x.chunks)) × (said ≢ sum) × StartsAdd x.chunks i
IsStart x _ = ⊥

-- a segment has chunks, and the xorb has all of them
abbrev pub LiesWithin : Segment → MDBXorbInfo → Type 0
LiesWithin s x = (s.start < s.end) × (s.end ≤ length x.chunks)

-- the bytes of a segment's chunks together
abbrev pub bytes_within : Segment → MDBXorbInfo → ℕ
bytes_within s x = total_bytes (take (s.end - s.start) (drop s.start x.chunks))

-- a segment lies outside of the xorb, or its bytes are not those of its chunks
abbrev pub IsOfSegment : Segment → MDBXorbInfo → Misfit → Type 0
IsOfSegment s x (Outside t chunks) = (t ≡ s) × (chunks ≡ length x.chunks) × (¬ LiesWithin s x)
IsOfSegment s x (Bytes t sum) =
    (t ≡ s) × LiesWithin s x × (sum ≡ bytes_within s x) × (sum ≢ s.bytes)
IsOfSegment s x _ = ⊥

-- a misfit of a xorb by itself, or of a segment that names it
abbrev pub IsOfXorb : List MDBFileInfo → MDBXorbInfo → GarbageFinding → Type 0
IsOfXorb files x f =
    (x.metadata.xorb_hash ≡ f.xorb)
    × (IsTotal x f.misfit ⊎ (IsStart x f.misfit ⊎ ((s : Segment) × IsSegment files s
    × (s.xorb ≡ x.metadata.xorb_hash) × IsOfSegment s x f.misfit)))

-- a misfit of one of the xorbs, or of a segment that names it
abbrev pub IsOfXorbs : List MDBFileInfo → List MDBXorbInfo → GarbageFinding → Type 0
IsOfXorbs files xorbs f = (x : MDBXorbInfo) × Contains xorbs x × IsOfXorb files x f

-- a misfit of a hash: no segment names it, but a xorb has it; or the other way round
abbrev pub IsOfHash : List MDBFileInfo → List MDBXorbInfo → DataHash → Misfit → Type 0
IsOfHash files xorbs hash Unnamed =
    HasXorb xorbs hash × ((s : Segment) → IsSegment files s → ¬ (s.xorb ≡ hash))
IsOfHash files xorbs hash (Lacking s) =
    IsSegment files s × (s.xorb ≡ hash) × (¬ HasXorb xorbs hash)
IsOfHash files xorbs hash _ = ⊥

-- what does not fit together in files and xorbs
abbrev pub IsGarbage : List MDBFileInfo → List MDBXorbInfo → GarbageFinding → Type 0
IsGarbage files xorbs f = IsOfXorbs files xorbs f ⊎ IsOfHash files xorbs f.xorb f.misfit
