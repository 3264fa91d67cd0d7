-- The first words of the chunks' hashes, read from the xorb section where there is no chunk table:
-- a walk from an offset up to the bookend, or to the first header that does not start before a
-- stop.
use Rattle.std.specs.Prelude.{◌≡◌, ◌⊎◌, ℕ, ◌+◌, ◌*◌, ◌<◌, ◌≤◌, List, [], map, drop, All}
use Rattle.xet_base.specs.declared.error.CoreError.{CoreError}
use Rattle.xet_base.specs.Source.{Source, after_read, after_seek}
use Rattle.xet_records.specs.declared.xorb_structs.MDBXorbInfo.{MDBXorbInfo}
use Rattle.xet_records.specs.XorbRecord.{xorb_records}
use Rattle.xet_shards.specs.Write.Section.{total_rows, with_fronts}
use Rattle.xet_shards.specs.Write.Tables.{chunk_table_rows}
use Rattle.xet_shards.specs.Read.TableReading.{triple_of}
use Rattle.xet_shards.specs.Read.SectionReading.{HoldsRecords, BeginsWithBookend, BeginsRefused, EndsEarly, SectionFailure, rows_left}

-- the rows that a chunk table would have for these xorbs, in section order
abbrev pub hashes_of : List MDBXorbInfo → List (ℕ × (ℕ × ℕ))
hashes_of xorbs = map triple_of (chunk_table_rows xorbs)

-- each of the xorbs, the first of which is at an offset, starts before the stop
abbrev pub StartBefore : ℕ → ℕ → List MDBXorbInfo → Type 0
StartBefore at stop xorbs =
    All (λ e. at + 48 * total_rows xorb_records e.0 < stop) (with_fronts [] xorbs)

-- the walk ended after xorbs: a bookend that starts before the stop was read, or the stop reached
-- and no byte more read
abbrev pub WalkEnds : Source → Source → ℕ → ℕ → List MDBXorbInfo → List ℕ → Type 0
WalkEnds old new at stop xorbs rest =
    ((at + 48 * total_rows xorb_records xorbs < stop) × BeginsWithBookend xorb_records rest
    × (new ≡ after_read (after_seek old at) (48 * (total_rows xorb_records xorbs + 1))))
    ⊎ ((stop ≤ at + 48 * total_rows xorb_records xorbs)
    × (new ≡ after_read (after_seek old at) (48 * total_rows xorb_records xorbs)))

-- the hashes were read by one seek, and no byte past the end of the walk
pub record ReadsHashes (old new : Source) (at stop : ℕ) (found : List (ℕ × (ℕ × ℕ))) : Type 0 where
  pub xorbs : List MDBXorbInfo
  pub rest : List ℕ
  pub records : HoldsRecords xorb_records (drop at old.bytes) xorbs rest
  pub before : StartBefore at stop xorbs
  pub end : WalkEnds old new at stop xorbs rest
  pub hashes : found ≡ hashes_of xorbs

-- xorbs, and then one that starts before the stop, as those before it do, and is too many
abbrev pub ExceedsBefore : ℕ → ℕ → List ℕ → Type 0
ExceedsBefore at stop bytes =
    (xorbs : List MDBXorbInfo) × (rest : List ℕ) × HoldsRecords xorb_records bytes xorbs rest
    × (at + 48 * total_rows xorb_records xorbs < stop)
    × BeginsRefused xorb_records (rows_left xorb_records xorbs) rest

-- xorbs, and then too few bytes for what starts before the stop, as those before it do
abbrev pub TruncatedBefore : ℕ → ℕ → List ℕ → Type 0
TruncatedBefore at stop bytes =
    (xorbs : List MDBXorbInfo) × (rest : List ℕ) × HoldsRecords xorb_records bytes xorbs rest
    × (at + 48 * total_rows xorb_records xorbs < stop)
    × EndsEarly xorb_records (rows_left xorb_records xorbs) rest

-- the hashes were not read, by one seek; the source may be at any offset
pub record HashesFail (old new : Source) (at stop : ℕ) (e : CoreError) : Type 0 where
  pub bytes : new.bytes ≡ old.bytes
  pub seeks : new.seeks ≡ old.seeks + 1
  pub cause : SectionFailure (ExceedsBefore at stop) (TruncatedBefore at stop) (drop at old.bytes) old new
      e
