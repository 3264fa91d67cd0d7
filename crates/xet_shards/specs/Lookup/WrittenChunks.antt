-- Looking up chunks in the bytes of xorbs that are written with a chunk table.
use Rattle.std.specs.Prelude.{◌≡◌, ◌≢◌, ◌==◌, ℕ, min, List, ◌++◌, length, drop, map, filter, All, AllPairs, Contains, MatchResult}
use Rattle.xet_base.specs.Errors.{CoreResult}
use Rattle.xet_base.specs.Source.{Source, DeviceFailure}
use Rattle.xet_records.specs.declared.xorb_structs.MDBXorbInfo.{MDBXorbInfo}
use Rattle.xet_shards.specs.Lookup.Lookup.{SearchCosts}
use Rattle.xet_shards.specs.Write.Tables.{ChunkTableRow, chunk_table}

-- the rows of the chunk table that have a word
abbrev pub rows_with_word : ℕ → List MDBXorbInfo → List ChunkTableRow
rows_with_word word xorbs = filter (λ p. p.word == word) (chunk_table xorbs)

-- two rows of the chunk table differ
abbrev pub OtherTableRow : ChunkTableRow → ChunkTableRow → Type 0
OtherTableRow p q = p ≢ q

-- different rows of the chunk table that have the word were put in front: all of them, or eight if
-- they are more
pub record RowsAmong (xorbs : List MDBXorbInfo) (word : ℕ) (old new : List (ℕ × ℕ)) (count : ℕ)
    : Type 0 where
  pub found : List ChunkTableRow
  pub number : length found ≡ count
  pub all : count ≡ min (length (rows_with_word word xorbs)) 8
  pub each : All (λ p. Contains (chunk_table xorbs) p × (p.word ≡ word)) found
  pub distinct : AllPairs OtherTableRow found
  pub written : new ≡ map (λ p. (p.row, p.index)) found ++ drop count old

-- what the search in the chunk table costs
abbrev pub ChunkSearchCosts : List MDBXorbInfo → ℕ → Source → Source → Type 0
ChunkSearchCosts xorbs word old new =
    SearchCosts (length (chunk_table xorbs)) (length (rows_with_word word xorbs)) 16 old new

-- a lookup of chunks in such bytes: the rows or why there are none, and its cost
pub record FindsRows (xorbs : List MDBXorbInfo) (word : ℕ) (dest_old dest_new : List (ℕ × ℕ))
    (old new : Source) (result : CoreResult ℕ) : Type 0 where
  pub answer : MatchResult result (RowsAmong xorbs word dest_old dest_new) (DeviceFailure old new)
  pub costs : ChunkSearchCosts xorbs word old new
