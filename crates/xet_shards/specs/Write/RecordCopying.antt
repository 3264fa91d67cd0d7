-- A record that is copied from an input into a section that is written, and a record in memory, of
-- which only what its tables need is gathered.
use Rattle.std.specs.Prelude.{ℕ, List, [], ◌∷◌, ◌++◌, Option}
use Rattle.std.specs.Io.KnownBytes.{Appends}
use Rattle.xet_records.specs.RecordKind.{RecordKind}
use Rattle.xet_records.specs.Reading.{ReadsRowsAfter}
use Rattle.xet_shards.specs.declared.shard_format.read.placed_record.PlacedRecord.{PlacedRecord}
use Rattle.xet_shards.specs.Read.PlacedRecord.{StoresRecord}

-- the rows after a header were read, and its record was written and added to what was gathered
pub record CopiesRecord {H R : Type 0} (K : RecordKind H R) (header : H) (Took : List ℕ → Type 0)
    (old new : Option (List ℕ)) (Before After : List R → Type 0) : Type 0 where
  pub found : R
  pub read : ReadsRowsAfter K header Took found
  pub bytes : Appends old new (K.record_bytes found)
  pub written : (front : List R) → Before front → After (front ++ found ∷ [])

-- the record at a place was added to what was gathered, as it is stored or as reading returns it
abbrev pub CollectsRecord : {H R : Type 0} → RecordKind H R → PlacedRecord H → (List R → Type 0)
    → (List R → Type 0) → Type 0
CollectsRecord {R = R} K p Before After =
    (r : R) → StoresRecord K p r → (front : List R) → Before front
    → After (front ++ r ∷ []) × After (front ++ K.as_read r ∷ [])
