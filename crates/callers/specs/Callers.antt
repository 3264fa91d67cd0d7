-- What the callers in src/uses say beside the library's own words.
use Rattle.std.specs.Prelude.{◌≡◌, ℕ, ◌+◌, ◌*◌, ◌/◌, ◌≤◌, true, List, ◌++◌, length, flat_map}
use Rattle.std.specs.FinMap.{values}
use Rattle.xet_core_structures.specs.declared.file_structs.MDBFileInfo.{MDBFileInfo}
use Rattle.xet_core_structures.specs.declared.merklehash.DataHash.{DataHash}
use Rattle.xet_core_structures.specs.FileRecord.{file_records}
use Rattle.xet_core_structures.specs.KeyedExport.{exported_bytes, export_options}
use Rattle.xet_core_structures.specs.Lookup.{with_first_word}
use Rattle.xet_core_structures.specs.Shard.{Shard}
use Rattle.xet_core_structures.specs.Source.{Source}

-- the seeks that opening a shard and looking up a file may make, of n files, d of which share the
-- first word of the hash
abbrev pub most_seeks : ℕ → ℕ → ℕ
most_seeks n d = (n + 1) / 128 + d / 4 + d + 10

-- opening a shard with these files and looking up a file makes at most so many seeks, and reads at
-- most 248 bytes, 12 for each of these seeks and of 257 rows, and the records whose hash has this
-- first word
pub record FindsWithin (files : List MDBFileInfo) (word : ℕ) (old new : Source) : Type 0 where
  pub seeks : new.seeks
      ≤ old.seeks + most_seeks (length files) (length (with_first_word file_records word files))
  pub read : new.read
      ≤ old.read + 248
      + 12 * (257 + most_seeks (length files) (length (with_first_word file_records word files)))
      + length (flat_map file_records.record_bytes (with_first_word file_records word files))

-- the export of a shard under a key, with its files and all tables
abbrev pub export_of : Shard → DataHash → ℕ → ℕ → List ℕ
export_of s key now valid =
    exported_bytes (values s.files) (values s.xorbs) (export_options key now valid true true true)

-- the bytes are equal but for the 16 of two timestamps, 80 before the end
pub record EqualButForTimes (one other : List ℕ) : Type 0 where
  pub before : List ℕ
  -- the timestamps in the first
  pub times : List ℕ
  -- the timestamps in the second
  pub other_times : List ℕ
  pub after : List ℕ
  pub sixteen : length times ≡ 16
  pub as_many : length other_times ≡ 16
  pub eighty : length after ≡ 80
  pub one_is : one ≡ before ++ times ++ after
  pub other_is : other ≡ before ++ other_times ++ after
