-- What a lookup of a file in a shard's bytes returns, and why it is refused.
use Rattle.std.specs.Prelude.{◌≡◌, ◌⊎◌, ◌<◌, ◌≤◌, ℕ, List, length, Any, IfSome, Option}
use Rattle.std.specs.FinMap.{values}
use Rattle.xet_core_structures.specs.declared.error.CoreError.{CoreError}
use Rattle.xet_core_structures.specs.declared.error.CoreError.TheVariants.{OutOfMemory, TruncatedHashCollision}
use Rattle.xet_core_structures.specs.declared.file_structs.MDBFileInfo.{MDBFileInfo}
use Rattle.xet_core_structures.specs.declared.merklehash.DataHash.{DataHash}
use Rattle.xet_core_structures.specs.TwoShards.ByteResults.{LoadRefusal}
use Rattle.xet_core_structures.specs.Lookup.{FindsRecord, FindRecordFails, FoundInShard, file_table, with_first_word}
use Rattle.xet_core_structures.specs.FileRecord.{file_records, FitsItsHeader}
use Rattle.xet_core_structures.specs.SectionReading.{files_of}
use Rattle.xet_core_structures.specs.Shard.{Shard}
use Rattle.xet_core_structures.specs.WrittenShard.{IsBytesOf}
use Rattle.shard_bytes.specs.Outcomes.{HasOutcome}

-- a record that is found is in these bytes, has the hash and is at a row of the file table with the
-- hash's first word; without one, no record at such a row has it
abbrev pub FindsFile : List ℕ → DataHash → Option MDBFileInfo → Type 0
FindsFile bytes hash found =
    HasOutcome bytes
    (λ info before after. FindsRecord (files_of info) (file_table info.metadata before)
    info.metadata.file_info_offset hash before after found)

-- header and footer are not read, or the lookup is refused
abbrev pub RefusesFile : List ℕ → DataHash → CoreError → Type 0
RefusesFile bytes hash e =
    LoadRefusal bytes e
    ⊎ HasOutcome bytes
    (λ info before after. FindRecordFails (files_of info) (file_table info.metadata before)
    info.metadata.file_info_offset hash before after e)

-- why a file is not found in the bytes of a shard in memory: an allocation failed, if one to seven
-- files share the first word, since only then a record is read; or eight or more do
abbrev pub NotFoundInShard : Shard → DataHash → CoreError → Type 0
NotFoundInShard s hash e =
    ((e ≡ OutOfMemory)
    × (1 ≤ length (with_first_word file_records hash.word0 (values s.files)))
    × (length (with_first_word file_records hash.word0 (values s.files)) < 8))
    ⊎ ((e ≡ TruncatedHashCollision hash.word0)
    × (8 ≤ length (with_first_word file_records hash.word0 (values s.files))))

-- what a lookup of a file finds, in any bytes and in those of a shard
pub record AnswersLookup (bytes : List ℕ) (hash : DataHash) (found : Option MDBFileInfo) : Type 0 where
  pub any_bytes : FindsFile bytes hash found
  pub fits : IfSome found FitsItsHeader
  pub hash_is : IfSome found (λ file. file.metadata.file_hash ≡ hash)
  pub written : (s : Shard) → IsBytesOf s bytes → FoundInShard s hash found

-- why a lookup of a file is refused, in any bytes and in those of a shard
pub record RefusesLookup (bytes : List ℕ) (hash : DataHash) (e : CoreError) : Type 0 where
  pub any_bytes : RefusesFile bytes hash e
  pub written : (s : Shard) → IsBytesOf s bytes → NotFoundInShard s hash e

-- an allocation failed, or the lookup of one of these files is refused
abbrev pub RefusesLookups : List ℕ → List DataHash → CoreError → Type 0
RefusesLookups bytes hashes e = (e ≡ OutOfMemory) ⊎ Any (λ hash. RefusesLookup bytes hash e) hashes
