-- What an operation answers, and how the caller gets it.
use Rattle.std.specs.Prelude.{◌≡◌, ◌⊎◌, ℕ, ◌<◌, ◌≤◌, true, List, length, ◌++◌, drop, None}
use Rattle.std.specs.Fn.{iterate}
use Rattle.shard_bytes.specs.Combining.{CombinesTo}
use Rattle.shard_bytes.specs.Exporting.{ExportsBytes}
use Rattle.shard_bytes.specs.Minimal.{MinimalBytes}
use Rattle.shard_bytes.specs.Versions.{IsWrittenIn}
use Rattle.xet_core_structures.specs.declared.record_reader.FormatVersion.TheVariants.{V3}
use Rattle.shard_bytes.specs.declared.export.Export.{Export}
use Rattle.shard_bytes.specs.declared.combine.Operation.TheVariants.{Union as of_union, Difference as of_difference}
use Rattle.xet_core_structures.specs.declared.merklehash.DataHash.{DataHash}
use Rattle.std.specs.Int.{to_le_bytes, w64}
use Rattle.xet_core_structures.specs.declared.file_structs.KeptParts.{KeptParts}
use Rattle.xet_core_structures.specs.Hash.{hash_bytes}
use Rattle.xet_core_structures.specs.KeyedHash.{hmac}
use Rattle.xet_core_structures.specs.Layout.{layout}
use Rattle.xet_core_structures.specs.Shard.{Shard, IsShard}
use Rattle.bench_calls.specs.declared.answer.Answer.{Answer}
use Rattle.bench_calls.specs.declared.answer.Answer.TheVariants.{Count, Bytes, Shard as InMemory}
use Rattle.bench_calls.specs.declared.operation.Operation.{Operation}
use Rattle.bench_calls.specs.declared.operation.Operation.TheVariants.{Load, FindFiles, SearchFiles, QueryChunks, Union, Difference, Export as ExportAll, ReadMinimal, WriteMinimal, ReadFiles, ReadXorbs, Serialize, AddFiles, AddXorbs, QueryInMemory, UniteInMemory, SubtractInMemory, Hmac, FindFilesInBytes, CopyInMemory}

-- the number by which the caller names an operation
unfoldable pub number_of : Operation → ℕ
number_of Load = 0
number_of FindFiles = 1
number_of SearchFiles = 2
number_of QueryChunks = 3
number_of Union = 4
number_of Difference = 5
number_of ExportAll = 6
number_of ReadMinimal = 7
number_of WriteMinimal = 8
number_of ReadFiles = 9
number_of ReadXorbs = 10
number_of Serialize = 11
number_of AddFiles = 12
number_of AddXorbs = 13
number_of QueryInMemory = 14
number_of UniteInMemory = 15
number_of SubtractInMemory = 16
number_of Hmac = 17
number_of FindFilesInBytes = 18
number_of CopyInMemory = 19

-- the export with files, their auxiliary rows and all tables, valid for 1000 seconds from 0 on
abbrev pub whole_export : DataHash → Export
whole_export key = record {
  key = key;
  now = 0;
  valid_seconds = 1000;
  parts = record { files = true; aux_ext = true; xorb_table = true; chunk_table = true };
}

-- all optional rows of files that can be kept: verification rows and auxiliary rows
abbrev pub all_parts : KeptParts
all_parts = record { verification = true; aux_ext = true }

-- the bytes are those of some well-formed shard, without an expiry
abbrev pub AreBytesOfSome : List ℕ → Type 0
AreBytesOfSome bytes = (s : Shard) × IsShard s × (bytes ≡ layout s None)

-- the bytes are a count, as 64 bits in little-endian order
abbrev pub IsCount : List ℕ → Type 0
IsCount bytes = (count : ℕ) × (bytes ≡ to_le_bytes w64 count)

-- an operation, done so often on two byte strings, with a key, answers with these bytes
abbrev pub Answers : Operation → ℕ → (first second : List ℕ) → DataHash → List ℕ → Type 0
Answers Union times first second key bytes = IsWrittenIn V3 (CombinesTo of_union first second) bytes
Answers Difference times first second key bytes =
    IsWrittenIn V3 (CombinesTo of_difference first second) bytes
Answers ExportAll times first second key bytes = ExportsBytes (whole_export key) first bytes
Answers WriteMinimal times first second key bytes = MinimalBytes all_parts 0 first bytes
Answers Serialize times first second key bytes = AreBytesOfSome bytes
Answers UniteInMemory times first second key bytes = AreBytesOfSome bytes
Answers SubtractInMemory times first second key bytes = AreBytesOfSome bytes
Answers CopyInMemory times first second key bytes = AreBytesOfSome bytes
Answers Hmac times first second key bytes = bytes ≡ hash_bytes (iterate (hmac key) times key)
Answers _ times first second key bytes = IsCount bytes

-- the bytes that an answer becomes
abbrev pub AreBytesOf : Answer → List ℕ → Type 0
AreBytesOf (Count n) bytes = bytes ≡ to_le_bytes w64 n
AreBytesOf (Bytes v) bytes = bytes ≡ v.items
AreBytesOf (InMemory s) bytes = AreBytesOfSome bytes

-- whatever bytes an answer becomes, the operation answers with them, done however often
abbrev pub IsAnswerOf : Operation → (first second : List ℕ) → DataHash → Answer → Type 0
IsAnswerOf operation first second key answer =
    (times : ℕ) (bytes : List ℕ) → AreBytesOf answer bytes
    → Answers operation times first second key bytes

-- the answer stands at the front of an output if it fits, and what is behind it stays
abbrev pub Delivers : List ℕ → (old new : List ℕ) → (written : ℕ) → Type 0
Delivers bytes old new written =
    (written ≡ length bytes)
    × (((length bytes ≤ length old) × (new ≡ bytes ++ drop (length bytes) old))
    ⊎ ((length old < length bytes) × (new ≡ old)))
