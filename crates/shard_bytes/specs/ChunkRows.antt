-- The places of all chunks of a shard.
use Rattle.std.specs.Prelude.{◌≡◌, ◌≢◌, ◌⊎◌, ℕ, List, map}
use Rattle.std.specs.FinMap.{values}
use Rattle.xet_core_structures.specs.declared.error.CoreError.{CoreError}
use Rattle.xet_core_structures.specs.Shard.{Shard}
use Rattle.xet_core_structures.specs.TwoShards.ByteResults.{LoadRefusal}
use Rattle.xet_core_structures.specs.WrittenShard.{IsBytesOf}
use Rattle.xet_shards.specs.Read.TableReading.{triple_of, triple_row, FitsTriple, ReadsTable, TableFails}
use Rattle.xet_shards.specs.Read.TruncatedHashes.{ReadsHashes, HashesFail}
use Rattle.xet_shards.specs.Write.Tables.{chunk_table}
use Rattle.shard_bytes.specs.Outcomes.{HasOutcome}

-- the rows of the chunk table; if there is none, those of the chunks of the xorb section, in their
-- order there
abbrev pub HasChunkRows : List ℕ → List (ℕ × (ℕ × ℕ)) → Type 0
HasChunkRows bytes found =
    HasOutcome bytes
    (λ info before after.
    (info.metadata.chunk_lookup_num_entry ≢ 0
    → ReadsTable triple_row FitsTriple 16 before after info.metadata.chunk_lookup_offset
    info.metadata.chunk_lookup_num_entry found)
    × (info.metadata.chunk_lookup_num_entry ≡ 0
    → ReadsHashes before after info.metadata.xorb_info_offset info.metadata.file_lookup_offset
    found))

-- why no rows are returned: header and footer are not read, or the table is not, or, if there is
-- none, the section is not
abbrev pub RefusesChunkRows : List ℕ → CoreError → Type 0
RefusesChunkRows bytes e =
    LoadRefusal bytes e
    ⊎ HasOutcome bytes
    (λ info before after.
    (info.metadata.chunk_lookup_num_entry ≢ 0
    → TableFails 16 before after info.metadata.chunk_lookup_offset
    info.metadata.chunk_lookup_num_entry e)
    × (info.metadata.chunk_lookup_num_entry ≡ 0
    → HashesFail before after info.metadata.xorb_info_offset info.metadata.file_lookup_offset e))

-- the rows of a shard's chunk table
abbrev pub chunks_of : Shard → List (ℕ × (ℕ × ℕ))
chunks_of s = map triple_of (chunk_table (values s.xorbs))

-- if the bytes are those of a shard, these are the rows of its chunk table
abbrev pub ListsChunks : List ℕ → List (ℕ × (ℕ × ℕ)) → Type 0
ListsChunks bytes found = (s : Shard) → IsBytesOf s bytes → found ≡ chunks_of s
