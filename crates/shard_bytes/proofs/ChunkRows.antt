-- The rows of a chunk table that are read from a source in memory.
use Rattle.std.proofs.Common.{◌≡◌, ◌≢◌, inr, ℕ, List, Ok, Err, refl, ◌∙◌, subst}
use Rattle.std.specs.Prelude.{MatchResult}
use Rattle.std.specs.declared.vec.Vec.{Vec}
use Rattle.std.specs.declared.result.Result.{Result}
use Rattle.xet_base.specs.MemorySource.{in_memory}
use Rattle.xet_core_structures.specs.declared.error.CoreError.{CoreError}
use Rattle.xet_core_structures.specs.declared.shard_format.MDBShardInfo.{MDBShardInfo}
use Rattle.xet_core_structures.specs.declared.source.MemorySource.{MemorySource}
use Rattle.xet_core_structures.specs.Ends.{HasHeaderAndFooter, Loads}
use Rattle.xet_shards.specs.Read.TableReading.{triple_row, FitsTriple, ReadsTable, TableFails}
use Rattle.xet_shards.specs.Read.TruncatedHashes.{ReadsHashes, HashesFail}
use Rattle.shard_bytes.specs.ChunkRows.{HasChunkRows, RefusesChunkRows}

pub rows_read : {Z : Type 0} (bytes : List ℕ) (info : MDBShardInfo) (start old new : MemorySource) → start.bytes.now ≡ bytes → Loads (in_memory start) (in_memory old) info
    → (result : Result (Vec (ℕ × (ℕ × ℕ)) Z) CoreError)
    → (info.metadata.chunk_lookup_num_entry ≢ 0
    → MatchResult result (λ found. ReadsTable triple_row FitsTriple 16 (in_memory old) (in_memory new) info.metadata.chunk_lookup_offset info.metadata.chunk_lookup_num_entry found.items)
    (TableFails 16 (in_memory old) (in_memory new) info.metadata.chunk_lookup_offset info.metadata.chunk_lookup_num_entry))
    → (info.metadata.chunk_lookup_num_entry ≡ 0
    → MatchResult result (λ found. ReadsHashes (in_memory old) (in_memory new) info.metadata.xorb_info_offset info.metadata.file_lookup_offset found.items)
    (HashesFail (in_memory old) (in_memory new) info.metadata.xorb_info_offset info.metadata.file_lookup_offset))
    → MatchResult result (λ found. HasChunkRows bytes found.items) (RefusesChunkRows bytes)
rows_read bytes info start old new same loads (Ok found) table section = record {
  info = info;
  ends = subst (λ all. HasHeaderAndFooter all info) same loads.ends;
  before = in_memory old;
  after = in_memory new;
  bytes_are = loads.bytes ∙ same;
  works = refl;
  outcome = (table, section);
}
rows_read bytes info start old new same loads (Err e) table section = inr (record {
  info = info;
  ends = subst (λ all. HasHeaderAndFooter all info) same loads.ends;
  before = in_memory old;
  after = in_memory new;
  bytes_are = loads.bytes ∙ same;
  works = refl;
  outcome = (table, section);
})
