-- The bytes of a shard that are read from a source in memory.
use Rattle.std.proofs.Common.{◌≡◌, inl, inr, ℕ, List, Option, Ok, Err, sym, subst, ◌∙◌, arith}
use Rattle.std.specs.Prelude.{IsOkAnd, MatchResult}
use Rattle.std.specs.FinMap.{values}
use Rattle.std.specs.declared.result.Result.{Result}
use Rattle.std.specs.declared.vec.Vec.{Vec}
use Rattle.xet_base.specs.MemorySource.{in_memory}
use Rattle.xet_core_structures.specs.declared.error.CoreError.{CoreError}
use Rattle.xet_core_structures.specs.declared.error.CoreError.TheVariants.{OutOfMemory}
use Rattle.xet_core_structures.specs.declared.file_structs.MDBFileInfo.{MDBFileInfo}
use Rattle.xet_core_structures.specs.declared.merklehash.DataHash.{DataHash}
use Rattle.xet_core_structures.specs.declared.shard_format.MDBShardInfo.{MDBShardInfo}
use Rattle.xet_core_structures.specs.declared.source.MemorySource.{MemorySource}
use Rattle.xet_core_structures.specs.declared.xorb_structs.MDBXorbInfo.{MDBXorbInfo}
use Rattle.xet_core_structures.specs.Ends.{HasHeaderAndFooter, Loads}
use Rattle.xet_core_structures.specs.FileRecord.{file_records}
use Rattle.xet_core_structures.specs.Lookup.{FoundInShard, LookupFailsAmong}
use Rattle.xet_core_structures.specs.Shard.{Shard}
use Rattle.xet_core_structures.specs.Source.{Source, DeviceFailure}
use Rattle.xet_core_structures.specs.ChunkQuery.{Run}
use Rattle.xet_core_structures.specs.KeyedHash.{no_key}
use Rattle.xet_core_structures.specs.WrittenQueries.{RunInXorb, QueryFailsInXorb}
use Rattle.xet_core_structures.specs.WrittenShard.{IsBytesOf, IsBytesWithInfo, ReadsBack}
use Rattle.shard_bytes.specs.Finding.{NotFoundInShard}
use Rattle.shard_bytes.specs.Query.{HasNoChunkAt}

-- header and footer were read from these bytes
pub as_written : (s : Shard) (bytes : List ℕ) (old new : Source) (info : MDBShardInfo) → IsBytesOf s bytes → old.bytes ≡ bytes → Loads old new info → IsBytesWithInfo s new.bytes info
as_written s bytes old new info is same loads = record {
  is_bytes = subst (IsBytesOf s) (sym (loads.bytes ∙ same)) is;
  ends = subst (λ bs. HasHeaderAndFooter bs info) (sym loads.bytes) loads.ends;
}

-- a source in memory does not fail
pub ok_in_memory : {T : Type 0} (result : Result T CoreError) (IsRight : T → Type 0) (old new : MemorySource) → MatchResult result IsRight (DeviceFailure (in_memory old) (in_memory new)) → IsOkAnd result IsRight
ok_in_memory (Ok value) IsRight old new is = is
ok_in_memory (Err e) IsRight old new failed = absurd (omega (arith, failed.0))

pub lookup_in_memory : (s : Shard) (hash : DataHash) (result : Result (Option MDBFileInfo) CoreError) (old new : MemorySource)
    → MatchResult result (FoundInShard s hash) (LookupFailsAmong file_records (values s.files) hash (in_memory old) (in_memory new)) → MatchResult result (FoundInShard s hash) (NotFoundInShard s hash)
lookup_in_memory s hash (Ok value) old new is = is
lookup_in_memory s hash (Err e) old new (inl failed) = absurd (omega (arith, failed.0))
lookup_in_memory s hash (Err e) old new (inr (inl short)) = inl short
lookup_in_memory s hash (Err e) old new (inr (inr many)) = inr many

-- a query at a chunk of a xorb, on a source in memory
pub direct_in_memory : (hashes : List DataHash) (xorb : MDBXorbInfo) (index : ℕ) (result : Result (Option Run) CoreError) (old new : MemorySource)
    → MatchResult result (RunInXorb no_key hashes xorb index) (QueryFailsInXorb hashes xorb index (in_memory old) (in_memory new))
    → MatchResult result (RunInXorb no_key hashes xorb index) (HasNoChunkAt hashes xorb index)
direct_in_memory hashes xorb index (Ok value) old new is = is
direct_in_memory hashes xorb index (Err e) old new (some, inl failed) = absurd (omega (arith, failed.0))
direct_in_memory hashes xorb index (Err e) old new (some, inr (is, past)) = (some, is, past)

-- a list of a shard is read from a source in memory
pub list_in_memory : {T Z : Type 0} (items : List T) (result : Result (Vec T Z) CoreError) (old new : MemorySource) → ReadsBack items (in_memory old) (in_memory new) result
    → MatchResult result (λ found. found.items ≡ items) (λ e. e ≡ OutOfMemory)
list_in_memory items (Ok found) old new is = is
list_in_memory items (Err e) old new (inl failed) = absurd (omega (arith, failed.0))
list_in_memory items (Err e) old new (inr is) = is
