-- Runs of hashes among chunks, and the location at which a run starts.
use Rattle.std.proofs.Common.{◌≡◌, ℕ, ◌+◌, ◌≤◌, Bool, List, [], ◌∷◌, length, take, drop, Some, None, refl, sym, ap, ◌∙◌, cond, arith, true≢false, is_some}
use Rattle.std.specs.Prelude.{option_map, slice_get}
use Rattle.std.specs.List.{zip, prefix_len}
use Rattle.std.specs.FinMap.{get}
use Rattle.std.proofs.lemmas.Option.{none-some, same_Some}
use Rattle.std.proofs.lemmas.List.Sums.{sum_by-take-le, sum_by-take-drop}
use Rattle.xet_base.specs.declared.merklehash.DataHash.{DataHash}
use Rattle.xet_base.specs.Hash.{hash_eq}
use Rattle.xet_base.specs.KeyedHash.{no_key}
use Rattle.xet_records.specs.declared.xorb_structs.XorbChunkSequenceEntry.{XorbChunkSequenceEntry}
use Rattle.xet_records.specs.XorbRecord.{total_bytes}
use Rattle.xet_shards.specs.ShardInMemory.ChunkLookup.{ChunkLocation, LocationMap, IsChunkLookup}
use Rattle.xet_shards.specs.Content.Shard.{XorbMap}
use Rattle.xet_shards.specs.ShardInMemory.ChunkQuery.{run_length, run_at, query_answer, HasNoChunk}
use Rattle.xet_shards.proofs.ShardInMemory.ChunkLookups.{chunk_within}

-- a hash is paired with a chunk that has it
abbrev pub is_hit : DataHash × XorbChunkSequenceEntry → Bool
is_hit p = hash_eq p.0 p.1.chunk_hash

pub prefix_is_run : (qs : List DataHash) (cs : List XorbChunkSequenceEntry) → prefix_len is_hit (zip qs cs) ≡ run_length no_key qs cs
prefix_is_run [] cs = refl
prefix_is_run (q ∷ qs) [] = refl
prefix_is_run (q ∷ qs) (c ∷ cs) = ap (λ n. cond (hash_eq q c.chunk_hash) (1 + n) 0) (prefix_is_run qs cs)

-- a part of a xorb's chunks has no more bytes than all of them
pub bytes_of_part : (cs : List XorbChunkSequenceEntry) (start most count : ℕ) → total_bytes (take count (take most (drop start cs))) ≤ total_bytes cs
bytes_of_part cs start most count =
    let size = λ (c : XorbChunkSequenceEntry). c.unpacked_segment_bytes in
    omega (arith, sum_by-take-le size (take most (drop start cs)) count, sum_by-take-le size (drop start cs) most, sum_by-take-drop size cs start)

-- the index of a location is within the xorb's chunks
pub location_within : (xorbs : XorbMap) (locations : LocationMap) (q : DataHash) (p : ChunkLocation) → IsChunkLookup xorbs (get locations) → get locations q ≡ Some p → p.1 ≤ length p.0.chunks
location_within xorbs locations q p lookup kept = omega (arith, chunk_within p.0.chunks p.1 q (lookup.present q p kept).chunk)

-- the run at the location of the first hash is the answer
pub answer_kept : (locations : LocationMap) (qs : List DataHash) (q : DataHash) (p : ChunkLocation) → Some q ≡ slice_get qs 0 → get locations q ≡ Some p → Some (run_at no_key p qs) ≡ query_answer locations qs
answer_kept locations [] q p first kept = absurd (none-some q (sym first))
answer_kept locations (r ∷ qs) q p first kept = ap (option_map (λ s. run_at no_key s (r ∷ qs))) (sym kept ∙ ap (get locations) (same_Some q r first))

-- if the lookup has no location, no xorb has the chunk
pub no_xorb_has : (xorbs : XorbMap) (locations : LocationMap) (qs : List DataHash) (q : DataHash) → IsChunkLookup xorbs (get locations) → Some q ≡ slice_get qs 0 → get locations q ≡ None → HasNoChunk xorbs qs
no_xorb_has xorbs locations qs q lookup first kept = λ k p at location.
    let same : q ≡ k = same_Some q k (first ∙ at) in
    absurd (true≢false (sym (lookup.complete k p location) ∙ ap is_some (ap (get locations) (sym same) ∙ kept)))
