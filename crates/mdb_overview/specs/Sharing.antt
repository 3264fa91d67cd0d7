-- Chunks that more than one shard has.
use Rattle.std.specs.Prelude.{◌≡◌, ℕ, ◌==◌, ◌||◌, if◌then◌else◌, nat_le, List, [], ◌∷◌, length, count_by, unwrap_or}
use Rattle.std.specs.HashMap.{get, values}
use Rattle.std.specs.HashSet.{HashSet, contains}
use Rattle.std.specs.declared.hash.FoldHasher.{FoldHasher}
use Rattle.std.specs.declared.hash.BuildHasherDefault.{BuildHasherDefault}
use Rattle.std.specs.List.{list_any}
use Rattle.xet_base.specs.declared.merklehash.DataHash.{DataHash}
use Rattle.xet_base.specs.Hash.{hash_eq}
use Rattle.mdb_overview.specs.Counts.{up_to_u64, count_in, saturating_count}
use Rattle.mdb_overview.specs.declared.sharing.ChunkHashes.{ChunkHashes}
use Rattle.mdb_overview.specs.declared.sharing.Sharing.{Sharing}

-- a set of hashes
abbrev pub Hashes : Type 0
Hashes = HashSet DataHash (BuildHasherDefault FoldHasher)

-- of how many shards it was counted that they have a hash
abbrev pub shards_of : ChunkHashes → DataHash → ℕ
shards_of hashes hash = unwrap_or (get hash_eq hashes.shards hash) 0

-- in how many shards, each the list of its chunks' hashes, a hash is
abbrev pub shards_with : DataHash → List (List DataHash) → ℕ
shards_with hash shards = count_by (λ hashes. list_any (hash_eq hash) hashes) shards

-- each hash has the number of the shards that have it
abbrev pub CountShards : List (List DataHash) → ChunkHashes → Type 0
CountShards shards hashes = (hash : DataHash)
    → shards_of hashes hash ≡ up_to_u64 (shards_with hash shards)

-- one more shard was counted for a hash, unless it was seen in that shard, as which it counts now
pub record AddsOnce (hash : DataHash) (seen_old seen_new : Hashes) (old new : ChunkHashes) : Type 0 where
  pub seen : (q : DataHash)
      → contains hash_eq seen_new q ≡ (hash_eq hash q || contains hash_eq seen_old q)
  pub counts : (q : DataHash) → shards_of new q
      ≡ saturating_count (shards_of old q)
      (if contains hash_eq seen_old q then 0 else if hash_eq hash q then 1 else 0)

-- hashes were counted, each with the number of shards that have it
pub record CountNumbers (numbers : List ℕ) (old new : Sharing) : Type 0 where
  pub hashes : new.hashes ≡ saturating_count old.hashes (length numbers)
  pub shared : new.shared ≡ saturating_count old.shared (count_by (λ n. nat_le 2 n) numbers)
  pub by_shards : (number : ℕ) → count_in new.by_shards number
      ≡ saturating_count (count_in old.by_shards number) (count_by (λ n. n == number) numbers)

-- one hash was counted
abbrev pub CountsHash : ℕ → Sharing → Sharing → Type 0
CountsHash shards old new = CountNumbers (shards ∷ []) old new

-- all hashes were counted
abbrev pub CountsHashes : ChunkHashes → Sharing → Sharing → Type 0
CountsHashes hashes old new = CountNumbers (values hashes.shards) old new
