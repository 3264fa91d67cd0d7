-- The lists that sorted hashes come from.
use Rattle.std.proofs.Common.{◌≡◌, ◌↔◌, ℕ, ◌+◌, ◌<◌, List, [], ◌∷◌, ◌++◌, length, map, take, Contains, None, Some, sym, ap, ◌∙◌, subst, arith, ⊎_elim}
use Rattle.std.specs.Prelude.{slice_get}
use Rattle.std.specs.List.Sorted.{IsPermutation}
use Rattle.std.proofs.lemmas.List.{map_push}
use Rattle.std.proofs.lemmas.Option.{none-some, slice_get_cases}
use Rattle.std.proofs.lemmas.List.Sorted.{Contains-permutation, IsPermutation-sym}
use Rattle.xet_base.specs.declared.merklehash.DataHash.{DataHash}
use Rattle.xet_shards.proofs.Content.MappedShards.{mapped_member, unmapped_member}
use Rattle.xet_core_structures.specs.Shard.{xorb_hash_of}
use Rattle.xet_core_structures.specs.declared.xorb_structs.MDBXorbInfo.{MDBXorbInfo}
use Rattle.xet_core_structures.specs.MinimalShard.{MinimalShard}
use Rattle.xet_shards.proofs.StreamingShard.MinimalShard.{one_more}
use Rattle.shard_bytes.specs.Minimal.{HasXorb}

-- a list and what it was sorted from have the same hashes
pub sorted_has : (hashes sorted : List DataHash) → IsPermutation hashes sorted → (hash : DataHash) → Contains sorted hash ↔ Contains hashes hash
sorted_has hashes sorted moved hash = (Contains-permutation sorted hashes hash (IsPermutation-sym hashes sorted moved), Contains-permutation hashes sorted hash moved)

-- an index within a list has an element
pub none_within : {X : Type 0} (xs : List X) (i : ℕ) → i < length xs → slice_get xs i ≡ None → ⊥
none_within xs i below none =
    ⊎_elim (λ (x, within, there, is). none-some _ (sym none ∙ there)) (λ (past, nothing). omega (arith, below, past)) (slice_get_cases xs i).1

-- the hash of one xorb more
pub next_hash : (xorbs : List MDBXorbInfo) (i : ℕ) (x : MDBXorbInfo) (before after : List DataHash) → slice_get xorbs i ≡ Some x
    → before ≡ map xorb_hash_of (take i xorbs) → after ≡ before ++ xorb_hash_of x ∷ [] → after ≡ map xorb_hash_of (take (i + 1) xorbs)
next_hash xorbs i x before after there so_far is =
    is ∙ ap (λ hs. hs ++ xorb_hash_of x ∷ []) so_far ∙ sym (ap (map xorb_hash_of) (one_more xorbs i x there) ∙ map_push xorb_hash_of (take i xorbs) x)

-- among the sorted hashes of the xorbs are those that a xorb has
pub known_has : (m : MinimalShard) (hashes sorted : List DataHash) → hashes ≡ map xorb_hash_of m.xorbs → IsPermutation hashes sorted
    → (hash : DataHash) → Contains sorted hash ↔ HasXorb m hash
known_has m hashes sorted are moved hash =
    let same = sorted_has hashes sorted moved hash in (
      λ has. unmapped_member xorb_hash_of m.xorbs hash (subst (λ hs. Contains hs hash) are (same.0 has)),
      λ (x, among, is). same.1 (subst (λ hs. Contains hs hash) (sym are) (subst (Contains (map xorb_hash_of m.xorbs)) is (mapped_member xorb_hash_of m.xorbs x among))),
    )
