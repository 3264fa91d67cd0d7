-- The hashes of one shard, gone through one after another.
use Rattle.std.proofs.Common.{◌≡◌, ℕ, ◌+◌, ◌<◌, Bool, true, false, ◌||◌, List, length, take, get_or, sym, ap, ◌∙◌, arith}
use Rattle.std.specs.Bool.{if◌then◌else◌}
use Rattle.std.specs.List.{list_any}
use Rattle.std.proofs.lemmas.Bool.Decides.{same_from_decides}
use Rattle.std.proofs.lemmas.List.Folds.{list_any_more}
use Rattle.xet_base.specs.declared.merklehash.DataHash.{DataHash}
use Rattle.xet_base.specs.Hash.{hash_eq}
use Rattle.xet_base.proofs.HashOrder.{same_hash}
use Rattle.mdb_overview.specs.Counts.{up_to_u64, saturating_count}

hash_eq-sym : (a b : DataHash) → hash_eq b a ≡ hash_eq a b
hash_eq-sym a b = same_from_decides (hash_eq b a) (hash_eq a b) (λ t. sym ((same_hash b a).0 t), λ e. (same_hash b a).1 (sym e)) (same_hash a b)

or-swap : (a b : Bool) → (a || b) ≡ (b || a)
or-swap a b = grind arith

-- whether a hash was among those so far, and one more
pub seen_more : (q : DataHash) (hashes : List DataHash) (i : ℕ) (d : DataHash) → i < length hashes
    → (hash_eq (get_or hashes i d) q || list_any (hash_eq q) (take i hashes)) ≡ list_any (hash_eq q) (take (i + 1) hashes)
seen_more q hashes i d below =
    or-swap (hash_eq (get_or hashes i d) q) (list_any (hash_eq q) (take i hashes))
    ∙ ap (λ b. list_any (hash_eq q) (take i hashes) || b) (hash_eq-sym q (get_or hashes i d))
    ∙ sym (list_any_more (hash_eq q) hashes i d below)

-- a hash is counted where it is met first
pub counted_once : (seen same : Bool) (old mid new : ℕ)
    → mid ≡ saturating_count old (if seen then 1 else 0) → new ≡ saturating_count mid (if seen then 0 else if same then 1 else 0)
    → new ≡ saturating_count old (if same || seen then 1 else 0)
counted_once true true old mid new was now = grind arith
counted_once true false old mid new was now = grind arith
counted_once false true old mid new was now = grind arith
counted_once false false old mid new was now = grind arith

-- the shard counts once
pub counted_more : (shards : ℕ) (has : Bool) (old new : ℕ)
    → old ≡ up_to_u64 shards → new ≡ saturating_count old (if has then 1 else 0) → new ≡ up_to_u64 (shards + (if has then 1 else 0))
counted_more shards true old new was now = grind arith
counted_more shards false old new was now = grind arith
