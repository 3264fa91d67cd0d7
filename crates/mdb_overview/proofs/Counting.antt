-- Counts that are raised, and numbers that are counted.
use Rattle.std.proofs.Common.{◌≡◌, ℕ, ◌+◌, ◌==◌, List, [], ◌∷◌, ◌++◌, length, nat_le, arith, Bool, count_by}
use Rattle.std.proofs.lemmas.Grind.{common_steps}
use Rattle.std.proofs.lemmas.List.{length-append}
use Rattle.mdb_overview.specs.Counts.{saturating_count, count_in}
use Rattle.std.specs.List.{list_any}
use Rattle.std.specs.Bool.{if◌then◌else◌}
use Rattle.xet_base.specs.declared.merklehash.DataHash.{DataHash}
use Rattle.xet_base.specs.Hash.{hash_eq}
use Rattle.mdb_overview.specs.Sharing.{CountNumbers, shards_with}
use Rattle.mdb_overview.specs.declared.sharing.Sharing.{Sharing}

-- raised twice, a count is raised by the sum
pub saturating_count-saturating_count : (count n m : ℕ) → saturating_count (saturating_count count n) m ≡ saturating_count count (n + m)
saturating_count-saturating_count count n m = grind arith

pub count_by-append : {X : Type 0} (p : X → Bool) (xs ys : List X) → count_by p (xs ++ ys) ≡ count_by p xs + count_by p ys
count_by-append p [] ys = grind arith
count_by-append p (x ∷ xs) ys = grind (arith, common_steps, count_by-append p xs ys)

-- one more number is counted
pub CountNumbers-push : (xs : List ℕ) (x : ℕ) (old mid new : Sharing) → CountNumbers xs old mid → CountNumbers (x ∷ []) mid new → CountNumbers (xs ++ x ∷ []) old new
CountNumbers-push xs x old mid new h one = record {
  hashes = grind (arith, common_steps, h.hashes, one.hashes, length-append xs (x ∷ []), saturating_count-saturating_count old.hashes (length xs) 1);
  shared = grind (arith, common_steps, h.shared, one.shared, count_by-append (λ n. nat_le 2 n) xs (x ∷ []), saturating_count-saturating_count old.shared (count_by (λ n. nat_le 2 n) xs) (count_by (λ n. nat_le 2 n) (x ∷ [])));
  by_shards = λ q. grind (arith, common_steps, h.by_shards q, one.by_shards q, count_by-append (λ n. n == q) xs (x ∷ []), saturating_count-saturating_count (count_in old.by_shards q) (count_by (λ n. n == q) xs) (count_by (λ n. n == q) (x ∷ [])));
}

-- a shard more has a hash or not
pub shards_with-push : (hash : DataHash) (shards : List (List DataHash)) (hashes : List DataHash)
    → shards_with hash (shards ++ hashes ∷ []) ≡ shards_with hash shards + (if list_any (hash_eq hash) hashes then 1 else 0)
shards_with-push hash shards hashes = grind (arith, common_steps, count_by-append (λ hs. list_any (hash_eq hash) hs) shards (hashes ∷ []))
