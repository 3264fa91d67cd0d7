-- Hashes that are in order with the bounds of ranges, and lists of records before and behind a hash.
use Rattle.std.proofs.Common.{◌≡◌, ◌⊎◌, inl, inr, Bool, true, false, not, List, [], ◌∷◌, ◌++◌, map, Option, None, Some, refl, sym, ap, ◌∙◌, subst, true≢false}
use Rattle.std.specs.List.{AllByRecursion}
use Rattle.std.specs.List.Sorted.{IsStrictlySortedBy}
use Rattle.std.specs.Ordering.{is_lt, ordering_reverse}
use Rattle.std.specs.declared.cmp.Ordering.{Ordering}
use Rattle.std.specs.declared.cmp.Ordering.TheVariants.{Less, Equal, Greater}
use Rattle.xet_base.specs.declared.merklehash.DataHash.{DataHash}
use Rattle.xet_base.specs.Hash.{hash_cmp}
use Rattle.xet_base.proofs.HashOrder.{hash_cmp-IsTotalOrder, hash_cmp-IsAntisymmetric}
use Rattle.xet_records.specs.RecordKind.{RecordKind}
use Rattle.xet_shards.specs.Write.WithOptions.{Ascends}
use Rattle.xet_core_structures.specs.Records.RecordPairs.{key_of_record, ComeBefore, ComeFrom}
use Rattle.placed_shards.specs.Ranges.{is_from}

-- orders as tests
pub is_less : (o : Ordering) → is_lt o ≡ true → o ≡ Less
is_less Less is = refl
is_less Equal is = absurd (true≢false (sym is))
is_less Greater is = absurd (true≢false (sym is))

pub hash_cmp-reverse : (a b : DataHash) (o : Ordering) → hash_cmp a b ≡ o → hash_cmp b a ≡ ordering_reverse o
hash_cmp-reverse a b o is = hash_cmp-IsTotalOrder.antisymm b a ∙ ap ordering_reverse is

-- what is below a hash is below one that is not below that
pub below_through : (q k t : DataHash) → hash_cmp q k ≡ Less → is_lt (hash_cmp t k) ≡ false → hash_cmp q t ≡ Less
below_through q k t less not_below = by_order (hash_cmp t k) refl where
  by_order : (o : Ordering) → hash_cmp t k ≡ o → hash_cmp q t ≡ Less
  by_order Less is = absurd (true≢false (sym (ap is_lt is) ∙ not_below))
  by_order Equal is = subst (λ j. hash_cmp q j ≡ Less) (sym (hash_cmp-IsAntisymmetric t k is)) less
  by_order Greater is = hash_cmp-IsTotalOrder.trans q k t less (hash_cmp-reverse t k Greater is)

-- what is below a hash that is not above another is below that
pub not_below_through : (q k f : DataHash) → is_lt (hash_cmp q k) ≡ false → is_lt (hash_cmp k f) ≡ false → is_lt (hash_cmp q f) ≡ false
not_below_through q k f high low = by_order (hash_cmp q f) refl where
  by_order : (o : Ordering) → hash_cmp q f ≡ o → is_lt (hash_cmp q f) ≡ false
  by_order Less is = absurd (true≢false (sym (ap is_lt (below_through q f k is low)) ∙ high))
  by_order Equal is = ap is_lt is
  by_order Greater is = ap is_lt is

pub not_true : (b : Bool) → not b ≡ true → b ≡ false
not_true false is = refl
not_true true is = absurd (true≢false (sym is))

pub from_through : (q k : DataHash) (from : Option DataHash) → is_from from k ≡ true → is_lt (hash_cmp q k) ≡ false → is_from from q ≡ true
from_through q k None high low = refl
from_through q k (Some f) high low = ap not (not_below_through q k f low (not_true (is_lt (hash_cmp k f)) high))

-- lists that ascend, the first before a hash and the second from it on
module _ {H R : Type 0} (K : RecordKind H R) where
  below_all : (k j : DataHash) (us : List R) → hash_cmp j k ≡ Less → ComeFrom K k us → AllByRecursion (λ i. hash_cmp j i ≡ Less) (map (key_of_record K) us)
  below_all k j [] less from = tt
  below_all k j (u ∷ us) less from = (here from.0, below_all k j us less from.1) where
    here : ((hash_cmp k (key_of_record K u) ≡ Less) ⊎ (key_of_record K u ≡ k)) → hash_cmp j (key_of_record K u) ≡ Less
    here (inl above) = hash_cmp-IsTotalOrder.trans j k (key_of_record K u) less above
    here (inr same) = subst (λ i. hash_cmp j i ≡ Less) (sym same) less

  pub ascends_append : (k : DataHash) (xs us : List R) → ComeBefore K k xs → ComeFrom K k us → Ascends K xs → Ascends K us → Ascends K (xs ++ us)
  unfolding IsStrictlySortedBy
  ascends_append k [] us before from one other = other
  ascends_append k (x ∷ xs) us before from one other = (goes_on xs one.0, ascends_append k xs us before.1 from one.1 other) where
    goes_on : (xs : List R) → AllByRecursion (λ i. hash_cmp (key_of_record K x) i ≡ Less) (map (key_of_record K) xs)
        → AllByRecursion (λ i. hash_cmp (key_of_record K x) i ≡ Less) (map (key_of_record K) (xs ++ us))
    goes_on [] all = below_all k (key_of_record K x) us before.0 from
    goes_on (y ∷ ys) all = (all.0, goes_on ys all.1)
