-- Unions of lists whose records come before a hash, and of lists whose records do not.
use Rattle.std.proofs.Common.{◌≡◌, ◌⊎◌, inl, inr, List, [], ◌∷◌, ◌++◌, Option, Some, refl, sym, ap, ◌∙◌, subst, cond}
use Rattle.std.specs.Ordering.{eq_by_cmp, ordering_reverse}
use Rattle.std.specs.declared.cmp.Ordering.{Ordering}
use Rattle.std.specs.declared.cmp.Ordering.TheVariants.{Less, Equal, Greater}
use Rattle.std.proofs.lemmas.List.Elements.{All-append}
use Rattle.xet_base.specs.declared.merklehash.DataHash.{DataHash}
use Rattle.xet_base.specs.Hash.{hash_cmp}
use Rattle.xet_base.proofs.HashOrder.{hash_cmp-IsTotalOrder, hash_cmp-IsAntisymmetric}
use Rattle.xet_records.specs.RecordKind.{RecordKind}
use Rattle.xet_core_structures.specs.Records.RecordPairs.{key_of_record, with_hash, ComeBefore, ComeFrom, AreApart, Combines}
use Rattle.xet_core_structures.proofs.Records.RecordPairs.{ComeAfter, same_before, less-not_equal}
use Rattle.placed_shards.proofs.HashRanges.{ascends_append}

module _ {H R : Type 0} (K : RecordKind H R) where
  after_from : (k q : DataHash) (rs : List R) → hash_cmp q k ≡ Less → ComeFrom K k rs → ComeAfter K q rs
  after_from k q [] less from = tt
  after_from k q (r ∷ rs) less from = (here from.0, after_from k q rs less from.1) where
    here : ((hash_cmp k (key_of_record K r) ≡ Less) ⊎ (key_of_record K r ≡ k)) → hash_cmp q (key_of_record K r) ≡ Less
    here (inl above) = hash_cmp-IsTotalOrder.trans q k (key_of_record K r) less above
    here (inr same) = subst (λ j. hash_cmp q j ≡ Less) (sym same) less

  -- a hash that is not below another is that one or above it
  abbrev IsFrom : DataHash → DataHash → Type 0
  IsFrom k q = (q ≡ k) ⊎ (hash_cmp k q ≡ Less)

  passes : (k q j : DataHash) → IsFrom k q → hash_cmp j k ≡ Less → hash_cmp j q ≡ Less
  passes k q j (inl same) less = subst (λ i. hash_cmp j i ≡ Less) (sym same) less
  passes k q j (inr above) less = hash_cmp-IsTotalOrder.trans j k q less above

  -- a list that begins with smaller hashes has the same record under a hash that is not smaller
  same_after : (k q : DataHash) (xs us : List R) → IsFrom k q → ComeBefore K k xs → with_hash K (xs ++ us) q ≡ with_hash K us q
  same_after k q [] us from before = refl
  same_after k q (x ∷ xs) us from before =
      ap (λ b. cond b (Some x) (with_hash K (xs ++ us) q)) (less-not_equal K q (key_of_record K x) (passes k q (key_of_record K x) from before.0) (eq_by_cmp hash_cmp q (key_of_record K x)) refl)
      ∙ same_after k q xs us from before.1

  pub combines_append : (E : Option R → Option R → Option R → Type 0) (k : DataHash) (xs ys zs us vs ws : List R) → AreApart K xs ys zs us vs ws k
      → Combines K E xs ys zs → Combines K E us vs ws → Combines K E (xs ++ us) (ys ++ vs) (zs ++ ws)
  combines_append E k xs ys zs us vs ws far one other = record {
    ascends = ascends_append K k zs ws far.below.combined far.combined one.ascends other.ascends;
    each = each;
    stored = All-append K.IsStored zs ws one.stored other.stored;
  } where
    same_three : (a b c a' b' c' : Option R) → a ≡ a' → b ≡ b' → c ≡ c' → E a' b' c' → E a b c
    same_three a b c a' b' c' p q r e = subst (λ t. t) (λ i. E (sym p i) (sym q i) (sym r i)) e

    low : (q : DataHash) → hash_cmp q k ≡ Less → E (with_hash K (xs ++ us) q) (with_hash K (ys ++ vs) q) (with_hash K (zs ++ ws) q)
    low q less = same_three _ _ _ _ _ _ (same_before K q xs us (after_from k q us less far.first)) (same_before K q ys vs (after_from k q vs less far.second)) (same_before K q zs ws (after_from k q ws less far.combined)) (one.each q)

    high : (q : DataHash) → IsFrom k q → E (with_hash K (xs ++ us) q) (with_hash K (ys ++ vs) q) (with_hash K (zs ++ ws) q)
    high q from = same_three _ _ _ _ _ _ (same_after k q xs us from far.below.first) (same_after k q ys vs from far.below.second) (same_after k q zs ws from far.below.combined) (other.each q)

    at : (q : DataHash) (o : Ordering) → hash_cmp q k ≡ o → E (with_hash K (xs ++ us) q) (with_hash K (ys ++ vs) q) (with_hash K (zs ++ ws) q)
    at q Less is = low q is
    at q Equal is = high q (inl (hash_cmp-IsAntisymmetric q k is))
    at q Greater is = high q (inr (hash_cmp-IsTotalOrder.antisymm k q ∙ ap ordering_reverse is))

    each : (q : DataHash) → E (with_hash K (xs ++ us) q) (with_hash K (ys ++ vs) q) (with_hash K (zs ++ ws) q)
    each q = at q (hash_cmp q k) refl
