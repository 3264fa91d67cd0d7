-- Lists of records whose hashes strictly ascend, combined hash by hash.
use Rattle.std.proofs.Common.{◌≡◌, ◌⊎◌, inl, inr, Bool, true, false, List, [], ◌∷◌, ◌++◌, map, Option, None, Some, IfSome, refl, sym, ap, ◌∙◌, subst, cond, append-nil, true≢false}
use Rattle.std.specs.Prelude.{All, option_to_list}
use Rattle.std.specs.Option.{option_or}
use Rattle.std.specs.List.{AllByRecursion}
use Rattle.std.specs.List.Sorted.{IsStrictlySortedBy}
use Rattle.std.specs.Ordering.{eq_by_cmp}
use Rattle.std.specs.declared.cmp.Ordering.{Ordering}
use Rattle.std.specs.declared.cmp.Ordering.TheVariants.{Less, Equal}
use Rattle.std.proofs.lemmas.List.{map-append}
use Rattle.std.proofs.lemmas.List.Elements.{All-append, All-cons, All-nil}
use Rattle.std.proofs.lemmas.Option.{none-some, IfSome_then}
use Rattle.xet_base.specs.declared.merklehash.DataHash.{DataHash}
use Rattle.xet_base.specs.Hash.{hash_cmp}
use Rattle.xet_base.proofs.HashOrder.{hash_cmp-IsTotalOrder, same_key}
use Rattle.xet_records.specs.RecordKind.{RecordKind}
use Rattle.xet_shards.specs.Content.Joining.{entry}
use Rattle.xet_shards.proofs.Content.Joining.{entry-append, or_none}
use Rattle.xet_shards.specs.Write.WithOptions.{Ascends}
use Rattle.xet_core_structures.specs.Records.RecordPairs.{key_of_record, by_hash, with_hash, ComeBefore, ArePassed, Combines}

-- what holds of each element of a list
all_through : {X : Type 0} (P Q : X → Type 0) (xs : List X) → ((x : X) → P x → Q x) → AllByRecursion P xs → AllByRecursion Q xs
all_through P Q [] into p = tt
all_through P Q (x ∷ xs) into p = (into x p.0, all_through P Q xs into p.1)

module _ {H R : Type 0} (K : RecordKind H R) where
  -- the records come before a hash, or after it
  abbrev Before : DataHash → List R → Type 0
  Before k rs = ComeBefore K k rs

  abbrev pub ComeAfter : DataHash → List R → Type 0
  ComeAfter k rs = AllByRecursion (λ r. hash_cmp k (key_of_record K r) ≡ Less) rs

  -- the header that comes next, if there is one, has a greater hash
  abbrev pub ComesLater : DataHash → Option H → Type 0
  ComesLater k next = IfSome next (λ h. hash_cmp k (K.hash_of h) ≡ Less)

  pub before_later : (k q : DataHash) (rs : List R) → hash_cmp k q ≡ Less → Before k rs → Before q rs
  before_later k q rs less before = all_through _ _ rs (λ r below. hash_cmp-IsTotalOrder.trans (key_of_record K r) k q below less) before

  pub after_earlier : (k q : DataHash) (rs : List R) → hash_cmp q k ≡ Less → ComeAfter k rs → ComeAfter q rs
  after_earlier k q rs less after = all_through _ _ rs (λ r above. hash_cmp-IsTotalOrder.trans q k (key_of_record K r) less above) after

  -- a record has a hash, if there is one; and it may be stored
  abbrev pub HasHash : DataHash → Option R → Type 0
  HasHash k o = IfSome o (λ r. key_of_record K r ≡ k)

  abbrev pub IsUnder : DataHash → Option R → Type 0
  IsUnder k o = IfSome o (λ r. (key_of_record K r ≡ k) × K.IsStored r)

  pub hash_under : (k : DataHash) (o : Option R) → IsUnder k o → HasHash k o
  hash_under k None under = tt
  hash_under k (Some r) under = under.0

  pub before_push : (k : DataHash) (q : DataHash) (rs : List R) (o : Option R) → HasHash k o → hash_cmp k q ≡ Less → Before q rs → Before q (rs ++ option_to_list o)
  before_push k q [] None under less before = tt
  before_push k q [] (Some r) under less before = (subst (λ j. hash_cmp j q ≡ Less) (sym under) less, tt)
  before_push k q (x ∷ rs) o under less before = (before.0, before_push k q rs o under less before.1)

  -- two hashes of which one is less are not equal
  abbrev is_equal : Ordering → Bool
  is_equal Equal = true
  is_equal o = false

  pub less-not_equal : (k q : DataHash) → hash_cmp q k ≡ Less → (b : Bool) → eq_by_cmp hash_cmp k q ≡ b → b ≡ false
  less-not_equal k q less false is = refl
  less-not_equal k q less true is = absurd (true≢false (sym ((same_key q k).1 (sym ((same_key k q).0 is))) ∙ ap is_equal less))

  apart_before : (k q : DataHash) → hash_cmp k q ≡ Less → (b : Bool) → eq_by_cmp hash_cmp k q ≡ b → b ≡ false
  apart_before k q less false is = refl
  apart_before k q less true is = absurd (true≢false (sym ((same_key k q).1 ((same_key k q).0 is)) ∙ ap is_equal less))

  pub none_before : (k : DataHash) (rs : List R) → Before k rs → with_hash K rs k ≡ None
  none_before k [] before = refl
  none_before k (r ∷ rs) before = ap (λ b. cond b (Some r) (with_hash K rs k)) (less-not_equal k (key_of_record K r) before.0 (eq_by_cmp hash_cmp k (key_of_record K r)) refl) ∙ none_before k rs before.1

  -- a list with one more record, or none, under a hash that comes after all of it
  pushes_record : (k q : DataHash) (rs : List R) (o : Option R) → HasHash k o → Before k rs → (t : Bool) → eq_by_cmp hash_cmp q k ≡ t
      → with_hash K (rs ++ option_to_list o) q ≡ cond t o (with_hash K rs q)
  pushes_record k q rs None under before true tied = ap (λ zs. with_hash K zs q) (append-nil rs) ∙ ap (with_hash K rs) ((same_key q k).0 tied) ∙ none_before k rs before
  pushes_record k q rs None under before false tied = ap (λ zs. with_hash K zs q) (append-nil rs)
  pushes_record k q rs (Some r) under before t tied =
      ap (λ es. entry es q) (map-append (λ s. (key_of_record K s, s)) rs (r ∷ [])) ∙ entry-append (by_hash K rs) (key_of_record K r) r q
      ∙ ap (λ j. option_or (with_hash K rs q) (cond (eq_by_cmp hash_cmp q j) (Some r) None)) under
      ∙ ap (λ b. option_or (with_hash K rs q) (cond b (Some r) None)) tied ∙ at t tied
    where
      at : (t : Bool) → eq_by_cmp hash_cmp q k ≡ t → option_or (with_hash K rs q) (cond t (Some r) None) ≡ cond t (Some r) (with_hash K rs q)
      at true is = ap (λ o. option_or o (Some r)) (ap (with_hash K rs) ((same_key q k).0 is) ∙ none_before k rs before)
      at false is = or_none (with_hash K rs q)

  pub ascends_push : (k : DataHash) (rs : List R) (o : Option R) → HasHash k o → Before k rs → Ascends K rs → Ascends K (rs ++ option_to_list o)
  unfolding IsStrictlySortedBy
  ascends_push k [] None under before ascends = tt
  ascends_push k [] (Some r) under before ascends = (tt, tt)
  ascends_push k (x ∷ rs) o under before ascends = (below rs o under ascends.0, ascends_push k rs o under before.1 ascends.1) where
    below : (rs : List R) (o : Option R) → HasHash k o → AllByRecursion (λ q. hash_cmp (key_of_record K x) q ≡ Less) (map (key_of_record K) rs)
        → AllByRecursion (λ q. hash_cmp (key_of_record K x) q ≡ Less) (map (key_of_record K) (rs ++ option_to_list o))
    below [] None under all = tt
    below [] (Some r) under all = (subst (λ j. hash_cmp (key_of_record K x) j ≡ Less) (sym under) before.0, tt)
    below (y ∷ ys) o under all = (all.0, below ys o under all.1)

  stored_push : (k : DataHash) (rs : List R) (o : Option R) → IsUnder k o → All K.IsStored rs → All K.IsStored (rs ++ option_to_list o)
  stored_push k rs None under all = subst (All K.IsStored) (sym (append-nil rs)) all
  stored_push k rs (Some r) under all = All-append K.IsStored rs (r ∷ []) all (All-cons K.IsStored r [] under.1 (All-nil K.IsStored))

  module _ (IsEither : Option R → Option R → Option R → Type 0) where
    -- the fronts of two lists ascend and are combined, and the next header of each, if there is one, has a greater hash than they and what was made
    pub record AreCombinedBefore (xs ys zs : List R) (next_1 next_2 : Option H) : Type 0 where
      pub first_ascends : Ascends K xs
      pub second_ascends : Ascends K ys
      pub combined : Combines K IsEither xs ys zs
      pub passed_1 : IfSome next_1 (λ h. ArePassed K xs ys zs (K.hash_of h))
      pub passed_2 : IfSome next_2 (λ h. ArePassed K xs ys zs (K.hash_of h))

    pub combined_start : IsEither None None None → (next_1 next_2 : Option H) → AreCombinedBefore [] [] [] next_1 next_2
    unfolding IsStrictlySortedBy
    combined_start nothing next_1 next_2 =
        record { first_ascends = tt; second_ascends = tt; combined = record { ascends = tt; each = λ q. nothing; stored = All-nil K.IsStored }; passed_1 = none_passed next_1; passed_2 = none_passed next_2 }
      where
        none_passed : (next : Option H) → IfSome next (λ h. ArePassed K [] [] [] (K.hash_of h))
        none_passed None = tt
        none_passed (Some h) = record { first = tt; second = tt; combined = tt }

    -- so they and what was made have smaller hashes than the next header of either
    pub next_passed : (xs ys zs : List R) (next_1 next_2 : Option H) → AreCombinedBefore xs ys zs next_1 next_2 → (k : DataHash) (h : H) → (next_1 ≡ Some h) ⊎ (next_2 ≡ Some h) → K.hash_of h ≡ k → ArePassed K xs ys zs k
    next_passed xs ys zs next_1 next_2 fronts k h (inl is) hash = subst (ArePassed K xs ys zs) hash (subst (λ o. IfSome o (λ g. ArePassed K xs ys zs (K.hash_of g))) is fronts.passed_1)
    next_passed xs ys zs next_1 next_2 fronts k h (inr is) hash = subst (ArePassed K xs ys zs) hash (subst (λ o. IfSome o (λ g. ArePassed K xs ys zs (K.hash_of g))) is fronts.passed_2)

    -- one hash more: the first's record, the second's, and what is made of them
    module _ (k : DataHash) (ox oy oz : Option R) (x_under : HasHash k ox) (y_under : HasHash k oy) (z_under : IsUnder k oz) (made : IsEither ox oy oz)
        (fx fy out : List R) (passed : ArePassed K fx fy out k) where
      passed_on : (q : DataHash) → hash_cmp k q ≡ Less → ArePassed K (fx ++ option_to_list ox) (fy ++ option_to_list oy) (out ++ option_to_list oz) q
      passed_on q less = record {
        first = before_push k q fx ox x_under less (before_later k q fx less passed.first);
        second = before_push k q fy oy y_under less (before_later k q fy less passed.second);
        combined = before_push k q out oz (hash_under k oz z_under) less (before_later k q out less passed.combined);
      }

      each_more : Combines K IsEither fx fy out → (q : DataHash)
          → IsEither (with_hash K (fx ++ option_to_list ox) q) (with_hash K (fy ++ option_to_list oy) q) (with_hash K (out ++ option_to_list oz) q)
      each_more so_far q = at (eq_by_cmp hash_cmp q k) refl where
        at : (t : Bool) → eq_by_cmp hash_cmp q k ≡ t → IsEither (with_hash K (fx ++ option_to_list ox) q) (with_hash K (fy ++ option_to_list oy) q) (with_hash K (out ++ option_to_list oz) q)
        at true tied = subst (λ p. p) (λ i. IsEither (sym (pushes_record k q fx ox x_under passed.first true tied) i) (sym (pushes_record k q fy oy y_under passed.second true tied) i) (sym (pushes_record k q out oz (hash_under k oz z_under) passed.combined true tied) i)) made
        at false tied = subst (λ p. p) (λ i. IsEither (sym (pushes_record k q fx ox x_under passed.first false tied) i) (sym (pushes_record k q fy oy y_under passed.second false tied) i) (sym (pushes_record k q out oz (hash_under k oz z_under) passed.combined false tied) i)) (so_far.each q)

      pub more_combined : Combines K IsEither fx fy out → Combines K IsEither (fx ++ option_to_list ox) (fy ++ option_to_list oy) (out ++ option_to_list oz)
      more_combined so_far = record {
        ascends = ascends_push k out oz (hash_under k oz z_under) passed.combined so_far.ascends;
        each = each_more so_far;
        stored = stored_push k out oz z_under so_far.stored;
      }

      pub combined_on : (next_1 next_2 next_1' next_2' : Option H) → AreCombinedBefore fx fy out next_1 next_2 → ComesLater k next_1' → ComesLater k next_2'
          → AreCombinedBefore (fx ++ option_to_list ox) (fy ++ option_to_list oy) (out ++ option_to_list oz) next_1' next_2'
      combined_on next_1 next_2 next_1' next_2' fronts later_1 later_2 = record {
        first_ascends = ascends_push k fx ox x_under passed.first fronts.first_ascends;
        second_ascends = ascends_push k fy oy y_under passed.second fronts.second_ascends;
        combined = more_combined fronts.combined;
        passed_1 = IfSome_then next_1' later_1 (λ h. passed_on (K.hash_of h));
        passed_2 = IfSome_then next_2' later_2 (λ h. passed_on (K.hash_of h));
      }

  -- a list that goes on with greater hashes has the same record under a smaller one
  none_after : (k : DataHash) (rs : List R) → ComeAfter k rs → with_hash K rs k ≡ None
  none_after k [] after = refl
  none_after k (r ∷ rs) after = ap (λ b. cond b (Some r) (with_hash K rs k)) (apart_before k (key_of_record K r) after.0 (eq_by_cmp hash_cmp k (key_of_record K r)) refl) ∙ none_after k rs after.1

  pub same_before : (k : DataHash) (xs ys : List R) → ComeAfter k ys → with_hash K (xs ++ ys) k ≡ with_hash K xs k
  same_before k [] ys after = none_after k ys after
  same_before k (x ∷ xs) ys after = ap (cond (eq_by_cmp hash_cmp k (key_of_record K x)) (Some x)) (same_before k xs ys after)

  -- a record of such lists has a hash up to that of the last
  pub up_to : (k : DataHash) (rs : List R) (o : Option R) → Before k rs → HasHash k o → (q : DataHash) (v : R) → with_hash K (rs ++ option_to_list o) q ≡ Some v
      → (hash_cmp q k ≡ Less) ⊎ (q ≡ k)
  up_to k [] None before under q v at = absurd (none-some v at)
  up_to k [] (Some r) before under q v at = here (eq_by_cmp hash_cmp q (key_of_record K r)) refl at where
    here : (b : Bool) → eq_by_cmp hash_cmp q (key_of_record K r) ≡ b → cond b (Some r) None ≡ Some v → (hash_cmp q k ≡ Less) ⊎ (q ≡ k)
    here true is found = inr ((same_key q (key_of_record K r)).0 is ∙ under)
    here false is found = absurd (none-some v found)
  up_to k (x ∷ rs) o before under q v at = here (eq_by_cmp hash_cmp q (key_of_record K x)) refl at (up_to k rs o before.1 under q v) where
    here : (b : Bool) → eq_by_cmp hash_cmp q (key_of_record K x) ≡ b → cond b (Some x) (with_hash K (rs ++ option_to_list o) q) ≡ Some v
        → (with_hash K (rs ++ option_to_list o) q ≡ Some v → (hash_cmp q k ≡ Less) ⊎ (q ≡ k)) → (hash_cmp q k ≡ Less) ⊎ (q ≡ k)
    here true is found later = inl (subst (λ j. hash_cmp j k ≡ Less) (sym ((same_key q (key_of_record K x)).0 is)) before.0)
    here false is found later = later found
