-- Values under a key, and keys without repetitions, one after the other.
use Rattle.std.proofs.Common.{arith, Bor, Some, Option, ◌≡◌, ℕ, ◌+◌, ◌<◌, Bool, true, false, ◌||◌, not, List, [], ◌∷◌, ◌++◌}
use Rattle.std.proofs.Common.{map, filter, zip, take, length, get_or, cond, ap, refl, sym, subst, ◌∙◌}
use Rattle.std.proofs.iter.Yields.{fronts}
use Rattle.std.proofs.lemmas.Iterator.{zips}
use Rattle.std.proofs.lemmas.List.{map-append, length-append}
use Rattle.std.proofs.lemmas.List.Elements.{filter_more, filter-append}
use Rattle.std.proofs.lemmas.Slice.Zip.{length-zip, get_or-zip, zip_turn}
use Rattle.std.proofs.lemmas.Map.Views.{any-filter_same}
use Rattle.std.specs.Iterator.{Yields}
use Rattle.std.specs.Iterator.Adapters.{zip_first, zip_second}
use Rattle.std.specs.Set.{is_member}
use Rattle.std.specs.Slice.Iter.{iter_rest}
use Rattle.std.specs.declared.iter.Zip.{Zip}
use Rattle.std.specs.declared.slice.Iter.{Iter}
use Rattle.xet_base.specs.declared.merklehash.DataHash.{DataHash}
use Rattle.xet_base.specs.Hash.{hash_eq}
use Rattle.xet_base.proofs.HashOrder.{same_hash}
use Rattle.mdb_base.specs.Keys.{distinct_keys}

-- the values of the pairs with a key
abbrev pub values_of_key : {T : Type 0} → DataHash → List (T × DataHash) → List T
values_of_key key ps = map (λ p. p.0) (filter (λ p. hash_eq p.1 key) ps)

module _ {T : Type 0} (key : DataHash) (values : List T) (keys : List DataHash) (n : ℕ) (value : T) (its : DataHash)
    (in_values : n < length values) (in_keys : n < length keys)
    (value_is : value ≡ get_or values n value) (its_is : its ≡ get_or keys n its) where
  abbrev under_key : T × DataHash → Bool
  under_key p = hash_eq p.1 key

  abbrev so_far : List (T × DataHash)
  so_far = take n (zip values keys)

  at_turn : get_or (zip values keys) n (value, its) ≡ (value, its)
  at_turn = get_or-zip values keys n (value, its) in_values in_keys ∙ (λ i. (sym value_is i, sym its_is i))

  first_of : (b : Bool) → map (λ (p : T × DataHash). p.0) (cond b ((value, its) ∷ []) []) ≡ cond b (value ∷ []) []
  first_of true = refl
  first_of false = refl

  -- one more pair adds its value, if its key is this one
  pub kept_more : values_of_key key (take (n + 1) (zip values keys)) ≡ values_of_key key so_far ++ cond (hash_eq its key) (value ∷ []) []
  kept_more =
      let within : n < length (zip values keys) = omega (arith, length-zip values keys, in_values, in_keys) in
      ap (map (λ (p : T × DataHash). p.0)) (
      filter_more under_key (zip values keys) n (value, its) within
      ∙ ap (λ (p : T × DataHash). filter under_key so_far ++ cond (under_key p) (p ∷ []) []) at_turn
      )
      ∙ map-append (λ (p : T × DataHash). p.0) (filter under_key so_far) (cond (hash_eq its key) ((value, its) ∷ []) [])
      ∙ ap (λ l. values_of_key key so_far ++ l) (first_of (hash_eq its key))

-- the next turn of a loop over values and keys keeps the value if its key is this one
pub kept_at_turn : {T : Type 0} (key : DataHash) (values : List T) (keys : List DataHash) (yielded : List (Bor T × Bor DataHash))
    (start now next : Zip (Iter T) (Iter DataHash)) (result : Option (Bor T × Bor DataHash))
    → iter_rest (zip_first start) ≡ values → iter_rest (zip_second start) ≡ keys
    → Yields (zips fronts fronts) start yielded now → (pair : Bor T × Bor DataHash) → result ≡ Some pair
    → zips fronts fronts now result next → (found : List T)
    → found ≡ values_of_key key (take (length yielded) (zip values keys))
    → found ++ cond (hash_eq pair.1.now key) (pair.0.now ∷ []) []
    ≡ values_of_key key (take (length (yielded ++ pair ∷ [])) (zip values keys))
kept_at_turn key values keys yielded start now next result first second yields pair is steps found before =
    let turn = zip_turn values keys yielded start now next result first second yields pair is steps in
    let more =
    kept_more key values keys (length yielded) pair.0.now pair.1.now turn.0 turn.1 (turn.2 pair.0.now) (turn.3 pair.1.now) in
    ap (λ l. l ++ cond (hash_eq pair.1.now key) (pair.0.now ∷ []) []) before ∙ sym more
    ∙ ap (λ n. values_of_key key (take n (zip values keys))) (sym (length-append yielded (pair ∷ [])))

-- one more key is added exactly if it is not among those before
pub distinct_more : (keys : List DataHash) (key : DataHash)
    → distinct_keys (keys ++ key ∷ []) ≡ distinct_keys keys ++ cond (is_member hash_eq (distinct_keys keys) key) [] (key ∷ [])
distinct_more [] key = refl
distinct_more (k ∷ keys) key =
    ap (λ l. k ∷ filter others l) (distinct_more keys key)
    ∙ ap (λ l. k ∷ l)
    (filter-append others (distinct_keys keys) (cond (is_member hash_eq (distinct_keys keys) key) [] (key ∷ [])))
    ∙ ap (λ l. k ∷ (filter others (distinct_keys keys) ++ l)) (by (hash_eq key k) refl)
  where
    others : DataHash → Bool
    others other = not (hash_eq other k)

    filter_without : (b m : Bool) → hash_eq key k ≡ b → filter others (cond m [] (key ∷ [])) ≡ cond (b || m) [] (key ∷ [])
    filter_without true true e = refl
    filter_without false true e = refl
    filter_without true false e = ap (λ b. cond (not b) (key ∷ []) []) e
    filter_without false false e = ap (λ b. cond (not b) (key ∷ []) []) e

    stays : hash_eq key k ≡ false → (other : DataHash) → hash_eq key other ≡ true → others other ≡ true
    stays e other same = subst (λ o. not (hash_eq o k) ≡ true) ((same_hash key other).0 same) (ap not e)

    by : (b : Bool) → hash_eq key k ≡ b
        → filter others (cond (is_member hash_eq (distinct_keys keys) key) [] (key ∷ []))
        ≡ cond (b || is_member hash_eq (filter others (distinct_keys keys)) key) [] (key ∷ [])
    by true e = filter_without true (is_member hash_eq (distinct_keys keys) key) e
    by false e =
        filter_without false (is_member hash_eq (distinct_keys keys) key) e
        ∙ ap (λ b. cond b [] (key ∷ []))
        (sym (any-filter_same (hash_eq key) others true (stays e) (distinct_keys keys)))
