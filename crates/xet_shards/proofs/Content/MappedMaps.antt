-- Maps by hashes whose values are mapped by a function.
use Rattle.std.proofs.Common.{◌≡◌, Bool, true, false, List, [], ◌∷◌, map, Option, None, Some, refl, sym, ap, ◌∙◌, subst, is_lt}
use Rattle.std.specs.Prelude.{T, ◌&&◌, cond, option_map}
use Rattle.std.specs.Ordering.{eq_by_cmp}
use Rattle.std.specs.FinMap.{FinMap, get, entries, values, find, is_sorted, from_sorted, entries_sorted, entries-from_sorted, get-from_sorted, get-entries}
use Rattle.std.specs.FinMap.Entries.{below_all}
use Rattle.std.proofs.lemmas.Option.{same_Some, none-some}
use Rattle.xet_base.specs.declared.merklehash.DataHash.{DataHash}
use Rattle.xet_base.specs.Hash.{hash_cmp}

module _ {X : Type 0} (f : X → X) where
  abbrev map_entries : List (DataHash × X) → List (DataHash × X)
  map_entries es = map (λ e. (e.0, f e.1)) es

  below-mapped : (q : DataHash) (es : List (DataHash × X)) → below_all hash_cmp q (map_entries es) ≡ below_all hash_cmp q es
  below-mapped q [] = refl
  below-mapped q (e ∷ es) = ap (λ b. is_lt (hash_cmp q e.0) && b) (below-mapped q es)

  sorted-mapped : (es : List (DataHash × X)) → is_sorted hash_cmp (map_entries es) ≡ is_sorted hash_cmp es
  sorted-mapped [] = refl
  sorted-mapped (e ∷ es) = λ i. below-mapped e.0 es i && sorted-mapped es i

  find-mapped : (q : DataHash) (es : List (DataHash × X)) → find hash_cmp q (map_entries es) ≡ option_map f (find hash_cmp q es)
  find-mapped q [] = refl
  find-mapped q (e ∷ es) = by_key (eq_by_cmp hash_cmp q e.0) (find-mapped q es)
    where
      by_key : (b : Bool) → find hash_cmp q (map_entries es) ≡ option_map f (find hash_cmp q es)
          → cond b (Some (f e.1)) (find hash_cmp q (map_entries es)) ≡ option_map f (cond b (Some e.1) (find hash_cmp q es))
      by_key true rest = refl
      by_key false rest = rest

  seconds-mapped : (es : List (DataHash × X)) → map (λ e. e.1) (map_entries es) ≡ map f (map (λ e. e.1) es)
  seconds-mapped [] = refl
  seconds-mapped (e ∷ es) = ap (λ vs. f e.1 ∷ vs) (seconds-mapped es)

  module _ (m : FinMap hash_cmp X) where
    are_sorted : T (is_sorted hash_cmp (map_entries (entries m)))
    are_sorted = subst T (sym (sorted-mapped (entries m))) (entries_sorted m)

    abbrev mapped_map : FinMap hash_cmp X
    mapped_map = from_sorted (map_entries (entries m))

    pub entries-mapped : entries mapped_map ≡ map_entries (entries m)
    entries-mapped = entries-from_sorted hash_cmp (map_entries (entries m)) are_sorted

    pub values-mapped : values mapped_map ≡ map f (values m)
    values-mapped = ap (map (λ (e : DataHash × X). e.1)) entries-mapped ∙ seconds-mapped (entries m)

    pub get-mapped : (q : DataHash) → get mapped_map q ≡ option_map f (get m q)
    get-mapped q = get-from_sorted hash_cmp (map_entries (entries m)) q are_sorted ∙ find-mapped q (entries m) ∙ ap (option_map f) (sym (get-entries m q))

-- what an option that is mapped has
pub mapped_some : {X Y : Type 0} (f : X → Y) (a : Option X) (y : Y) → option_map f a ≡ Some y → (x : X) × (a ≡ Some x) × (f x ≡ y)
mapped_some f None y is = absurd (none-some y is)
mapped_some f (Some x) y is = (x, refl, same_Some (f x) y is)
