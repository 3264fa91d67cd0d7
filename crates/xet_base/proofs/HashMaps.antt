-- Maps from hashes whose values are shown by a function.
use Rattle.std.proofs.Common.{◌≡◌, List, [], ◌∷◌, map, Some, refl, sym, ap, ◌∙◌, cond}
use Rattle.std.specs.Prelude.{option_map}
use Rattle.std.specs.Bool.{one_answer}
use Rattle.std.specs.Ordering.{match_ordering}
use Rattle.std.specs.declared.cmp.Ordering.{Ordering}
use Rattle.std.specs.declared.cmp.Ordering.TheVariants.{Less, Equal, Greater}
use Rattle.std.specs.Map.{lookup}
use Rattle.std.specs.BTreeMap.{insert_entry}
use Rattle.std.specs.FinMap.{get, find, from_entries, get-from_entries, same_map}
use Rattle.std.proofs.lemmas.Map.Made.{lookup-map_values}
use Rattle.xet_base.specs.declared.merklehash.DataHash.{DataHash}
use Rattle.xet_base.specs.Hash.{hash_cmp, hash_eq}
use Rattle.xet_base.proofs.HashOrder.{hash_cmp-IsTotalOrder, hash_cmp-IsAntisymmetric, same_hash, same_key}

-- a search by the order of hashes finds what one by their equality does
found_same : {A : Type 0} (q : DataHash) (es : List (DataHash × A)) → find hash_cmp q es ≡ lookup (hash_eq q) es
found_same q [] = refl
found_same q (e ∷ es) = λ i. cond (one_answer _ _ (same_key q e.0) (same_hash q e.0) i) (Some e.1) (found_same q es i)

-- the finite map with the entries of a `HashMap`
pub get-shown_entry : {A B : Type 0} (f : A → B) (q : DataHash) (es : List (DataHash × A))
    → get (from_entries {R = hash_cmp} (map (λ e. (e.0, f e.1)) es)) q ≡ option_map f (lookup (hash_eq q) es)
get-shown_entry f q es =
    get-from_entries hash_cmp-IsTotalOrder (map (λ e. (e.0, f e.1)) es) q ∙ found_same q (map (λ e. (e.0, f e.1)) es) ∙ lookup-map_values f (hash_eq q) es

-- lookups that answer alike are one finite map
pub same-shown_entry : {A B : Type 0} (f : A → B) (es fs : List (DataHash × A)) → ((q : DataHash) → lookup (hash_eq q) es ≡ lookup (hash_eq q) fs)
    → from_entries {R = hash_cmp} (map (λ e. (e.0, f e.1)) es) ≡ from_entries (map (λ e. (e.0, f e.1)) fs)
same-shown_entry f es fs same =
    same_map hash_cmp-IsTotalOrder hash_cmp-IsAntisymmetric _ _ (λ q. get-shown_entry f q es ∙ ap (option_map f) (same q) ∙ sym (get-shown_entry f q fs))

mapped_cases : {A B : Type 0} (g : A → B) (o : Ordering) (a b c : List A) → map g (match_ordering o a b c) ≡ match_ordering o (map g a) (map g b) (map g c)
mapped_cases g Less a b c = refl
mapped_cases g Equal a b c = refl
mapped_cases g Greater a b c = refl

-- the entries of a `BTreeMap` after an insertion
pub insert-shown_entry : {A B : Type 0} (f : A → B) (k : DataHash) (v : A) (es : List (DataHash × A))
    → map (λ e. (e.0, f e.1)) (insert_entry hash_cmp es k v) ≡ insert_entry hash_cmp (map (λ e. (e.0, f e.1)) es) k (f v)
insert-shown_entry f k v [] = refl
insert-shown_entry f k v (e ∷ es) =
    mapped_cases (λ d. (d.0, f d.1)) (hash_cmp k e.0) ((k, v) ∷ e ∷ es) ((e.0, v) ∷ es) (e ∷ insert_entry hash_cmp es k v)
    ∙ ap (λ t. match_ordering (hash_cmp k e.0) ((k, f v) ∷ (e.0, f e.1) ∷ map (λ d. (d.0, f d.1)) es) ((e.0, f v) ∷ map (λ d. (d.0, f d.1)) es) ((e.0, f e.1) ∷ t)) (insert-shown_entry f k v es)
