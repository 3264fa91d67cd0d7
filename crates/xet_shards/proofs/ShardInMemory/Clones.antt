-- Maps from hashes that are clones of others, their values shown by a function.
use Rattle.std.proofs.Common.{◌≡◌, List, [], ◌∷◌, map, refl, sym, ap, ◌∙◌}
use Rattle.std.specs.Prelude.{option_map}
use Rattle.std.specs.List.{AllZip}
use Rattle.std.specs.Map.{lookup}
use Rattle.std.proofs.lemmas.Map.Made.{lookup-map_values}
use Rattle.xet_base.specs.declared.merklehash.DataHash.{DataHash}
use Rattle.xet_base.specs.Hash.{hash_eq}

-- an entry, its value shown
abbrev pub shown_entry : {A B : Type 0} → (A → B) → DataHash × A → DataHash × B
shown_entry f e = (e.0, f e.1)

-- entries whose keys and values are clones are shown alike
pub shown_entry-cloned : {A B : Type 0} (f : A → B) (D : A → A → Type 0) → ((a b : A) → D a b → f b ≡ f a) → (es fs : List (DataHash × A))
    → AllZip (λ p q. (q.0 ≡ p.0) × D p.1 q.1) es fs → map (shown_entry f) fs ≡ map (shown_entry f) es
shown_entry-cloned f D like [] [] z = refl
shown_entry-cloned f D like [] (q ∷ fs) z = absurd z
shown_entry-cloned f D like (p ∷ es) [] z = absurd z
shown_entry-cloned f D like (p ∷ es) (q ∷ fs) z = λ i. (z.0.0 i, like p.1 q.1 z.0.1 i) ∷ shown_entry-cloned f D like es fs z.1 i

-- entries whose keys and values are copies are the same
pub clones_are_equal : {A : Type 0} (es fs : List (DataHash × A)) → AllZip (λ p q. (q.0 ≡ p.0) × (q.1 ≡ p.1)) es fs → fs ≡ es
clones_are_equal [] [] z = refl
clones_are_equal [] (q ∷ fs) z = absurd z
clones_are_equal (p ∷ es) [] z = absurd z
clones_are_equal (p ∷ es) (q ∷ fs) z = λ i. (z.0.0 i, z.0.1 i) ∷ clones_are_equal es fs z.1 i

-- so lookups in them answer alike
pub lookup-shown_entry : {A B : Type 0} (f : A → B) (q : DataHash) (es fs : List (DataHash × A))
    → map (shown_entry f) fs ≡ map (shown_entry f) es → option_map f (lookup (hash_eq q) fs) ≡ option_map f (lookup (hash_eq q) es)
lookup-shown_entry f q es fs same =
    sym (lookup-map_values f (hash_eq q) fs) ∙ ap (lookup (hash_eq q)) same ∙ lookup-map_values f (hash_eq q) es
