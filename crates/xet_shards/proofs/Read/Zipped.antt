-- Lists whose items are related place by place.
use Rattle.std.proofs.Common.{◌≡◌, ℕ, zero, suc, List, [], ◌∷◌, ◌++◌, length, map, Some, refl, ap, subst, arith}
use Rattle.std.specs.List.{AllZip}
use Rattle.std.specs.Prelude.{All, Contains, slice_get}
use Rattle.std.proofs.lemmas.List.Elements.{All-drop, Contains-append_right}
use Rattle.std.proofs.lemmas.Option.{none-some, same_Some}

-- what is related to two lists in a row is two lists in a row
pub zipped_parts : {A B : Type 0} (R : A → B → Type 0) (ks bs : List A) (cs : List B) → AllZip R (ks ++ bs) cs → (xs ys : List B) × (xs ++ ys ≡ cs) × AllZip R ks xs × AllZip R bs ys
zipped_parts R [] bs cs related = ([], cs, refl, tt, related)
zipped_parts R (a ∷ ks) bs [] related = absurd related
zipped_parts R (a ∷ ks) bs (c ∷ cs) (here, rest) =
    let parts = zipped_parts R ks bs cs rest in
    (c ∷ parts.0, parts.1, ap (λ ds. c ∷ ds) parts.2, (here, parts.3), parts.4)

-- two lists in a row are related to two that their parts are related to
pub zipped_append : {A B : Type 0} (R : A → B → Type 0) (ks js : List A) (bs cs : List B) → AllZip R ks bs → AllZip R js cs → AllZip R (ks ++ js) (bs ++ cs)
zipped_append R [] js [] cs one other = other
zipped_append R [] js (b ∷ bs) cs one other = absurd one
zipped_append R (a ∷ ks) js [] cs one other = absurd one
zipped_append R (a ∷ ks) js (b ∷ bs) cs (here, rest) other = (here, zipped_append R ks js bs cs rest other)

-- there are as many in both
pub zipped_length : {A B : Type 0} (R : A → B → Type 0) (ks : List A) (bs : List B) → AllZip R ks bs → length bs ≡ length ks
zipped_length R [] [] related = refl
zipped_length R [] (b ∷ bs) related = absurd related
zipped_length R (a ∷ ks) [] related = absurd related
zipped_length R (a ∷ ks) (b ∷ bs) (here, rest) = ap suc (zipped_length R ks bs rest)

-- an item of the second list is related to one of the first
pub zipped_member : {A B : Type 0} (R : A → B → Type 0) (ks : List A) (bs : List B) → AllZip R ks bs → (b : B) → Contains bs b → (a : A) × R a b
zipped_member R ks [] related b (k, low, at) = absurd (omega (arith, low))
zipped_member R [] (c ∷ bs) related b member = absurd related
zipped_member R (a ∷ ks) (c ∷ bs) (here, rest) b (zero, low, at) = (a, subst (R a) at here)
zipped_member R (a ∷ ks) (c ∷ bs) (here, rest) b (suc k, low, at) = zipped_member R ks bs rest b (k, omega (arith, low), at)

-- a relation that follows from another
pub zipped_as : {A B : Type 0} (R Q : A → B → Type 0) → ((a : A) (b : B) → R a b → Q a b) → (ks : List A) (bs : List B) → AllZip R ks bs → AllZip Q ks bs
zipped_as R Q follows [] [] related = tt
zipped_as R Q follows [] (b ∷ bs) related = absurd related
zipped_as R Q follows (a ∷ ks) [] related = absurd related
zipped_as R Q follows (a ∷ ks) (b ∷ bs) (here, rest) = (follows a b here, zipped_as R Q follows ks bs rest)

-- the second list is mapped by a function, of whose items something is known
pub zipped_with : {A B C : Type 0} (R : A → B → Type 0) (Q : A → C → Type 0) (f : B → C) (Is : B → Type 0) → ((a : A) (b : B) → Is b → R a b → Q a (f b)) → (ks : List A) (bs : List B)
    → ((b : B) → Contains bs b → Is b) → AllZip R ks bs → AllZip Q ks (map f bs)
zipped_with R Q f Is follows [] [] known related = tt
zipped_with R Q f Is follows [] (b ∷ bs) known related = absurd related
zipped_with R Q f Is follows (a ∷ ks) [] known related = absurd related
zipped_with R Q f Is follows (a ∷ ks) (b ∷ bs) known (here, rest) = (
  follows a b (known b (0, omega arith, refl)) here,
  zipped_with R Q f Is follows ks bs (λ c member. known c (Contains-append_right (b ∷ []) bs c member)) rest,
)

-- something is known of each item of the first list
pub zipped_and : {A B : Type 0} (P : A → Type 0) (R Q : A → B → Type 0) → ((a : A) (b : B) → P a → R a b → Q a b) → (ks : List A) (bs : List B) → All P ks → AllZip R ks bs → AllZip Q ks bs
zipped_and P R Q follows [] [] all related = tt
zipped_and P R Q follows [] (b ∷ bs) all related = absurd related
zipped_and P R Q follows (a ∷ ks) [] all related = absurd related
zipped_and P R Q follows (a ∷ ks) (b ∷ bs) all (here, rest) = (follows a b (all 0 a (omega arith)) here, zipped_and P R Q follows ks bs (All-drop P 1 (a ∷ ks) all) rest)

-- what is at a place of one of two lists that are related item by item
pub zip_at : {A B : Type 0} (P : A → B → Type 0) (xs : List A) (ys : List B) (i : ℕ) (a : A) → AllZip P xs ys → slice_get xs i ≡ Some a → (b : B) × (slice_get ys i ≡ Some b) × P a b
zip_at P [] ys i a all at = absurd (none-some a at)
zip_at P (x ∷ xs) [] i a all at = absurd all
zip_at P (x ∷ xs) (y ∷ ys) zero a all at = (y, refl, subst (λ z. P z y) (same_Some x a at) all.0)
zip_at P (x ∷ xs) (y ∷ ys) (suc i) a all at = zip_at P xs ys i a all.1 at
