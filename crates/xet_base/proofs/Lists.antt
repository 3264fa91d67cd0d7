-- Lists that begin with parts of known lengths.
use Rattle.std.proofs.Common.{◌≡◌, ℕ, ◌+◌, ◌≤◌, List, [], ◌∷◌, ◌++◌, length, flat_map, take, drop, refl, sym, ap, ◌∙◌, arith}
use Rattle.std.specs.Prelude.{All}
use Rattle.std.proofs.lemmas.List.{length-take, take-append-le, append_assoc}
use Rattle.std.proofs.lemmas.List.Elements.{All-drop}
use Rattle.std.proofs.Math.Seq.{take-append_seam, drop-append_seam, take-append-add}
use borrow.Rule.Slice.PartMut.{put_mid, post_of}

-- the front and the rest of joined lists, where the front's length is known
pub front_is : {A : Type 0} (n : ℕ) (xs front rest : List A) → length front ≡ n → xs ≡ front ++ rest → take n xs ≡ front
front_is n xs front rest len are = (λ i. take (sym len i) (are i)) ∙ take-append_seam front rest

pub rest_is : {A : Type 0} (n : ℕ) (xs front rest : List A) → length front ≡ n → xs ≡ front ++ rest → drop n xs ≡ rest
rest_is n xs front rest len are = (λ i. drop (sym len i) (are i)) ∙ drop-append_seam front rest

-- two lists with fronts of one length are equal only part by part
pub same_parts : {A : Type 0} (a b x y : List A) → length a ≡ length b → a ++ x ≡ b ++ y → (a ≡ b) × (x ≡ y)
same_parts a b x y len same = (
  sym (take-append_seam a x) ∙ ap (take (length a)) same ∙ ap (λ n. take n (b ++ y)) len ∙ take-append_seam b y,
  sym (drop-append_seam a x) ∙ ap (drop (length a)) same ∙ ap (λ n. drop n (b ++ y)) len ∙ drop-append_seam b y,
)

-- the front of a slice whose part from `at` on was written
pub take-put_mid_part : {A : Type 0} (at k n : ℕ) (xs ys : List A) → at ≤ length xs → n ≤ length ys
    → take (at + n) (put_mid at k xs ys) ≡ take at xs ++ take n ys
take-put_mid_part at k n xs ys at_in n_in =
    let len : length (take at xs) ≡ at = omega (arith, length-take at xs) in
    ap (λ m. take (m + n) (put_mid at k xs ys)) (sym len) ∙ take-append-add (take at xs) (ys ++ post_of at k xs) n
    ∙ ap (λ zs. take at xs ++ zs) (take-append-le n ys (post_of at k xs) n_in)

-- elements whose bytes have one length and determine them: the first elements of a list are determined by its bytes
module _ {T : Type 0} (size : ℕ) (bytes : T → List ℕ) (Fits : T → Type 0) (len : (t : T) → Fits t → length (bytes t) ≡ size)
    (determines : (s t : T) → Fits s → Fits t → bytes s ≡ bytes t → s ≡ t) where
  pub parts_front : (ss ts : List T) (x y : List ℕ) → length ss ≡ length ts → All Fits ss → All Fits ts
      → flat_map bytes ss ++ x ≡ flat_map bytes ts ++ y → (ss ≡ ts) × (x ≡ y)
  parts_front [] [] x y same_len s_fit t_fit same = (refl, same)
  parts_front [] (t ∷ ts) x y same_len s_fit t_fit same = absurd (omega (arith, same_len))
  parts_front (s ∷ ss) [] x y same_len s_fit t_fit same = absurd (omega (arith, same_len))
  parts_front (s ∷ ss) (t ∷ ts) x y same_len s_fit t_fit same =
      let s_fits : Fits s = s_fit 0 s (omega arith) in
      let t_fits : Fits t = t_fit 0 t (omega arith) in
      let parts = same_parts (bytes s) (bytes t) (flat_map bytes ss ++ x) (flat_map bytes ts ++ y) (len s s_fits ∙ sym (len t t_fits))
      (sym (append_assoc (bytes s) (flat_map bytes ss) x) ∙ same ∙ append_assoc (bytes t) (flat_map bytes ts) y) in
      let rest = parts_front ss ts x y (omega (arith, same_len)) (All-drop Fits 1 (s ∷ ss) s_fit) (All-drop Fits 1 (t ∷ ts) t_fit) parts.1 in
      ((λ i. determines s t s_fits t_fits parts.0 i ∷ rest.0 i), rest.1)
