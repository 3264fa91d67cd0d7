-- Rows that are read one after another from the front of their bytes.
use Rattle.std.proofs.Common.{◌≡◌, ℕ, ◌+◌, ◌<◌, List, [], ◌∷◌, ◌++◌, length, flat_map, refl, sym, ap, ◌∙◌, subst, arith}
use Rattle.std.specs.Prelude.{All}
use Rattle.std.proofs.lemmas.List.{length-append}
use Rattle.std.proofs.lemmas.List.Elements.{All-drop}
use Rattle.xet_base.proofs.Lists.{same_parts}

-- a row at the front of the bytes of rows is the first of them
pub record FirstOf {T : Type 0} (row_bytes : T → List ℕ) (Fits : T → Type 0) (rows : List T) (row : T) (after : List ℕ) : Type 0 where
  pub others : List T
  pub rows_are : rows ≡ row ∷ others
  pub fit : All Fits others
  pub after_are : after ≡ flat_map row_bytes others

pub first_of : {T : Type 0} (row_bytes : T → List ℕ) (Fits : T → Type 0) → ((t : T) → Fits t → length (row_bytes t) ≡ 48) → ((s t : T) → Fits s → Fits t → row_bytes s ≡ row_bytes t → s ≡ t)
    → (rows : List T) → All Fits rows → (row : T) → Fits row → (bytes after : List ℕ) → bytes ≡ flat_map row_bytes rows → bytes ≡ row_bytes row ++ after → FirstOf row_bytes Fits rows row after
first_of row_bytes Fits size only [] fit row fits bytes after are split =
    let none : 0 ≡ length (row_bytes row ++ after) = ap length (sym are ∙ split) in
    absurd (omega (arith, none, size row fits, length-append (row_bytes row) after))
first_of row_bytes Fits size only (first ∷ others) fit row fits bytes after are split =
    let first_fits : Fits first = fit 0 first (omega arith) in
    let parts = same_parts (row_bytes row) (row_bytes first) after (flat_map row_bytes others) (size row fits ∙ sym (size first first_fits)) (sym split ∙ are) in
    let same : row ≡ first = only row first fits first_fits parts.0 in
    record {
      others = others;
      rows_are = ap (λ t. t ∷ others) (sym same);
      fit = All-drop Fits 1 (first ∷ others) fit;
      after_are = parts.1;
    }

-- rows whose bytes are fewer than a row has are none
pub none_left : {T : Type 0} (row_bytes : T → List ℕ) (Fits : T → Type 0) → ((t : T) → Fits t → length (row_bytes t) ≡ 48) → (rows : List T) → All Fits rows → length (flat_map row_bytes rows) < 48 → rows ≡ []
none_left row_bytes Fits size [] fit short = refl
none_left row_bytes Fits size (first ∷ others) fit short =
    let both : length (row_bytes first) + length (flat_map row_bytes others) < 48 = subst (λ n. n < 48) (length-append (row_bytes first) (flat_map row_bytes others)) short in
    absurd (omega (arith, both, size first (fit 0 first (omega arith))))
