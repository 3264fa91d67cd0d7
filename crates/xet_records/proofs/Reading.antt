-- Rows and records read one after another.
use Rattle.std.proofs.Common.{◌≡◌, ℕ, ◌+◌, List, [], ◌∷◌, ◌++◌, length, flat_map, Bool, true, false, Option, None, Some, if◌then◌else◌, refl, sym, ap, ◌∙◌, subst, arith, append-nil}
use Rattle.std.specs.Prelude.{is_some, IfSome, option_map, option_to_list}
use Rattle.std.proofs.lemmas.List.{map-append, length-append, length-map}
use Rattle.std.proofs.lemmas.List.Elements.{All-append, All-cons, All-nil}
use Rattle.std.proofs.lemmas.Grind.{flat_map-append}
use Rattle.xet_records.specs.Rows.{ReadsRow, ReadsRows, ReadsOptional}

module _ {T : Type 0} (row_bytes : T → List ℕ) (Fits : T → Type 0) (returned : T → T) where
  pub no_rows : (Took : List ℕ → Type 0) → Took [] → ReadsRows row_bytes Fits returned Took 0 []
  no_rows Took nothing = record { stored = []; len = refl; widths = All-nil Fits; size = refl; taken = nothing; returned = refl }

  -- after rows that `First` took and a row that `Next` took, where both together are what `Both` took
  pub more_rows : (First Next Both : List ℕ → Type 0) (n : ℕ) (rows : List T) (row : T)
      → ((xs ys : List ℕ) → First xs → Next ys → Both (xs ++ ys)) → ReadsRows row_bytes Fits returned First n rows
      → ReadsRow row_bytes Fits returned Next row → ReadsRows row_bytes Fits returned Both (n + 1) (rows ++ row ∷ [])
  more_rows First Next Both n rows row joins before last = record {
    stored = before.stored ++ last.stored ∷ [];
    len = length-append before.stored (last.stored ∷ []) ∙ ap (λ k. k + 1) before.len;
    widths = All-append Fits before.stored (last.stored ∷ []) before.widths (All-cons Fits last.stored [] last.widths (All-nil Fits));
    size = ap length (flat_map-append row_bytes before.stored (last.stored ∷ [])) ∙ length-append (flat_map row_bytes before.stored) (row_bytes last.stored ++ [])
        ∙ ap (λ bs. length (flat_map row_bytes before.stored) + length bs) (append-nil (row_bytes last.stored)) ∙ omega (arith, before.size, last.size);
    taken = subst Both
        (ap (λ bs. flat_map row_bytes before.stored ++ bs) (sym (append-nil (row_bytes last.stored))) ∙ sym (flat_map-append row_bytes before.stored (last.stored ∷ [])))
        (joins (flat_map row_bytes before.stored) (row_bytes last.stored) before.taken last.taken);
    returned = map-append returned before.stored (last.stored ∷ []) ∙ (λ i. before.returned i ++ last.returned i ∷ []);
  }

  pub reads_one_row : (Took : List ℕ → Type 0) (row : T) → ReadsRow row_bytes Fits returned Took row → ReadsOptional row_bytes Fits returned Took true (Some row)
  reads_one_row Took row read = record {
    stored = Some read.stored;
    present = refl;
    widths = read.widths;
    size = ap length (append-nil (row_bytes read.stored)) ∙ read.size;
    taken = subst Took (sym (append-nil (row_bytes read.stored))) read.taken;
    returned = ap Some read.returned;
  }

  -- as many rows are returned as were read
  pub length-read : (Took : List ℕ → Type 0) (count : ℕ) (rows : List T) → ReadsRows row_bytes Fits returned Took count rows → length rows ≡ count
  length-read Took count rows read = ap length (sym read.returned) ∙ length-map read.stored returned ∙ read.len

  -- after rows that `First` took and rows that `Next` took
  pub rows_after_rows : (First Next Both : List ℕ → Type 0) (m n : ℕ) (rows more : List T)
      → ((xs ys : List ℕ) → First xs → Next ys → Both (xs ++ ys)) → ReadsRows row_bytes Fits returned First m rows
      → ReadsRows row_bytes Fits returned Next n more → ReadsRows row_bytes Fits returned Both (m + n) (rows ++ more)
  rows_after_rows First Next Both m n rows more joins before last = record {
    stored = before.stored ++ last.stored;
    len = length-append before.stored last.stored ∙ (λ i. before.len i + last.len i);
    widths = All-append Fits before.stored last.stored before.widths last.widths;
    size = ap length (flat_map-append row_bytes before.stored last.stored) ∙ length-append (flat_map row_bytes before.stored) (flat_map row_bytes last.stored)
        ∙ omega (arith, before.size, last.size);
    taken = subst Both (sym (flat_map-append row_bytes before.stored last.stored))
        (joins (flat_map row_bytes before.stored) (flat_map row_bytes last.stored) before.taken last.taken);
    returned = map-append returned before.stored last.stored ∙ (λ i. before.returned i ++ last.returned i);
  }

  -- an optional row is a list of one row or none
  pub optional_read : (Took : List ℕ → Type 0) (wanted : Bool) (row : Option T) → ReadsOptional row_bytes Fits returned Took wanted row
      → ReadsRows row_bytes Fits returned Took (if wanted then 1 else 0) (option_to_list row)
  optional_read Took wanted row read = by_cases wanted read.stored row read.present read.widths read.size read.taken read.returned
    where
      by_cases : (wanted : Bool) (stored row : Option T) → is_some stored ≡ wanted → IfSome stored Fits
          → length (flat_map row_bytes (option_to_list stored)) ≡ (if wanted then 48 else 0) → Took (flat_map row_bytes (option_to_list stored)) → option_map returned stored ≡ row
          → ReadsRows row_bytes Fits returned Took (if wanted then 1 else 0) (option_to_list row)
      by_cases true (Some x) row present fits size taken is =
          record { stored = x ∷ []; len = refl; widths = All-cons Fits x [] fits (All-nil Fits); size = size; taken = taken; returned = ap option_to_list is }
      by_cases false None row present fits size taken is = record { stored = []; len = refl; widths = All-nil Fits; size = refl; taken = taken; returned = ap option_to_list is }
      by_cases true None row present fits size taken is = cc
      by_cases false (Some x) row present fits size taken is = cc
