-- So many rows that bytes spell have these bytes again, and are within their widths.
use Rattle.std.proofs.Common.{◌≡◌, ℕ, zero, suc, ◌+◌, ◌*◌, ◌≤◌, List, ◌++◌, length, take, drop, flat_map, refl, sym, ap, ◌∙◌, subst, arith}
use Rattle.std.specs.Prelude.{All, map}
use Rattle.std.proofs.Math.Seq.{take-add}
use Rattle.std.proofs.lemmas.List.{length-drop, drop-drop, take_all}
use Rattle.std.proofs.lemmas.List.Elements.{All-cons, All-nil}
use Rattle.xet_base.specs.Bytes.{AreBytes, ReadsThrough}
use Rattle.xet_base.proofs.Bytes.{drop-bytes}
use Rattle.xet_records.specs.Decoding.{rows_at}
use Rattle.xet_records.specs.Rows.{Spells, ReadsRows}

-- so many rows have the bytes that spell them
pub record SpellsRows {T : Type 0} (row_bytes : T → List ℕ) (Fits : T → Type 0) (bytes : List ℕ) (count : ℕ) (rows : List T) : Type 0 where
  pub len : length rows ≡ count
  pub rows_are : flat_map row_bytes rows ≡ take (48 * count) bytes
  pub fit : All Fits rows

module _ {T : Type 0} (row_bytes : T → List ℕ) (Fits : T → Type 0) (row_at : List ℕ → T)
    (spelled : (bytes : List ℕ) → AreBytes bytes → 48 ≤ length bytes → Spells row_bytes Fits bytes (row_at bytes)) where
  pub rows_spelled : (count : ℕ) (bytes : List ℕ) → AreBytes bytes → 48 * count ≤ length bytes → SpellsRows row_bytes Fits bytes count (rows_at row_at count bytes)
  unfolding rows_at
  rows_spelled zero bytes are within = record { len = refl; rows_are = refl; fit = All-nil Fits }
  rows_spelled (suc count) bytes are within =
      let row = spelled bytes are (omega arith) in
      let after = rows_spelled count (drop 48 bytes) (drop-bytes 48 bytes are) (omega (arith, length-drop 48 bytes)) in
      record {
        len = ap suc after.len;
        rows_are = (λ i. row.row_is i ++ after.rows_are i) ∙ sym (take-add 48 (48 * count) bytes) ∙ ap (λ n. take n bytes) (omega arith);
        fit = All-cons Fits (row_at bytes) (rows_at row_at count (drop 48 bytes)) row.fits after.fit;
      }

  -- so many times 48 bytes that an input passed are those of stored rows
  pub rows_passed : (as_read : T → T) (Took : List ℕ → Type 0) (count : ℕ) → ReadsThrough Took (48 * count)
      → (rows : List T) × ReadsRows row_bytes Fits as_read Took count rows
  rows_passed as_read Took count passes =
      let stored = rows_at row_at count passes.passed in
      let rows = rows_spelled count passes.passed passes.bytes (omega (arith, passes.len)) in
      let same : flat_map row_bytes stored ≡ passes.passed = rows.rows_are ∙ take_all (48 * count) passes.passed (omega (arith, passes.len)) in (
        map as_read stored,
        record {
          stored = stored;
          len = rows.len;
          widths = rows.fit;
          size = ap length same ∙ passes.len;
          taken = subst Took (sym same) passes.taken;
          returned = refl;
        },
      )

-- the bytes of rows from one on, and of the row after them
pub next_row : (bytes : List ℕ) (start count : ℕ) (rows row : List ℕ) → rows ≡ take (48 * count) (drop (48 * start) bytes)
    → row ≡ take 48 (drop (48 * (start + count)) bytes) → rows ++ row ≡ take (48 * (count + 1)) (drop (48 * start) bytes)
next_row bytes start count rows row rows_are row_is =
    let from = drop (48 * start) bytes in
    let there : drop (48 * (start + count)) bytes ≡ drop (48 * count) from =
    ap (λ n. drop n bytes) (omega arith) ∙ sym (drop-drop (48 * count) (48 * start) bytes) in
    (λ i. rows_are i ++ row_is i) ∙ ap (λ end. take (48 * count) from ++ take 48 end) there
    ∙ sym (take-add (48 * count) 48 from) ∙ ap (λ n. take n from) (omega arith)
