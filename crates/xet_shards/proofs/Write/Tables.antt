-- The tables of a list with one more record.
use Rattle.std.proofs.Common.{◌≡◌, ℕ, suc, ◌*◌, List, [], ◌∷◌, ◌++◌, flat_map, length, refl, sym, ap, ◌∙◌, append_assoc, append-nil, arith, rules}
use Rattle.std.proofs.lemmas.List.{map-append, length-append, length-map}
use Rattle.std.proofs.lemmas.Grind.{flat_map-append}
use Rattle.xet_base.specs.Bytes.{u32_bytes, u64_bytes}
use Rattle.xet_base.proofs.Bytes.{length-u32_bytes, length-u64_bytes}
use Rattle.xet_records.specs.RecordKind.{RecordKind}
use Rattle.xet_shards.specs.Write.Section.{with_fronts, total_rows}
use Rattle.std.specs.Cmp.{IsTotalOrder}
use Rattle.std.specs.FinMap.{IsAntisymmetric}
use Rattle.std.proofs.lemmas.Cmp.{then_total, on_total, nat_cmp_total}
use Rattle.xet_shards.specs.Write.Tables.{ChunkTableRow, chunk_table_row_cmp, hash_in, start_of, starts, start_row, chunk_table_row_bytes, table_bytes}

module _ {X : Type 0} where
  pub with_fronts-push : (front xs : List X) (x : X) → with_fronts front (xs ++ x ∷ []) ≡ with_fronts front xs ++ (front ++ xs, x) ∷ []
  with_fronts-push front [] x = ap (λ (before : List X). (before, x) ∷ []) (sym (append-nil front))
  with_fronts-push front (y ∷ xs) x =
      ap (λ es. (front, y) ∷ es) (with_fronts-push (front ++ y ∷ []) xs x
      ∙ ap (λ (before : List X). with_fronts (front ++ y ∷ []) xs ++ (before, x) ∷ []) (append_assoc front (y ∷ []) xs))

  length-with_fronts : (front xs : List X) → length (with_fronts front xs) ≡ length xs
  length-with_fronts front [] = refl
  length-with_fronts front (x ∷ xs) = ap (λ n. suc n) (length-with_fronts (front ++ x ∷ []) xs)

length-start_rows : (rows : List (ℕ × ℕ)) → length (flat_map start_row rows) ≡ 12 * length rows
length-start_rows [] = refl
length-start_rows (row ∷ rows) =
    length-append (start_row row) (flat_map start_row rows)
    ∙ omega (arith, length-append (u64_bytes row.0) (u32_bytes row.1), length-u64_bytes row.0, length-u32_bytes row.1, length-start_rows rows)

module _ {H R : Type 0} (K : RecordKind H R) where
  pub table_bytes-push : (rs : List R) (r : R) → table_bytes K (rs ++ r ∷ []) ≡ table_bytes K rs ++ start_row ((hash_in K r).word0, total_rows K rs)
  unfolding table_bytes
  table_bytes-push rs r = search (rules, with_fronts-push, map-append, flat_map-append, append-nil)

  pub table_bytes-nil : table_bytes K [] ≡ []
  unfolding table_bytes
  table_bytes-nil = refl

  pub length-starts : (rs : List R) → length (starts K rs) ≡ length rs
  length-starts rs = length-map (with_fronts [] rs) (start_of K) ∙ length-with_fronts [] rs

  -- a row has twelve bytes
  pub length-table_bytes : (rs : List R) → length (table_bytes K rs) ≡ 12 * length rs
  unfolding table_bytes
  length-table_bytes rs = length-start_rows (starts K rs) ∙ ap (λ n. 12 * n) (length-starts rs)

-- a row of the chunk table has sixteen
pub length-chunk_table_row_bytes : (rows : List ChunkTableRow) → length (flat_map chunk_table_row_bytes rows) ≡ 16 * length rows
length-chunk_table_row_bytes [] = refl
length-chunk_table_row_bytes (row ∷ rows) =
    length-append (chunk_table_row_bytes row) (flat_map chunk_table_row_bytes rows)
    ∙ omega (
      arith,
      length-append (u64_bytes row.word ++ u32_bytes row.row) (u32_bytes row.index),
      length-append (u64_bytes row.word) (u32_bytes row.row),
      length-u64_bytes row.word,
      length-u32_bytes row.row,
      length-u32_bytes row.index,
      length-chunk_table_row_bytes rows,
    )

-- the order of the chunk table is total
pub chunk_table_row_total : IsTotalOrder chunk_table_row_cmp
chunk_table_row_total =
    then_total (on_total (λ (p : ChunkTableRow). p.word) nat_cmp_total)
    (then_total (on_total (λ (p : ChunkTableRow). p.row) nat_cmp_total) (on_total (λ (p : ChunkTableRow). p.index) nat_cmp_total))

-- and only equal rows tie
pub chunk_table_row_exact : IsAntisymmetric chunk_table_row_cmp
chunk_table_row_exact a b tied = search rules
