-- Parts of a table that have all its rows with a word: the whole table, and rows between others of a sorted one.
use Rattle.std.proofs.Common.{◌≡◌, ◌≢◌, ◌⊎◌, inl, inr, ℕ, ◌+◌, ◌-◌, ◌*◌, ◌/◌, ◌%◌, ◌<◌, ◌≤◌, List, length, drop, sym, ap, ◌∙◌, arith}
use Rattle.std.proofs.Math.Nat.{mul_comm, mul-div_cancel_left, mul-mod_right}
use Rattle.std.proofs.lemmas.List.{length-append, length-drop}
use Rattle.xet_base.proofs.Search.Tables.{offset_of_row-le, offset_of_row-next, offset_of_row-zero}
use Rattle.xet_core_structures.specs.Table.{Table, offset_of_row, row_offset, key_at, HasKey, IsSorted}
use Rattle.shard_bytes.specs.PartLookups.{IsCut, table_of}
use Rattle.shard_bytes.specs.RangeReads.{HasRowsWith, IsAround, rows_in}
use Rattle.shard_bytes.proofs.CutOut.{key_same, key_there}

module _ (t : Table) (part : List ℕ) (word : ℕ) where
  abbrev rows : ℕ
  rows = rows_in t part

  module _ (starts : t.start ≤ length t.bytes) (cut : IsCut t.bytes t.start ((8 + t.width) * t.rows) part) where
    rows_are : rows ≡ t.rows
    rows_are = ap (λ n. n / (8 + t.width)) cut.size ∙ mul-div_cancel_left t.rows (omega arith)

    ends_within : row_offset t t.rows ≤ length t.bytes
    unfolding offset_of_row
    ends_within =
        omega (
          arith,
          starts,
          cut.size,
          mul_comm t.rows (8 + t.width),
          sym (length-drop t.start t.bytes),
          ap length cut.there,
          length-append part cut.rest,
        )

    pub whole_table : HasRowsWith t part word
    whole_table = record {
      before = 0;
      is_part = record {
        ends = ends_within;
        there = (cut.rest, ap (λ n. drop n t.bytes) (offset_of_row-zero t.start t.width) ∙ cut.there);
        whole = ap (λ n. n % (8 + t.width)) cut.size ∙ mul-mod_right (8 + t.width) t.rows;
        within = omega (arith, rows_are);
      };
      others = λ i below out. no_other i below out;
    }
      where
        no_other : (i : ℕ) → i < t.rows → (i < 0) ⊎ (0 + rows ≤ i) → key_at t i ≢ word
        no_other i below (inl before) = absurd (omega (arith, before))
        no_other i below (inr past) = absurd (omega (arith, below, past, rows_are))

  module _ (sorted : IsSorted t) (around : IsAround t part word) where
    abbrev before : ℕ
    before = around.before

    has_key : (i : ℕ) → i < t.rows → HasKey t i
    has_key i below =
        omega (arith, offset_of_row-next t.start t.width i, offset_of_row-le t.start t.width (i + 1) t.rows (omega (arith, below)), around.is_part.ends)

    smaller : (i : ℕ) → i < before → (before ≡ 0) ⊎ ((0 < rows) × (key_at (table_of part t.width) 0 < word)) → key_at t i ≢ word
    smaller i less (inl none) same = omega (arith, less, none)
    smaller i less (inr (some, low)) same =
        omega (
          arith,
          same,
          low,
          key_same t part before around.is_part 0 some,
          sorted i (before + 0) (omega (arith, less)) (omega (arith, some, around.is_part.within)) (key_there t part before around.is_part 0 some),
        )

    greater : (i : ℕ) → i < t.rows → before + rows ≤ i → (before + rows ≡ t.rows) ⊎ ((0 < rows) × (word < key_at (table_of part t.width) (rows - 1))) → key_at t i ≢ word
    greater i below past (inl end) same = omega (arith, below, past, end)
    greater i below past (inr (some, high)) same =
        omega (
          arith,
          same,
          high,
          key_same t part before around.is_part (rows - 1) (omega (arith, some)),
          sorted (before + (rows - 1)) i (omega (arith, some, past)) below (has_key i below),
        )

    pub between_rows : HasRowsWith t part word
    between_rows = record { before = before; is_part = around.is_part; others = other }
      where
        other : (i : ℕ) → i < t.rows → (i < before) ⊎ (before + rows ≤ i) → key_at t i ≢ word
        other i below (inl less) = smaller i less around.low
        other i below (inr past) = greater i below past around.high
