-- Rows that are cut out of a table: they are rows of it, and a search in them finds what the table has under a word that
-- no other row has.
use Rattle.std.proofs.Common.{◌≡◌, ◌≢◌, ◌⊎◌, inl, inr, ℕ, zero, suc, ◌+◌, ◌-◌, ◌^◌, ◌<◌, ◌≤◌, List, [], ◌∷◌, ◌++◌, length, map, take, drop, refl, sym, ap, ◌∙◌, subst, arith, add-one, add-zero}
use Rattle.std.specs.Prelude.{All, AllPairs}
use Rattle.std.proofs.Math.Nat.{add-mul, div-mul-le_self, mul-add}
use Rattle.std.proofs.lemmas.Bool.{cases_eq}
use Rattle.std.proofs.lemmas.List.{drop-drop, drop-append-le, get_or-map, take-append-le, length-append, length-drop, length-map}
use Rattle.std.proofs.lemmas.List.Elements.{All-map, All-weaker}
use Rattle.xet_base.specs.Bytes.{u64_from_bytes}
use Rattle.xet_base.proofs.Search.Tables.{hits_below-hit, hits_below-miss, offset_of_row-next, offset_of_row-le}
use Rattle.xet_core_structures.specs.Lookup.{AreHits, Collides, IndexFinds, IsRowNumber}
use Rattle.xet_core_structures.specs.Table.{Table, offset_of_row, row_offset, key_at, value_at, HasKey, IsSorted, hits, hits_below, Hit, IsHit, OtherRow, Finds, FitsTable}
use Rattle.shard_bytes.specs.PartLookups.{table_of}
use Rattle.shard_bytes.specs.RangeReads.{HasRowsWith, IsPart, rows_in}

-- the same value, of a row that comes after so many others
abbrev pub hit_after : {V : Type 0} → ℕ → Hit V → Hit V
hit_after before hit = record { row = before + hit.row; value = hit.value }

pub values_later : {V : Type 0} (before : ℕ) (found : List (Hit V)) → map (λ (h : Hit V). h.value) (map (hit_after before) found) ≡ map (λ (h : Hit V). h.value) found
values_later before [] = refl
values_later before (h ∷ found) = ap (λ vs. h.value ∷ vs) (values_later before found)

pub later_distinct : {V : Type 0} (before : ℕ) (found : List (Hit V)) → AllPairs OtherRow found → AllPairs OtherRow (map (hit_after before) found)
later_distinct before found distinct i j d less below same =
    let j_in : j < length found = omega (arith, below, length-map found (hit_after before)) in
    let here = λ (k : ℕ) (within : k < length found). ap (λ (h : Hit _). h.row) (get_or-map (hit_after before) found k d d within) in
    distinct i j d less j_in (omega (arith, same, here i (omega (arith, less, j_in)), here j j_in))

-- no row from one on has the word, for so many rows
no_hits : (t : Table) (word start n : ℕ) → ((i : ℕ) → start ≤ i → i < start + n → key_at t i ≢ word) → hits_below t word (start + n) ≡ hits_below t word start
no_hits t word start zero others = ap (hits_below t word) (add-zero start)
no_hits t word start (suc n) others =
    let next : start + suc n ≡ start + n + 1 = omega arith in
    ap (hits_below t word) next ∙ hits_below-miss t word (start + n) (others (start + n) (omega arith) (omega arith))
    ∙ no_hits t word start n (λ i low below. others i low (omega (arith, below)))

hits_below-zero : (t : Table) (word : ℕ) → hits_below t word 0 ≡ 0
unfolding hits_below
hits_below-zero t word = refl

module _ (t : Table) (part : List ℕ) (before : ℕ) (cut : IsPart t part before) where
  abbrev rows : ℕ
  rows = rows_in t part

  abbrev own : Table
  own = table_of part t.width

  size_is : length t.bytes - row_offset t before ≡ length part + length cut.there.0
  size_is = omega (arith, sym (length-drop (row_offset t before) t.bytes), ap length cut.there.1, length-append part cut.there.0)

  offset_is : (i : ℕ) → row_offset t (before + i) ≡ row_offset t before + row_offset own i
  unfolding offset_of_row
  offset_is i = omega (arith, add-mul before i (8 + t.width))

  row_in : (i : ℕ) → i < rows → row_offset own i + (8 + t.width) ≤ length part
  unfolding offset_of_row
  row_in i within =
      omega (arith, offset_of_row-next 0 t.width i, offset_of_row-le 0 t.width (i + 1) rows (omega (arith, within)), div-mul-le_self (length part) (8 + t.width))

  -- bytes of the part, from an offset in it on
  same_bytes : (k n at : ℕ) → at ≡ row_offset t before + k → k + n ≤ length part → take n (drop at t.bytes) ≡ take n (drop k part)
  same_bytes k n at is within =
      let start = row_offset t before in
      let dropped : drop (start + k) t.bytes ≡ drop k part ++ cut.there.0 =
      sym (drop-drop k start t.bytes) ∙ ap (drop k) cut.there.1 ∙ drop-append-le k part cut.there.0 (omega (arith, within)) in
      ap (λ j. take n (drop j t.bytes)) is ∙ ap (take n) dropped ∙ take-append-le n (drop k part) cut.there.0 (omega (arith, length-drop k part, within))

  pub key_same : (i : ℕ) → i < rows → key_at t (before + i) ≡ key_at own i
  unfolding key_at
  key_same i within = ap u64_from_bytes (same_bytes (row_offset own i) 8 (row_offset t (before + i)) (offset_is i) (omega (arith, row_in i within)))

  value_same : (i : ℕ) → i < rows → value_at t (before + i) ≡ value_at own i
  value_same i within = same_bytes (row_offset own i + 8) t.width (row_offset t (before + i) + 8) (omega (arith, offset_is i)) (omega (arith, row_in i within))

  pub key_there : (i : ℕ) → i < rows → HasKey t (before + i)
  key_there i within = omega (arith, offset_is i, row_in i within, size_is)

  key_in : (i : ℕ) → i < rows → HasKey own i
  key_in i within = omega (arith, row_in i within)

  pub sorted_part : IsSorted t → IsSorted own
  sorted_part sorted i j less below has =
      omega (
        arith,
        sorted (before + i) (before + j) (omega (arith, less)) (omega (arith, below, cut.within)) (key_there j below),
        key_same i (omega (arith, less, below)),
        key_same j below,
      )

  hits_in : (word n : ℕ) → n ≤ rows → hits_below t word (before + n) ≡ hits_below t word before + hits_below own word n
  hits_in word zero within = omega (arith, ap (hits_below t word) (add-zero before), hits_below-zero own word)
  hits_in word (suc n) within =
      let next : before + suc n ≡ before + n + 1 = omega arith in
      let here : n < rows = omega (arith, within) in
      let so_far = hits_in word n (omega (arith, within)) in
      elim (cases_eq (key_at own n) word) [
        | inl same ↦ omega (
          arith,
          so_far,
          ap (hits_below t word) next,
          hits_below-hit t word (before + n) (key_there n here) (key_same n here ∙ same),
          ap (hits_below own word) (add-one n),
          hits_below-hit own word n (key_in n here) same,
        )
        | inr other ↦ omega (
          arith,
          so_far,
          ap (hits_below t word) next,
          hits_below-miss t word (before + n) (λ same. other (sym (key_same n here) ∙ same)),
          ap (hits_below own word) (add-one n),
          hits_below-miss own word n other,
        )
      ]

  pub hits_of_part : (word : ℕ) → ((i : ℕ) → i < t.rows → (i < before) ⊎ (before + rows ≤ i) → key_at t i ≢ word) → hits t word ≡ hits own word
  hits_of_part word others =
      let end = before + rows in
      let left : end + (t.rows - end) ≡ t.rows = omega (arith, cut.within) in
      let first : 0 + before ≡ before = omega arith in
      omega (
        arith,
        ap (hits_below t word) left,
        no_hits t word end (t.rows - end) (λ i low below. others i (omega (arith, below, cut.within)) (inr low)),
        hits_in word rows (omega arith),
        ap (hits_below t word) first,
        no_hits t word 0 before (λ i low below. others i (omega (arith, below, cut.within)) (inl (omega (arith, below)))),
        hits_below-zero t word,
      )

  pub hit_of_part : {V : Type 0} (Gives : List ℕ → V → Type 0) (word : ℕ) (h : Hit V) → IsHit own word Gives h → IsHit t word Gives (hit_after before h)
  hit_of_part Gives word h hit =
      let next : before + h.row + 1 ≡ before + (h.row + 1) = omega arith in
      record {
        within = omega (arith, hit.within, cut.within);
        there = omega (arith, ap (row_offset t) next, offset_is (h.row + 1), hit.there, row_in h.row hit.within, size_is);
        same_key = key_same h.row hit.within ∙ hit.same_key;
        gives = subst (λ bytes. Gives bytes h.value) (sym (value_same h.row hit.within)) hit.gives;
      }

  pub hits_later : {V : Type 0} (Gives : List ℕ → V → Type 0) (word : ℕ) (found : List (Hit V)) → All (IsHit own word Gives) found → All (IsHit t word Gives) (map (hit_after before) found)
  hits_later Gives word found each =
      All-map (IsHit t word Gives) (hit_after before) found (All-weaker (IsHit own word Gives) (λ h. IsHit t word Gives (hit_after before h)) (hit_of_part Gives word) found each)

-- the table has what is found in a part that has all rows with the word
module _ (t : Table) (part : List ℕ) (word : ℕ) (cut : HasRowsWith t part word) where
  abbrev found_own : Table
  found_own = table_of part t.width

  pub same_hits : hits t word ≡ hits found_own word
  same_hits = hits_of_part t part cut.before cut.is_part word cut.others

  pub are_hits_of : (found : List (Hit ℕ)) → AreHits found_own word found → AreHits t word (map (hit_after cut.before) found)
  are_hits_of found are = record {
    each = hits_later t part cut.before cut.is_part IsRowNumber word found are.each;
    distinct = later_distinct cut.before found are.distinct;
    all = λ sorted. length-map found (hit_after cut.before) ∙ are.all (sorted_part t part cut.before cut.is_part sorted) ∙ sym same_hits;
  }

  pub rows_of : FitsTable t → (n : ℕ) (old new : List ℕ) → IndexFinds found_own word old new n → IndexFinds t word old new n
  rows_of fits n old new finds = record {
    fits = fits;
    found = map (hit_after cut.before) finds.found;
    few = finds.few;
    number = length-map finds.found (hit_after cut.before) ∙ finds.number;
    are_hits = are_hits_of finds.found finds.are_hits;
    written = finds.written ∙ ap (λ vs. vs ++ drop n old) (sym (values_later cut.before finds.found));
  }

  pub collides_of : FitsTable t → Collides found_own word → Collides t word
  collides_of fits collides = record {
    fits = fits;
    found = map (hit_after cut.before) collides.found;
    eight = length-map collides.found (hit_after cut.before) ∙ collides.eight;
    each = hits_later t part cut.before cut.is_part IsRowNumber word collides.found collides.each;
    distinct = later_distinct cut.before collides.found collides.distinct;
  }

  pub places_of : {V : Type 0} (Gives : List ℕ → V → Type 0) (n : ℕ) (old new : List V) → Finds found_own word Gives old new n → Finds t word Gives old new n
  places_of Gives n old new finds = record {
    found = map (hit_after cut.before) finds.found;
    number = length-map finds.found (hit_after cut.before) ∙ finds.number;
    each = hits_later t part cut.before cut.is_part Gives word finds.found finds.each;
    distinct = later_distinct cut.before finds.found finds.distinct;
    written = finds.written ∙ ap (λ vs. vs ++ drop n old) (sym (values_later cut.before finds.found));
  }

  -- a table in fewer bytes than 2 ^ 64 fits 64 bits
  pub fits_there : length t.bytes < 2 ^ 64 → FitsTable t
  unfolding offset_of_row
  fits_there small =
      record { countable = omega (arith, cut.is_part.ends, small, mul-add t.rows 8 t.width); placed = omega (arith, cut.is_part.ends, small) }
