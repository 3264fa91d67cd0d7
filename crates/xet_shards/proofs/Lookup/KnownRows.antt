-- A lookup table whose rows are known, in the bytes of a source: what a search in it finds.
use Rattle.std.proofs.Common.{◌≡◌, true, inl, inr, ◌==◌, if◌then◌else◌, ℕ, ◌+◌, ◌-◌, ◌^◌, ◌<◌, ◌≤◌, List, ◌++◌, length, drop, flat_map, get_or, refl, sym, ap, ◌∙◌, arith, rules}
use Rattle.std.specs.Prelude.{All, AllPairs, filter}
use Rattle.std.proofs.lemmas.List.Elements.{All-weaker}
use Rattle.std.proofs.lemmas.Bool.{eq-eqb, cond-true}
use Rattle.std.proofs.Math.Nat.{eq-zero-or-pos}
use Rattle.xet_base.specs.declared.error.CoreError.{CoreError}
use Rattle.xet_base.specs.Bytes.{u64_bytes}
use Rattle.xet_base.specs.Source.{Source, DeviceFailure}
use Rattle.xet_base.specs.Search.Table.{offset_of_row, table_at, hits_below, Table, row_offset, key_at, value_at, HasKey, IsSorted, hits, Hit, IsHit, OtherRow, FitsTable, SearchRefused}
use Rattle.xet_base.proofs.Search.Tables.{offset_of_row-zero}
use Rattle.xet_base.proofs.Search.KnownTable.{sum_below, key_is, value_is, key_is_there, row_is_there, hits_below-sum}
use Rattle.xet_shards.proofs.Lookup.Distinct.{all_marked, count_marked, few_marked, sum-marked_hits}

-- rows of a table at an offset of a source, in ascending order of their keys; `d` is a row for where a list has none
pub record IsKnown {X : Type 0} (key : X → ℕ) (value : X → List ℕ) (width : ℕ) (d : X) (rows : List X) (start count : ℕ) (old : Source) : Type 0 where
  pub sizes : (x : X) → length (value x) ≡ width
  pub width_fits : width ≤ 8
  pub few : length rows ≤ 4294967295
  pub keys_fit : All (λ x. key x < 2 ^ 64) rows
  pub ascend : (i j : ℕ) → i < j → j < length rows → key (get_or rows i d) ≤ key (get_or rows j d)
  pub count_is : count ≡ length rows
  pub start_fits : start ≤ 2 ^ 48
  pub start_there : start ≤ length old.bytes
  pub after : List ℕ
  pub table_is : drop start old.bytes ≡ flat_map (λ x. u64_bytes (key x) ++ value x) rows ++ after

module _ {X : Type 0} (key : X → ℕ) (value : X → List ℕ) (width : ℕ) (d : X) (rows : List X) (start count : ℕ) (old : Source) (is : IsKnown key value width d rows start count old) where
  abbrev table : Table
  table = table_at old start count width

  abbrev row_of : ℕ → X
  row_of i = get_or rows i d

  pub rows_is : table.rows ≡ length rows
  rows_is = is.count_is

  row_key : (i : ℕ) → i < length rows → key_at table i ≡ key (row_of i)
  row_key i within = key_is key value width is.sizes table rows is.after is.table_is refl i d within (is.keys_fit i d within)

  row_value : (i : ℕ) → i < length rows → value_at table i ≡ value (row_of i)
  row_value i within = value_is key value width is.sizes table rows is.after is.table_is refl i d within

  row_has_key : (i : ℕ) → i < length rows → HasKey table i
  row_has_key i within = key_is_there key value width is.sizes table rows is.after is.table_is refl i d within

  pub rows_sorted : IsSorted table
  rows_sorted i j less within there = search (rules, rows_is, row_key)

  -- so many rows as have the word are hits
  abbrev mark : ℕ → ℕ → ℕ
  mark word i = if key (row_of i) == word then 1 else 0

  abbrev rows_with : ℕ → List X
  rows_with word = filter (λ x. key x == word) rows

  sum-marks : (word : ℕ) → sum_below (mark word) (length rows) ≡ length (rows_with word)
  sum-marks word = count_marked (λ x. key x == word) rows d

  pub rows_hit : (word : ℕ) → hits table word ≡ length (rows_with word)
  rows_hit word =
      ap (hits_below table word) rows_is
      ∙ hits_below-sum table word (length rows) (mark word) row_has_key (λ i within. ap (λ k. if k == word then 1 else 0) (sym (row_key i within)))
      ∙ sum-marks word

  -- the table fits 64 bits, and is there
  pub rows_fit : FitsTable table
  unfolding offset_of_row
  rows_fit = search rules

  pub rows_there : row_offset table table.rows ≤ length table.bytes
  rows_there = elim (eq-zero-or-pos (length rows)) [
    | inl none ↦ omega (arith, ap (row_offset table) (rows_is ∙ none), offset_of_row-zero table.start width, is.start_there)
    | inr some ↦ omega (arith, ap (row_offset table) (rows_is ∙ last some), there (length rows - 1) (omega (arith, some)))
  ]
    where
      last : 0 < length rows → length rows ≡ length rows - 1 + 1
      last some = omega (arith, some)

      there : (i : ℕ) → i < length rows → row_offset table (i + 1) ≤ length table.bytes
      there i within = row_is_there key value width is.sizes table rows is.after is.table_is refl i d within

  -- the search is refused only if the device fails
  pub search_served : (new : Source) (e : CoreError) → SearchRefused table old new e → DeviceFailure old new e
  search_served new e refused = search (rules, rows_fit, rows_there)

  module _ {V : Type 0} (Gives : List ℕ → V → Type 0) (word : ℕ) where
    -- a hit is a row with the word, and has its value
    pub row_hit : (h : Hit V) → IsHit table word Gives h → (h.row < length rows) × (key (row_of h.row) ≡ word) × Gives (value (row_of h.row)) h.value
    row_hit h hit = search (rules, rows_is, row_key, row_value)

    module _ (found : List (Hit V)) (each : All (IsHit table word Gives) found) (distinct : AllPairs OtherRow found) where
      hits_below_end : All (λ h. h.row < length rows) found
      hits_below_end = All-weaker (IsHit table word Gives) (λ h. h.row < length rows) (λ h hit. (row_hit h hit).0) found each

      have_word : All (λ h. (key (row_of h.row) == word) ≡ true) found
      have_word = All-weaker (IsHit table word Gives) (λ h. (key (row_of h.row) == word) ≡ true) (λ h hit. eq-eqb _ _ (row_hit h hit).1) found each

      -- they are no more than the rows with the word
      pub hits_few : length found ≤ length (rows_with word)
      hits_few = few_marked (λ x. key x == word) rows d found distinct hits_below_end have_word

      -- and if they are as many, each row with the word is among them
      pub hits_all : length found ≡ hits table word → (i : ℕ) → i < length rows → key (row_of i) ≡ word → (k : ℕ) × (k < length found) × ((h : Hit V) → (get_or found k h).row ≡ i)
      hits_all all i within same =
          let one : mark word i ≡ 1 = cond-true {A = ℕ} _ 1 0 (eq-eqb _ _ same) in
          all_marked (mark word) (length rows) found i distinct hits_below_end
          (omega (arith, sum-marked_hits (λ x. key x == word) rows d found have_word, sum-marks word, all, rows_hit word)) within (omega (arith, one))
