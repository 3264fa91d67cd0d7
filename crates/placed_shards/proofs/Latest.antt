-- Records that are inserted into a map one after another.
use Rattle.std.proofs.Common.{◌≡◌, ◌↔◌, ℕ, ◌+◌, ◌-◌, ◌<◌, ◌≤◌, List, [], ◌∷◌, Option, T, refl, sym, ap, ◌∙◌, subst, arith}
use Rattle.std.specs.Prelude.{All, option_map, unwrap_or}
use Rattle.std.specs.BTreeMap.{insert_entry, is_at}
use Rattle.std.specs.FinMap.{FinMap, empty, entries, from_sorted, is_sorted, values, entries-from_sorted}
use Rattle.std.specs.Map.{lookup, values_of}
use Rattle.std.proofs.lemmas.List.Elements.{All-nil, All-map}
use Rattle.xet_base.specs.declared.merklehash.DataHash.{DataHash}
use Rattle.xet_base.specs.Hash.{hash_cmp}
use Rattle.xet_base.proofs.HashOrder.{hash_cmp-IsTotalOrder, hash_cmp-IsAntisymmetric}
use Rattle.xet_records.specs.Limits.{MAX_ROWS}
use Rattle.xet_records.specs.RecordKind.{RecordKind}
use Rattle.xet_shards.specs.Write.Section.{total_rows}
use Rattle.xet_shards.specs.Write.Tables.{hash_in}
use Rattle.xet_shards.proofs.Content.Maps.{from_sorted-nil, values-empty, sorted-insert_entry, from_sorted-insert_entry, finds_in_map, All-insert_entry, sum-insert}
use Rattle.placed_shards.specs.Given.{with_record, with_records, CanInsertAll, HoldsRecords}

module _ {H R : Type 0} (K : RecordKind H R) (IsFormed : R → Type 0) where
  -- some of the records were inserted, of which these are the entries and the rows
  pub record IsLatest (all rest : List R) (es : List (DataHash × R)) (rows : ℕ) : Type 0 where
    pub sorted : T (is_sorted hash_cmp es)
    pub keyed : All (λ e. e.0 ≡ hash_in K e.1) es
    pub formed : All (λ e. IsFormed e.1) es
    pub rows_are : rows ≡ total_rows K (values (from_sorted {R = hash_cmp} es))
    pub few : rows ≤ MAX_ROWS
    pub same : with_records K empty all ≡ with_records K (from_sorted {R = hash_cmp} es) rest
    pub can : CanInsertAll K IsFormed empty all ↔ CanInsertAll K IsFormed (from_sorted {R = hash_cmp} es) rest

  no_entries : from_sorted {X = R} {R = hash_cmp} [] ≡ empty
  no_entries = from_sorted-nil hash_cmp-IsTotalOrder hash_cmp-IsAntisymmetric

  pub none_yet : (all : List R) → IsLatest all all [] 0
  none_yet all = record {
    sorted = tt;
    keyed = All-nil (λ e. e.0 ≡ hash_in K e.1);
    formed = All-nil (λ e. IsFormed e.1);
    rows_are = sym (ap (λ (m : FinMap hash_cmp R). total_rows K (values m)) no_entries ∙ ap (total_rows K) (values-empty R hash_cmp));
    few = omega arith;
    same = ap (λ (m : FinMap hash_cmp R). with_records K m all) (sym no_entries);
    can = subst (λ (m : FinMap hash_cmp R). CanInsertAll K IsFormed empty all ↔ CanInsertAll K IsFormed m all) (sym no_entries) (λ yes. yes, λ yes. yes);
  }

  -- one more record
  module _ (all rest : List R) (r : R) (es fs : List (DataHash × R)) (rows new replaced : ℕ) (before : IsLatest all (r ∷ rest) es rows) (put : fs ≡ insert_entry hash_cmp es (hash_in K r) r)
      (replaced_is : replaced ≡ unwrap_or (option_map K.row_count (lookup (is_at (hash_cmp (hash_in K r))) es)) 0) (new_is : new + replaced ≡ rows + K.row_count r) where
    after : from_sorted {R = hash_cmp} fs ≡ with_record K (from_sorted es) r
    after = ap (from_sorted {R = hash_cmp}) put ∙ from_sorted-insert_entry hash_cmp-IsTotalOrder hash_cmp-IsAntisymmetric es (hash_in K r) r before.sorted

    counted : new ≡ total_rows K (values (with_record K (from_sorted es) r))
    counted = omega (
      arith,
      sum-insert hash_cmp-IsTotalOrder hash_cmp-IsAntisymmetric K.row_count (from_sorted {R = hash_cmp} es) (hash_in K r) r,
      ap (λ o. unwrap_or (option_map K.row_count o) 0) (finds_in_map hash_cmp-IsTotalOrder hash_cmp-IsAntisymmetric es (hash_in K r) before.sorted),
      replaced_is,
      new_is,
      before.rows_are,
    )

    pub one_more : IsFormed r → new ≤ MAX_ROWS → IsLatest all rest fs new
    one_more formed few = record {
      sorted = subst (λ gs. T (is_sorted hash_cmp gs)) (sym put) (sorted-insert_entry hash_cmp-IsTotalOrder hash_cmp-IsAntisymmetric es (hash_in K r) r before.sorted);
      keyed = subst (All (λ e. e.0 ≡ hash_in K e.1)) (sym put) (All-insert_entry hash_cmp-IsTotalOrder hash_cmp-IsAntisymmetric (λ e. e.0 ≡ hash_in K e.1) es (hash_in K r) r before.keyed refl);
      formed = subst (All (λ e. IsFormed e.1)) (sym put) (All-insert_entry hash_cmp-IsTotalOrder hash_cmp-IsAntisymmetric (λ e. IsFormed e.1) es (hash_in K r) r before.formed formed);
      rows_are = counted ∙ ap (λ (m : FinMap hash_cmp R). total_rows K (values m)) (sym after);
      few = few;
      same = before.same ∙ ap (λ (m : FinMap hash_cmp R). with_records K m rest) (sym after);
      can = (
        λ every. subst (λ (m : FinMap hash_cmp R). CanInsertAll K IsFormed m rest) (sym after) ((before.can.0 every).2),
        λ others. before.can.1 (formed, omega (arith, counted, few), subst (λ (m : FinMap hash_cmp R). CanInsertAll K IsFormed m rest) after others),
      );
    }

    pub too_many : MAX_ROWS < new → CanInsertAll K IsFormed empty all → ⊥
    too_many more can = omega (arith, more, counted, (before.can.0 can).1)

  -- one step of the loop, by what its calls ensure
  module _ (rows_law : (r : R) → IsFormed r → K.row_count r ≡ 1 + K.rows_after (K.header_of r)) (all rest left : List R) (given : R) (es : List (DataHash × R)) (rows words replaced : ℕ) (hash : DataHash)
      (found : Option R) (before : IsLatest all left es rows) (split : left ≡ given ∷ rest) (formed : IsFormed given) (hash_is : hash ≡ hash_in K given) (words_are : words ≡ K.rows_after (K.header_of given))
      (found_is : found ≡ lookup (is_at (hash_cmp hash)) es) (replaced_is : replaced ≡ unwrap_or (option_map K.row_count found) 0) where
    at_front : IsLatest all (given ∷ rest) es rows
    at_front = subst (λ xs. IsLatest all xs es rows) split before

    there : replaced ≡ unwrap_or (option_map K.row_count (lookup (is_at (hash_cmp (hash_in K given))) es)) 0
    there = replaced_is ∙ ap (λ o. unwrap_or (option_map K.row_count o) 0) (found_is ∙ ap (λ k. lookup (is_at (hash_cmp k)) es) hash_is)

    pub replaced_few : replaced ≤ rows + (1 + words)
    replaced_few = omega (
      arith,
      sum-insert hash_cmp-IsTotalOrder hash_cmp-IsAntisymmetric K.row_count (from_sorted {R = hash_cmp} es) (hash_in K given) given,
      ap (λ o. unwrap_or (option_map K.row_count o) 0) (finds_in_map hash_cmp-IsTotalOrder hash_cmp-IsAntisymmetric es (hash_in K given) before.sorted),
      there,
      before.rows_are,
      rows_law given formed,
      words_are,
    )

    module _ (fs : List (DataHash × R)) (put : fs ≡ insert_entry hash_cmp es hash given) where
      put_there : fs ≡ insert_entry hash_cmp es (hash_in K given) given
      put_there = put ∙ ap (λ k. insert_entry hash_cmp es k given) hash_is

      counted_new : (rows + (1 + words) - replaced) + replaced ≡ rows + K.row_count given
      counted_new = omega (arith, replaced_few, rows_law given formed, words_are)

      pub stepped : rows + (1 + words) - replaced ≤ MAX_ROWS → IsLatest all rest fs (rows + (1 + words) - replaced)
      stepped few = one_more all rest given es fs rows (rows + (1 + words) - replaced) replaced at_front put_there there counted_new formed few

      pub passed : MAX_ROWS < rows + (1 + words) - replaced → CanInsertAll K IsFormed empty all → ⊥
      passed more = too_many all rest given es fs rows (rows + (1 + words) - replaced) replaced at_front put_there there counted_new more

  -- all records
  module _ (all : List R) (es : List (DataHash × R)) (rows : ℕ) (before : IsLatest all [] es rows) where
    entries_are : es ≡ entries (with_records K empty all)
    entries_are = sym (entries-from_sorted hash_cmp es before.sorted) ∙ ap (λ (m : FinMap hash_cmp R). entries m) (sym before.same)

    pub values_are : values_of es ≡ values (with_records K empty all)
    values_are = ap values_of entries_are

    pub all_hold : HoldsRecords K IsFormed (with_records K empty all)
    all_hold = record {
      keyed = subst (All (λ e. e.0 ≡ hash_in K e.1)) entries_are before.keyed;
      formed = subst (All (λ e. IsFormed e.1)) entries_are before.formed;
      rows = subst (λ (m : FinMap hash_cmp R). total_rows K (values m) ≤ MAX_ROWS) (sym before.same) (omega (arith, before.few, before.rows_are));
    }

  pub formed_values : (m : FinMap hash_cmp R) → HoldsRecords K IsFormed m → All IsFormed (values m)
  formed_values m holds = All-map IsFormed (λ (e : DataHash × R). e.1) (entries m) holds.formed
