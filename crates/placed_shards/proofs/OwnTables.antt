-- Bytes whose tables are those of their records have the records of a range in the rows that the tables
-- name for it.
use Rattle.std.proofs.Common.{◌≡◌, ℕ, zero, suc, ◌+◌, ◌-◌, ◌*◌, ◌/◌, ◌<◌, ◌≤◌, ◌^◌, Bool, true, false, not, ◌&&◌, List, [], ◌∷◌, ◌++◌, length, map, flat_map, take, drop, get_or, Option, None, Some, IfSome, refl, sym, ap, ◌∙◌, subst, true≢false, arith, append-nil, append_assoc, ltb-true, ltb-false}
use Rattle.std.specs.Prelude.{All, nat_lt}
use Rattle.std.specs.Cmp.{nat_cmp_is}
use Rattle.std.specs.Ordering.{is_lt, nat_cmp, ordering_then}
use Rattle.std.specs.declared.cmp.Ordering.{Ordering}
use Rattle.std.specs.declared.cmp.Ordering.TheVariants.{Less}
use Rattle.std.specs.List.{AllByRecursion}
use Rattle.std.specs.List.Sorted.{IsStrictlySortedBy}
use Rattle.std.proofs.lemmas.List.{drop-drop, length-append, length-take-le}
use Rattle.std.proofs.lemmas.List.Concat.{flat_map-append}
use Rattle.std.proofs.lemmas.List.Elements.{All-nil, All-cons, All-append, filter_passes}
use Rattle.std.proofs.lemmas.List.Sums.{sum_by-append}
use Rattle.xet_base.specs.Bytes.{u32_bytes, u64_bytes}
use Rattle.xet_base.specs.declared.merklehash.DataHash.{DataHash}
use Rattle.xet_base.specs.Hash.{hash_cmp}
use Rattle.xet_base.proofs.Bytes.{length-u32_bytes, length-u64_bytes}
use Rattle.xet_base.proofs.Lists.{rest_is}
use Rattle.xet_records.specs.FileRecord.{file_records}
use Rattle.xet_records.specs.Reading.{BeginsWithBookend}
use Rattle.xet_records.specs.RecordKind.{RecordKind, KindLaws}
use Rattle.xet_records.specs.Version.{version_of}
use Rattle.xet_records.specs.XorbRecord.{xorb_records}
use Rattle.xet_records.proofs.Lengths.{length-all_record_bytes}
use Rattle.xet_records.proofs.RecordKinds.{xorb_laws, length-record_bytes}
use Rattle.xet_shards.specs.declared.shard_format.ends.info.MDBShardInfo.{MDBShardInfo}
use Rattle.xet_shards.specs.Read.SectionReading.{files_of}
use Rattle.xet_shards.specs.Write.Section.{total_rows, with_fronts}
use Rattle.xet_shards.specs.Write.Tables.{hash_in, start_of, start_row, table_bytes}
use Rattle.xet_shards.specs.Write.WithOptions.{Ascends}
use Rattle.xet_shards.proofs.ShardInMemory.ChunkLookups.{All-front}
use Rattle.xet_shards.proofs.Write.Sections.{files_laws}
use Rattle.xet_shards.proofs.Write.Tables.{length-table_bytes}
use Rattle.xet_core_structures.specs.Records.ShardContents.{files_at, xorbs_at}
use Rattle.xet_core_structures.specs.Steps.ShardContentsSteps.{IsListOf}
use Rattle.xet_core_structures.specs.TwoShards.ByteResults.{keyed_options}
use Rattle.xet_core_structures.proofs.Records.ShardContents.{rows_handed}
use Rattle.placed_shards.specs.declared.range.HashRange.{HashRange}
use Rattle.placed_shards.specs.ByTables.{HasByTable, OpensByTables, IsTableOf, HasOwnTables, IsCutByWord, IsCutByWords}
use Rattle.placed_shards.specs.Content.{Content, content_within, with_all_tables}
use Rattle.placed_shards.specs.Opening.{Opens}
use Rattle.placed_shards.specs.Ranges.{is_from, is_before, is_within, records_passing}
use Rattle.placed_shards.specs.RangeRows.{bisection, word_in, row_in, row_from, first_row, end_row, file_table, xorb_table, last_file_row, last_xorb_row}
use Rattle.placed_shards.proofs.HashRanges.{is_less, hash_cmp-reverse, below_through, not_below_through, not_true}
use Rattle.placed_shards.proofs.RangeLists.{those_between, second_is_not}
use Rattle.placed_shards.proofs.Items.{all_behind}
use Rattle.placed_shards.proofs.Bisection.{entry_word, entry_row, ends_after_first, found_there, found_at_end, is_below, is_not_below}
use Rattle.placed_shards.proofs.Within.{those_ascend}

-- a list at one of its places
at_place : {X : Type 0} (xs : List X) (i : ℕ) → i < length xs → (x : X) × (xs ≡ take i xs ++ x ∷ drop (suc i) xs) × (x ≡ get_or xs i x)
at_place [] i within = absurd (omega (arith, within))
at_place (x ∷ xs) zero within = (x, refl, refl)
at_place (x ∷ xs) (suc i) within = let found = at_place xs i (omega (arith, within)) in (found.0, ap (λ ys. x ∷ ys) found.1, found.2)

-- a list whose image has two parts has two
first_is : {X : Type 0} (x y : X) (xs ys : List X) → x ∷ xs ≡ y ∷ ys → (x ≡ y) × (xs ≡ ys)
first_is x y xs ys is = (cc, cc)

parts_of_image : {X Y : Type 0} (f : X → Y) (xs : List X) (ys zs : List Y) → map f xs ≡ ys ++ zs → (us vs : List X) × (xs ≡ us ++ vs) × (map f us ≡ ys) × (map f vs ≡ zs)
parts_of_image f xs [] zs is = ([], xs, refl, refl, is)
parts_of_image f [] (y ∷ ys) zs is = absurd (omega (arith, ap length is))
parts_of_image f (x ∷ xs) (y ∷ ys) zs is =
    let parts = first_is (f x) y (map f xs) (ys ++ zs) is in
    let rest = parts_of_image f xs ys zs parts.1 in
    (x ∷ rest.0, rest.1, ap (λ us. x ∷ us) rest.2, (λ i. parts.0 i ∷ rest.3 i), rest.4)

-- a hash with a smaller first word is smaller, and a smaller hash has no greater one
less_word : (a b : DataHash) → a.word0 < b.word0 → is_lt (hash_cmp a b) ≡ true
less_word a b less = ap (λ (o : Ordering). is_lt (ordering_then o (ordering_then (nat_cmp a.word1 b.word1) (ordering_then (nat_cmp a.word2 b.word2) (nat_cmp a.word3 b.word3))))) (sym (nat_cmp_is a.word0 b.word0 Less less))

not_less_word : (a b : DataHash) → is_lt (hash_cmp a b) ≡ false → b.word0 ≤ a.word0
not_less_word a b not_less = by_test (nat_lt a.word0 b.word0) refl where
  by_test : (t : Bool) → nat_lt a.word0 b.word0 ≡ t → b.word0 ≤ a.word0
  by_test true is = absurd (true≢false (sym (less_word a b (ltb-true a.word0 b.word0 is)) ∙ not_less))
  by_test false is = ltb-false a.word0 b.word0 is

not_false : (b : Bool) → not b ≡ false → b ≡ true
not_false true is = refl
not_false false is = absurd (true≢false is)

-- what holds of all of a list holds of its parts
of_middle : {X : Type 0} (P : X → Type 0) (xs ys : List X) (x : X) → All P (xs ++ x ∷ ys) → P x
of_middle P xs ys x all = all_behind P xs (x ∷ ys) all 0 x (omega arith)

-- one section, whose records have words of 64 bits
module _ {H R : Type 0} (K : RecordKind H R) (words : (r : R) → K.IsStored r → (hash_in K r).word0 < 2 ^ 64) (records : List R) (stored : All K.IsStored records) (few : total_rows K records ≤ 4294967295)
    (table : List ℕ) (last : ℕ) (own : IsTableOf K records table last) where
  -- the row of a record in the table
  row_there : (front xs ys : List R) (r : R) → (after : List ℕ) × (drop (12 * length xs) (flat_map start_row (map (start_of K) (with_fronts front (xs ++ r ∷ ys)))) ≡ start_row ((hash_in K r).word0, total_rows K (front ++ xs)) ++ after)
  row_there front [] ys r = (flat_map start_row (map (start_of K) (with_fronts (front ++ r ∷ []) ys)), ap (λ rs. start_row ((hash_in K r).word0, total_rows K rs) ++ flat_map start_row (map (start_of K) (with_fronts (front ++ r ∷ []) ys))) (sym (append-nil front)))
  row_there front (x ∷ xs) ys r =
      let found = row_there (front ++ x ∷ []) xs ys r in
      let here = start_row ((hash_in K x).word0, total_rows K front) in
      let others = flat_map start_row (map (start_of K) (with_fronts (front ++ x ∷ []) (xs ++ r ∷ ys))) in
      let size : length here ≡ 12 = omega (arith, length-append (u64_bytes (hash_in K x).word0) (u32_bytes (total_rows K front)), length-u64_bytes (hash_in K x).word0, length-u32_bytes (total_rows K front)) in
      let apart : 12 * length (x ∷ xs) ≡ 12 + 12 * length xs = omega arith in (
        found.0,
        ap (λ n. drop n (here ++ others)) apart ∙ sym (drop-drop (12 * length xs) 12 (here ++ others)) ∙ ap (drop (12 * length xs)) (rest_is 12 (here ++ others) here others size refl)
            ∙ found.1 ∙ ap (λ rs. start_row ((hash_in K r).word0, total_rows K rs) ++ found.0) (append_assoc front (x ∷ []) xs),
      )

  module _ (xs ys : List R) (r : R) (are : records ≡ xs ++ r ∷ ys) where
    there : (after : List ℕ) × (drop (12 * length xs) table ≡ u64_bytes (hash_in K r).word0 ++ (u32_bytes (total_rows K xs) ++ after))
    unfolding table_bytes
    there =
        let found = row_there [] xs ys r in
        (found.0, ap (drop (12 * length xs)) (own.rows ∙ ap (λ rs. flat_map start_row (map (start_of K) (with_fronts [] rs))) are) ∙ found.1 ∙ append_assoc (u64_bytes (hash_in K r).word0) (u32_bytes (total_rows K xs)) found.0)

    word_there : word_in table (length xs) ≡ (hash_in K r).word0
    word_there =
        let found = there in
        let here : K.IsStored r = of_middle K.IsStored xs ys r (subst (All K.IsStored) are stored) in
        sym (entry_word table (length xs) (hash_in K r).word0 0 (u32_bytes (total_rows K xs) ++ found.0) [] found.1 (words r here))

    row_is_there : row_in table (length xs) ≡ total_rows K xs
    row_is_there =
        let found = there in
        let rows : total_rows K xs ≤ total_rows K records = omega (arith, sum_by-append K.row_count xs (r ∷ ys), ap (total_rows K) are) in
        sym (entry_row table (length xs) (hash_in K r).word0 (total_rows K xs) (u32_bytes (total_rows K xs) ++ found.0) found.0 found.1 (omega (arith, rows, few)) refl)

  -- at a hash that no record below it shares the first word with, it finds the first record from it on
  module _ (k : DataHash) (cut : IsCutByWord K (Some k) records) (xs ys : List R) (are : records ≡ xs ++ ys)
      (low : All (λ r. is_lt (hash_cmp (hash_in K r) k) ≡ true) xs) (high : All (λ r. is_lt (hash_cmp (hash_in K r) k) ≡ false) ys) where
    abbrev IsCut : R → Type 0
    IsCut r = hash_cmp (hash_in K r) k ≡ Less → (hash_in K r).word0 < k.word0

    count_is : length table / 12 ≡ length records
    count_is = omega (arith, ap length own.rows, length-table_bytes K records)

    low_words : (i : ℕ) → i < length xs → word_in table i < k.word0
    low_words i less =
        let x = at_place xs i less in
        let after = drop (suc i) xs ++ ys in
        let split : records ≡ take i xs ++ x.0 ∷ after = are ∙ ap (λ l. l ++ ys) x.1 ∙ append_assoc (take i xs) (x.0 ∷ drop (suc i) xs) ys in
        let here : hash_cmp (hash_in K x.0) k ≡ Less = is_less (hash_cmp (hash_in K x.0) k) (subst (λ t. is_lt (hash_cmp (hash_in K t) k) ≡ true) (sym x.2) (low i x.0 less)) in
        let word : word_in table i ≡ (hash_in K x.0).word0 = ap (word_in table) (sym (length-take-le i xs (omega (arith, less)))) ∙ word_there (take i xs) after x.0 split in
        let below : (hash_in K x.0).word0 < k.word0 = of_middle IsCut (take i xs) after x.0 (subst (All IsCut) split cut) here in
        omega (arith, word, below)

    high_words : (j : ℕ) → j < length ys → k.word0 ≤ word_in table (length xs + j)
    high_words j less =
        let y = at_place ys j less in
        let front = xs ++ take j ys in
        let split : records ≡ front ++ y.0 ∷ drop (suc j) ys = are ∙ ap (λ l. xs ++ l) y.1 ∙ sym (append_assoc xs (take j ys) (y.0 ∷ drop (suc j) ys)) in
        let here : is_lt (hash_cmp (hash_in K y.0) k) ≡ false = subst (λ t. is_lt (hash_cmp (hash_in K t) k) ≡ false) (sym y.2) (high j y.0 less) in
        let place : length front ≡ length xs + j = length-append xs (take j ys) ∙ ap (λ n. length xs + n) (length-take-le j ys (omega (arith, less))) in
        let word : word_in table (length xs + j) ≡ (hash_in K y.0).word0 = ap (word_in table) (sym place) ∙ word_there front (drop (suc j) ys) y.0 split in
        omega (arith, word, not_less_word (hash_in K y.0) k here)

    first_pass : (i : ℕ) → i < length table / 12 → nat_lt (word_in table i) k.word0 ≡ nat_lt i (length xs)
    first_pass i within = by_test (nat_lt i (length xs)) refl where
      by_test : (b : Bool) → nat_lt i (length xs) ≡ b → nat_lt (word_in table i) k.word0 ≡ nat_lt i (length xs)
      by_test true is = is_below (word_in table i) k.word0 (low_words i (ltb-true i (length xs) is)) ∙ sym is
      by_test false is =
          let more : length xs ≤ i = ltb-false i (length xs) is in
          let same : length xs + (i - length xs) ≡ i = omega (arith, more) in
          let within_ys : i - length xs < length ys = omega (arith, within, count_is, ap length are, length-append xs ys, more) in
          is_not_below (word_in table i) k.word0 (subst (λ n. k.word0 ≤ word_in table n) same (high_words (i - length xs) within_ys)) ∙ sym is

    pub row_from_is : row_from table k.word0 last ≡ total_rows K xs
    row_from_is = by_rest ys are where
      found : length xs ≡ bisection (λ i. nat_lt (word_in table i) k.word0) (length table / 12)
      found = ends_after_first (λ i. nat_lt (word_in table i) k.word0) (length table / 12) (length xs) first_pass (omega (arith, count_is, ap length are, length-append xs ys))

      by_rest : (rest : List R) → records ≡ xs ++ rest → row_from table k.word0 last ≡ total_rows K xs
      by_rest [] is = sym (found_at_end table k.word0 last (length xs) found (omega (arith, count_is, ap length is, ap length (append-nil xs)))) ∙ own.last_is ∙ ap (total_rows K) (is ∙ append-nil xs)
      by_rest (r ∷ rs) is = sym (found_there table k.word0 last (length xs) found (total_rows K xs) (omega (arith, count_is, ap length is, length-append xs (r ∷ rs))) (sym (row_is_there xs rs r is)))

  -- a list whose hashes ascend, before a hash and from it on
  record SplitAt (k : DataHash) (rs : List R) : Type 0 where
    before : List R
    behind : List R
    are : rs ≡ before ++ behind
    low : All (λ r. is_lt (hash_cmp (hash_in K r) k) ≡ true) before
    high : All (λ r. is_lt (hash_cmp (hash_in K r) k) ≡ false) behind

  all_above : (k : DataHash) (r : R) (rs : List R) → is_lt (hash_cmp (hash_in K r) k) ≡ false → AllByRecursion (λ q. hash_cmp (hash_in K r) q ≡ Less) (map (hash_in K) rs)
      → All (λ s. is_lt (hash_cmp (hash_in K s) k) ≡ false) rs
  all_above k r [] high above = All-nil (λ (s : R). is_lt (hash_cmp (hash_in K s) k) ≡ false)
  all_above k r (s ∷ rs) high above =
      All-cons (λ (s : R). is_lt (hash_cmp (hash_in K s) k) ≡ false) s rs
      (not_below_through (hash_in K s) (hash_in K r) k (ap is_lt (hash_cmp-reverse (hash_in K r) (hash_in K s) Less above.0)) high) (all_above k r rs high above.1)

  split_at : (k : DataHash) (rs : List R) → Ascends K rs → SplitAt k rs
  unfolding IsStrictlySortedBy
  split_at k [] ascends = record {
    before = [];
    behind = [];
    are = refl;
    low = All-nil (λ (r : R). is_lt (hash_cmp (hash_in K r) k) ≡ true);
    high = All-nil (λ (r : R). is_lt (hash_cmp (hash_in K r) k) ≡ false);
  }
  split_at k (r ∷ rs) ascends = by_test (is_lt (hash_cmp (hash_in K r) k)) refl (split_at k rs ascends.1) where
    by_test : (b : Bool) → is_lt (hash_cmp (hash_in K r) k) ≡ b → SplitAt k rs → SplitAt k (r ∷ rs)
    by_test true is rest = record {
      before = r ∷ rest.before;
      behind = rest.behind;
      are = ap (λ l. r ∷ l) rest.are;
      low = All-cons (λ (s : R). is_lt (hash_cmp (hash_in K s) k) ≡ true) r rest.before is rest.low;
      high = rest.high;
    }
    by_test false is rest = record {
      before = [];
      behind = r ∷ rs;
      are = refl;
      low = All-nil (λ (s : R). is_lt (hash_cmp (hash_in K s) k) ≡ true);
      high = All-cons (λ (s : R). is_lt (hash_cmp (hash_in K s) k) ≡ false) r rs is (all_above k r rs is ascends.0);
    }

  ascends_behind : (xs ys : List R) → Ascends K (xs ++ ys) → Ascends K ys
  unfolding IsStrictlySortedBy
  ascends_behind [] ys ascends = ascends
  ascends_behind (x ∷ xs) ys ascends = ascends_behind xs ys ascends.1

  module _ (ascends : Ascends K records) where
    -- the records below a bound and the others, and the row of the bound
    record FromBound (from : Option DataHash) : Type 0 where
      before : List R
      behind : List R
      are : records ≡ before ++ behind
      low : All (λ r. is_from from (hash_in K r) ≡ false) before
      high : All (λ r. is_from from (hash_in K r) ≡ true) behind
      row : first_row table last from ≡ total_rows K before

    from_bound : (from : Option DataHash) → IsCutByWord K from records → FromBound from
    from_bound None cut = record { before = []; behind = records; are = refl; low = All-nil (λ (r : R). is_from None (hash_in K r) ≡ false); high = λ i r within. refl; row = refl }
    from_bound (Some k) cut =
        let split = split_at k records ascends in
        record {
          before = split.before;
          behind = split.behind;
          are = split.are;
          low = λ i r within. ap not (split.low i r within);
          high = λ i r within. ap not (split.high i r within);
          row = row_from_is k cut split.before split.behind split.are split.low split.high;
        }

    -- the same of an upper bound, of the records behind some that are below it
    record ToBound (front rest : List R) (to : Option DataHash) : Type 0 where
      before : List R
      behind : List R
      are : rest ≡ before ++ behind
      low : All (λ r. is_before to (hash_in K r) ≡ true) before
      high : All (λ r. is_before to (hash_in K r) ≡ false) behind
      row : end_row table last to ≡ total_rows K (front ++ before)

    to_bound : (front rest : List R) (to : Option DataHash) → records ≡ front ++ rest → All (λ r. is_before to (hash_in K r) ≡ true) front → IsCutByWord K to records → ToBound front rest to
    to_bound front rest None are below cut = record {
      before = rest;
      behind = [];
      are = sym (append-nil rest);
      low = λ i r within. refl;
      high = All-nil (λ (r : R). is_before None (hash_in K r) ≡ false);
      row = own.last_is ∙ ap (total_rows K) are;
    }
    to_bound front rest (Some k) are below cut =
        let split = split_at k rest (ascends_behind front rest (subst (Ascends K) are ascends)) in
        record {
          before = split.before;
          behind = split.behind;
          are = split.are;
          low = split.low;
          high = split.high;
          row = row_from_is k cut (front ++ split.before) split.behind (are ∙ ap (λ l. front ++ l) split.are ∙ sym (append_assoc front split.before split.behind))
              (All-append (λ (r : R). is_lt (hash_cmp (hash_in K r) k) ≡ true) front split.before below split.low) split.high;
        }

    -- what is below the start of a range is below its end
    below_both : (from to : Option DataHash) → IfSome to (λ k. is_from from k ≡ true) → (q : DataHash) → is_from from q ≡ false → is_before to q ≡ true
    below_both from None order q low = refl
    below_both None (Some t) order q low = absurd (true≢false low)
    below_both (Some f) (Some t) order q low = ap is_lt (below_through q f t (is_less (hash_cmp q f) (not_false (is_lt (hash_cmp q f)) low)) (not_true (is_lt (hash_cmp t f)) order))

    module _ (laws : KindLaws K) (section : List ℕ) (is : IsListOf K section records) (range : HashRange)
        (first_cut : IsCutByWord K range.from records) (end_cut : IsCutByWord K range.to records) (order : IfSome range.to (λ k. is_from range.from k ≡ true)) where
      lower : FromBound range.from
      lower = from_bound range.from first_cut

      upper : ToBound lower.before lower.behind range.to
      upper = to_bound lower.before lower.behind range.to lower.are (λ i r within. below_both range.from range.to order _ (lower.low i r within)) end_cut

      abbrev first : List R
      first = lower.before

      abbrev middle : List R
      middle = upper.before

      abbrev others : List R
      others = upper.behind

      parts : records ≡ first ++ (middle ++ others)
      parts = lower.are ∙ ap (λ l. first ++ l) upper.are

      from_start : All (λ r. is_from range.from (hash_in K r) ≡ true) middle
      from_start =
          All-front (λ r. is_from range.from (hash_in K r) ≡ true) middle others (subst (All (λ (r : R). is_from range.from (hash_in K r) ≡ true)) upper.are lower.high)

      passing : records_passing K (is_within range) records ≡ middle
      passing =
          ap (records_passing K (is_within range)) parts
          ∙ those_between K (is_within range) first middle others
          (λ i r within. ap (λ b. b && is_before range.to (hash_in K (get_or first i r))) (lower.low i r within))
          (λ i r within. (λ j. from_start i r within j && upper.low i r within j))
          (λ i r within. second_is_not (is_from range.from (hash_in K (get_or others i r))) _ (upper.high i r within))

      stored_parts : (us vs ws : List R) × (is.stored ≡ us ++ (vs ++ ws)) × (map K.as_read us ≡ first) × (map K.as_read vs ≡ middle) × (map K.as_read ws ≡ others)
      stored_parts =
          let one = parts_of_image K.as_read is.stored first (middle ++ others) (is.returned ∙ parts) in
          let two = parts_of_image K.as_read one.1 middle others one.4 in
          (one.0, two.0, two.1, one.2 ∙ ap (λ l. one.0 ++ l) two.2, one.3, two.3, two.4)

      no_others : range.to ≡ None → (rs : List R) → All (λ r. is_before range.to (hash_in K r) ≡ false) rs → rs ≡ []
      no_others none [] high = refl
      no_others none (r ∷ rs) high = absurd (true≢false (sym (ap (λ to. is_before to (hash_in K r)) none) ∙ high 0 r (omega arith)))

      nothing_read : (rs : List R) → map K.as_read rs ≡ [] → rs ≡ []
      nothing_read [] none = refl
      nothing_read (r ∷ rs) none = absurd (omega (arith, ap length none))

      pub opened_by_own : HasByTable K range section table last (records_passing K (is_within range) records)
      opened_by_own = by_parts stored_parts where
        by_parts : (us vs ws : List R) × (is.stored ≡ us ++ (vs ++ ws)) × (map K.as_read us ≡ first) × (map K.as_read vs ≡ middle) × (map K.as_read ws ≡ others)
            → HasByTable K range section table last (records_passing K (is_within range) records)
        by_parts (us, vs, ws, stored_are, us_are, vs_are, ws_are) =
            let bytes : List R → List ℕ = flat_map K.record_bytes in
            let after : List ℕ = bytes ws ++ is.section.rest in
            let are : All K.IsStored (us ++ (vs ++ ws)) = subst (All K.IsStored) stored_are is.section.records.are_stored in
            let us_stored : All K.IsStored us = All-front K.IsStored us (vs ++ ws) are in
            let vs_stored : All K.IsStored vs = All-front K.IsStored vs ws (all_behind K.IsStored us (vs ++ ws) are) in
            let size : length (bytes us) ≡ 48 * total_rows K us = length-all_record_bytes K.record_bytes K.row_count K.IsStored (length-record_bytes K laws) us us_stored in
            let rows_before : total_rows K us ≡ total_rows K first = sym (rows_handed K laws us) ∙ ap (total_rows K) us_are in
            let rows_in : total_rows K vs ≡ total_rows K middle = sym (rows_handed K laws vs) ∙ ap (total_rows K) vs_are in
            let all_rows : total_rows K records ≡ total_rows K first + (total_rows K middle + total_rows K others) = ap (total_rows K) parts ∙ sum_by-append K.row_count first (middle ++ others) ∙ ap (λ n. total_rows K first + n) (sum_by-append K.row_count middle others) in
            let section_is : section ≡ bytes us ++ (bytes vs ++ after) =
            is.section.records.bytes_are ∙ ap (λ l. bytes l ++ is.section.rest) stored_are ∙ ap (λ l. l ++ is.section.rest) (flat_map-append K.record_bytes us (vs ++ ws)) ∙ append_assoc (bytes us) (bytes (vs ++ ws)) is.section.rest
            ∙ ap (λ l. bytes us ++ (l ++ is.section.rest)) (flat_map-append K.record_bytes vs ws) ∙ ap (λ l. bytes us ++ l) (append_assoc (bytes vs) (bytes ws) is.section.rest) in
            record {
              stored = vs;
              rest = after;
              records = record {
                are_stored = vs_stored;
                rows = omega (arith, rows_in, all_rows, few);
                bytes_are = rest_is (48 * first_row table last range.from) section (bytes us) (bytes vs ++ after) (omega (arith, size, rows_before, lower.row)) section_is;
              };
              returned = vs_are ∙ sym passing;
              ascends = those_ascend K (is_within range) records ascends;
              within = filter_passes (λ r. is_within range (hash_in K r)) records;
              rows = omega (arith, lower.row, upper.row, sum_by-append K.row_count first middle, ap (total_rows K) passing);
              fits = omega (arith, upper.row, sum_by-append K.row_count first middle, all_rows, few);
              starts = λ none. ap (first_row table last) none;
              ends = λ none.
                  let last_part : ws ≡ [] = nothing_read ws (ws_are ∙ no_others none others upper.high) in
                  subst (λ l. BeginsWithBookend K (bytes l ++ is.section.rest)) (sym last_part) is.section.bookend;
            }

-- both sections
module _ (range : HashRange) (bytes : List ℕ) (whole : Content) (opens : Opens bytes whole) (own : HasOwnTables bytes opens.info whole) (cut : IsCutByWords range whole) where
  abbrev info : MDBShardInfo
  info = opens.info

  files_open : HasByTable (files_of info) range (files_at bytes info) (file_table bytes info) (last_file_row info) (records_passing file_records (is_within range) whole.files)
  unfolding table_bytes
  files_open =
      let laws = files_laws (version_of info.header.version) in
      let list = opens.lists.files in
      opened_by_own (files_of info) (λ r stored. (laws.header_fits r stored).file_hash.word0) whole.files list.writable.stored list.writable.rows (file_table bytes info) (last_file_row info)
      (record { rows = own.files.rows; last_is = own.files.last_is }) list.writable.ascends laws (files_at bytes info) list range cut.files.0 cut.files.1 cut.order

  xorbs_open : HasByTable xorb_records range (xorbs_at bytes info) (xorb_table bytes info) (last_xorb_row info) (records_passing xorb_records (is_within range) whole.xorbs)
  xorbs_open =
      let list = opens.lists.xorbs in
      opened_by_own xorb_records (λ r stored. (xorb_laws.header_fits r stored).xorb_hash.word0) whole.xorbs list.writable.stored list.writable.rows (xorb_table bytes info) (last_xorb_row info)
      own.xorbs list.writable.ascends xorb_laws (xorbs_at bytes info) list range cut.xorbs.0 cut.xorbs.1 cut.order

  pub own_tables_open : OpensByTables range bytes (with_all_tables (content_within range whole))
  own_tables_open = record { info = info; ends = opens.ends; files = files_open; xorbs = xorbs_open; options_are = ap (λ o. keyed_options o.key) opens.options_are }
