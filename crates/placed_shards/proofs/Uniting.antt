-- The turns of the loop that unites two lists of records.
use Rattle.std.proofs.Common.{◌≡◌, ◌⊎◌, inl, inr, Bool, true, false, ℕ, ◌+◌, ◌<◌, ◌≤◌, List, [], ◌∷◌, ◌++◌, length, drop, map, get_or, Option, None, Some, Ok, Err, refl, sym, ap, ◌∙◌, subst, arith, cond, append-nil, append_assoc}
use Rattle.std.specs.Prelude.{MatchResult, option_to_list}
use Rattle.std.specs.declared.result.Result.{Result}
use Rattle.std.specs.List.Sorted.{IsStrictlySortedBy}
use Rattle.std.specs.Ordering.{eq_by_cmp, ordering_reverse}
use Rattle.std.specs.declared.cmp.Ordering.TheVariants.{Less, Greater}
use Rattle.std.specs.FinMap.{values, same_map}
use Rattle.std.proofs.lemmas.List.{map-append, drop-map, drop_all}
use Rattle.std.proofs.lemmas.List.Sums.{sum_by-append, sum_by-cons}
use Rattle.xet_base.specs.declared.error.CoreError.{CoreError}
use Rattle.xet_base.specs.declared.error.CoreError.TheVariants.{OutOfMemory}
use Rattle.xet_base.specs.declared.merklehash.DataHash.{DataHash}
use Rattle.xet_base.specs.Errors.{IsInvalidShard}
use Rattle.xet_base.specs.Hash.{hash_cmp}
use Rattle.xet_base.proofs.HashOrder.{same_key, hash_cmp-IsTotalOrder, hash_cmp-IsAntisymmetric}
use Rattle.xet_records.specs.RecordKind.{RecordKind, KindLaws}
use Rattle.xet_shards.specs.Write.WithOptions.{Ascends}
use Rattle.xet_shards.specs.Write.Section.{total_rows}
use Rattle.xet_core_structures.specs.Records.RecordPairs.{key_of_record, with_hash, rows_in, ComeBefore, Combines}
use Rattle.xet_core_structures.proofs.Records.ListMaps.{list_map, get-list_map, values-list_map}
use Rattle.xet_core_structures.proofs.Records.RecordPairs.{ComesLater, HasHash, AreCombinedBefore, combined_start, next_passed, combined_on, less-not_equal}
use Rattle.placed_shards.proofs.Turns.{drop_first}
use Rattle.placed_shards.specs.Sets.{CombinesToSection}
use Rattle.placed_shards.specs.Steps.SetsSteps.{CountsRows, IsBefore, MakesRecord, MakesNone, KeepsNext, KeepsNone}
use Rattle.placed_shards.specs.Steps.SetsSteps.KeepsNext.{takes_first, takes_second, takes_both}

-- the header of the first of a list, if there is one
abbrev pub next_header : {H R : Type 0} → RecordKind H R → List R → Option H
next_header K [] = None
next_header K (r ∷ rs) = Some (K.header_of r)

module _ {H R : Type 0} (K : RecordKind H R) where
  -- two lists whose hashes strictly ascend are equal if they have the same under each hash
  pub same_list : (xs ys : List R) → Ascends K xs → Ascends K ys → ((q : DataHash) → with_hash K xs q ≡ with_hash K ys q) → xs ≡ ys
  same_list xs ys first second same =
      let maps = same_map hash_cmp-IsTotalOrder hash_cmp-IsAntisymmetric (list_map K xs) (list_map K ys) (λ q. get-list_map K xs first q ∙ same q ∙ sym (get-list_map K ys second q)) in
      sym (values-list_map K xs first) ∙ ap values maps ∙ values-list_map K ys second

  -- a record after others that come before it
  pub found_after : (before : List R) (r : R) (rs : List R) → ComeBefore K (key_of_record K r) before → with_hash K (before ++ r ∷ rs) (key_of_record K r) ≡ Some r
  found_after [] r rs come = ap (λ b. cond b (Some r) (with_hash K rs (key_of_record K r))) ((same_key (key_of_record K r) (key_of_record K r)).1 refl)
  found_after (x ∷ xs) r rs come =
      ap (λ b. cond b (Some x) (with_hash K (xs ++ r ∷ rs) (key_of_record K r)))
      (less-not_equal K (key_of_record K r) (key_of_record K x) come.0 (eq_by_cmp hash_cmp (key_of_record K r) (key_of_record K x)) refl)
      ∙ found_after xs r rs come.1

  -- a record has no more rows than a list that has it
  pub rows_of_one : (rs : List R) (q : DataHash) → rows_in K (with_hash K rs q) ≤ total_rows K rs
  rows_of_one [] q = omega arith
  rows_of_one (r ∷ rs) q = at (eq_by_cmp hash_cmp q (key_of_record K r)) (rows_of_one rs q) where
    at : (b : Bool) → rows_in K (with_hash K rs q) ≤ total_rows K rs → rows_in K (cond b (Some r) (with_hash K rs q)) ≤ total_rows K (r ∷ rs)
    at true rest = omega (arith, sum_by-cons K.row_count r rs)
    at false rest = omega (arith, sum_by-cons K.row_count r rs, rest)

module _ {H R : Type 0} (K : RecordKind H R) (makes : Option R → Option R → Option R → Type 0) where
  -- the fronts of two lists are united, and these are left
  pub record IsUniting (xs ys ps qs made : List R) (rows : ℕ) : Type 0 where
    before_1 : List R
    before_2 : List R
    pub first_is : xs ≡ before_1 ++ ps
    pub second_is : ys ≡ before_2 ++ qs
    ascends_1 : Ascends K ps
    ascends_2 : Ascends K qs
    fronts : AreCombinedBefore K makes before_1 before_2 made (next_header K ps) (next_header K qs)
    pub counted : CountsRows (total_rows K made) rows

module _ {H R : Type 0} (K : RecordKind H R) (laws : KindLaws K) where
  pub after_first : (r : R) (rs : List R) → Ascends K (r ∷ rs) → ComesLater K (key_of_record K r) (next_header K rs)
  unfolding IsStrictlySortedBy
  after_first r [] ascends = tt
  after_first r (s ∷ rs) ascends = ascends.0.0

  pub ascends_rest : (r : R) (rs : List R) → Ascends K (r ∷ rs) → Ascends K rs
  unfolding IsStrictlySortedBy
  ascends_rest r rs ascends = ascends.1

  pub is_later : (k : DataHash) (ps qs : List R) → ps ≡ qs → IsBefore K k ps → ComesLater K k (next_header K qs)
  is_later k ps [] same before = tt
  is_later k ps (q ∷ qs) same before = subst (IsBefore K k) same before

  pub later_from : (j k : DataHash) (ps : List R) → j ≡ k → ComesLater K j (next_header K ps) → ComesLater K k (next_header K ps)
  later_from j k ps same later = subst (λ q. ComesLater K q (next_header K ps)) same later

  module _ (makes : Option R → Option R → Option R → Type 0) where
    pub uniting_start : makes None None None → (xs ys : List R) → Ascends K xs → Ascends K ys → IsUniting K makes xs ys xs ys [] 0
    uniting_start nothing xs ys first second = record {
      before_1 = [];
      before_2 = [];
      first_is = refl;
      second_is = refl;
      ascends_1 = first;
      ascends_2 = second;
      fronts = combined_start K makes nothing (next_header K xs) (next_header K ys);
      counted = inl refl;
    }

    module _ (xs ys ps qs made : List R) (rows : ℕ) (uniting : IsUniting K makes xs ys ps qs made rows) where
      -- one hash more
      module _ (one other : Option R) (z : R) (ps' qs' : List R) (counted : ℕ) (h : H)
          (first : ps ≡ option_to_list one ++ ps') (second : qs ≡ option_to_list other ++ qs') (one_hash : HasHash K (key_of_record K z) one) (other_hash : HasHash K (key_of_record K z) other)
          (is_made : makes one other (Some z)) (stored : K.IsStored z) (next : (next_header K ps ≡ Some h) ⊎ (next_header K qs ≡ Some h)) (hash : K.hash_of h ≡ key_of_record K z)
          (ascends_1 : Ascends K ps') (ascends_2 : Ascends K qs') (later_1 : ComesLater K (key_of_record K z) (next_header K ps')) (later_2 : ComesLater K (key_of_record K z) (next_header K qs'))
          (counts : CountsRows (total_rows K made + K.row_count z) counted) where
        one_more : IsUniting K makes xs ys ps' qs' (made ++ z ∷ []) counted
        one_more = record {
          before_1 = uniting.before_1 ++ option_to_list one;
          before_2 = uniting.before_2 ++ option_to_list other;
          first_is = uniting.first_is ∙ ap (λ rs. uniting.before_1 ++ rs) first ∙ sym (append_assoc uniting.before_1 (option_to_list one) ps');
          second_is = uniting.second_is ∙ ap (λ rs. uniting.before_2 ++ rs) second ∙ sym (append_assoc uniting.before_2 (option_to_list other) qs');
          ascends_1 = ascends_1;
          ascends_2 = ascends_2;
          fronts = combined_on K makes (key_of_record K z) one other (Some z) one_hash other_hash (refl, stored) is_made uniting.before_1 uniting.before_2 made
              (next_passed K makes uniting.before_1 uniting.before_2 made (next_header K ps) (next_header K qs) uniting.fronts (key_of_record K z) h next hash)
              (next_header K ps) (next_header K qs) (next_header K ps') (next_header K qs') uniting.fronts later_1 later_2;
          counted = subst (λ n. CountsRows n counted) (sym (sum_by-append K.row_count made (z ∷ []) ∙ last)) counts;
        } where
          last : total_rows K made + total_rows K (z ∷ []) ≡ total_rows K made + K.row_count z
          last = omega (arith, sum_by-cons K.row_count z [])

      module _ (first_alone : (r : R) → makes (Some r) None (Some r)) (second_alone : (r : R) → makes None (Some r) (Some r)) where
        pub uniting_on : (z : R) (ps' qs' : List R) (counted : ℕ) → K.IsStored z → KeepsNext K makes ps qs z ps' qs'
            → CountsRows (total_rows K made + K.row_count z) counted → IsUniting K makes xs ys ps' qs' (made ++ z ∷ []) counted
        uniting_on z ps' qs' counted stored (takes_first ps_is qs_is before) counts =
            let ascends = subst (Ascends K) ps_is uniting.ascends_1 in
            one_more (Some z) None z ps' qs' counted (K.header_of z) ps_is qs_is refl tt (first_alone z) stored (inl (ap (next_header K) ps_is)) refl
            (ascends_rest z ps' ascends) (subst (Ascends K) qs_is uniting.ascends_2) (after_first z ps' ascends) (is_later (key_of_record K z) qs qs' qs_is before) counts
        uniting_on z ps' qs' counted stored (takes_second qs_is ps_is before) counts =
            let ascends = subst (Ascends K) qs_is uniting.ascends_2 in
            one_more None (Some z) z ps' qs' counted (K.header_of z) ps_is qs_is tt refl (second_alone z) stored (inr (ap (next_header K) qs_is)) refl
            (subst (Ascends K) ps_is uniting.ascends_1) (ascends_rest z qs' ascends) (is_later (key_of_record K z) ps ps' ps_is before) (after_first z qs' ascends) counts
        uniting_on z ps' qs' counted stored (takes_both g h ps_is qs_is same hash is_made) counts =
            let ascends_1 = subst (Ascends K) ps_is uniting.ascends_1 in
            let ascends_2 = subst (Ascends K) qs_is uniting.ascends_2 in
            one_more (Some g) (Some h) z ps' qs' counted (K.header_of g) ps_is qs_is (sym hash) (sym same ∙ sym hash) is_made stored (inl (ap (next_header K) ps_is)) (sym hash)
            (ascends_rest g ps' ascends_1) (ascends_rest h qs' ascends_2)
            (later_from (key_of_record K g) (key_of_record K z) ps' (sym hash) (after_first g ps' ascends_1))
            (later_from (key_of_record K h) (key_of_record K z) qs' (sym same ∙ sym hash) (after_first h qs' ascends_2)) counts

      -- nothing is left
      uniting_ends : ps ≡ [] → qs ≡ [] → Combines K makes xs ys made
      uniting_ends ps_none qs_none =
          let xs_are : uniting.before_1 ≡ xs = sym (uniting.first_is ∙ ap (λ rs. uniting.before_1 ++ rs) ps_none ∙ append-nil uniting.before_1) in
          let ys_are : uniting.before_2 ≡ ys = sym (uniting.second_is ∙ ap (λ rs. uniting.before_2 ++ rs) qs_none ∙ append-nil uniting.before_2) in
          subst (λ p. p) (λ i. Combines K makes (xs_are i) (ys_are i) made) uniting.fronts.combined

      few_rows : rows ≤ 4294967295 → total_rows K made ≤ 4294967295
      few_rows few = of_count uniting.counted where
        of_count : CountsRows (total_rows K made) rows → total_rows K made ≤ 4294967295
        of_count (inl is) = omega (arith, is, few)
        of_count (inr (_, many)) = absurd (omega (arith, many, few))

      many_rows : 4294967295 < rows → 4294967295 < total_rows K made
      many_rows many = of_count uniting.counted where
        of_count : CountsRows (total_rows K made) rows → 4294967295 < total_rows K made
        of_count (inl is) = omega (arith, is, many)
        of_count (inr (more, _)) = more

      -- what a call returns that refuses a list with too many rows
      module _ (once : (a b c d : Option R) → makes a b c → makes a b d → c ≡ d) where
        too_many : Combines K makes xs ys made → 4294967295 < total_rows K made → (zs : List R) → ¬ CombinesToSection K makes xs ys zs
        too_many combined many zs fits =
            let same : zs ≡ made = same_list K zs made fits.combined.ascends combined.ascends
            (λ q. once (with_hash K xs q) (with_hash K ys q) (with_hash K zs q) (with_hash K made q) (fits.combined.each q) (combined.each q)) in
            omega (arith, many, fits.rows, ap (total_rows K) same)

        pub after_all : ps ≡ [] → qs ≡ [] → {V : Type 0} (items : V → List R) (v : V) → items v ≡ made → (result : Result V CoreError)
            → MatchResult result (λ found. (found ≡ v) × (rows ≤ 4294967295)) (λ e. IsInvalidShard e × (4294967295 < rows))
            → MatchResult result (λ found. CombinesToSection K makes xs ys (items found))
            (λ e. (e ≡ OutOfMemory) ⊎ (IsInvalidShard e × ((zs : List R) → ¬ CombinesToSection K makes xs ys zs)))
        after_all ps_none qs_none items v is (Ok found) (found_is, few) =
            subst (CombinesToSection K makes xs ys) (sym (ap items found_is ∙ is)) (record { combined = uniting_ends ps_none qs_none; rows = few_rows few })
        after_all ps_none qs_none items v is (Err e) (invalid, many) = inr (invalid, too_many (uniting_ends ps_none qs_none) (many_rows many))

      -- nothing is made of two records that fits a section
      pub no_record : KeepsNone K makes ps qs → (zs : List R) → ¬ CombinesToSection K makes xs ys zs
      no_record none zs fits =
          let g = none.one in
          let h = none.other in
          let ps_is = none.first_is in
          let qs_is = none.second_is in
          let same = none.same in
          let passed = next_passed K makes uniting.before_1 uniting.before_2 made (next_header K ps) (next_header K qs) uniting.fronts (key_of_record K g) (K.header_of g) (inl (ap (next_header K) ps_is)) refl in
          let q = key_of_record K g in
          let first : with_hash K xs q ≡ Some g = ap (λ rs. with_hash K rs q) (uniting.first_is ∙ ap (λ rs. uniting.before_1 ++ rs) ps_is) ∙ found_after K uniting.before_1 g none.ones passed.first in
          let second : with_hash K ys q ≡ Some h = ap (λ rs. with_hash K rs q) (uniting.second_is ∙ ap (λ rs. uniting.before_2 ++ rs) qs_is)
          ∙ ap (with_hash K (uniting.before_2 ++ h ∷ none.others)) same ∙ found_after K uniting.before_2 h none.others (subst (λ k. ComeBefore K k uniting.before_2) same passed.second) in
          let made_there = subst (λ p. p) (λ i. makes (first i) (second i) (with_hash K zs q)) (fits.combined.each q) in
          omega (arith, none.never (with_hash K zs q) made_there, rows_of_one K zs q, fits.rows)

  -- fewer are left
  pub fewer_left : (makes : Option R → Option R → Option R → Type 0) (ps qs : List R) (r : R) (ps' qs' : List R) → KeepsNext K makes ps qs r ps' qs'
      → length ps' + length qs' < length ps + length qs
  fewer_left makes ps qs r ps' qs' (takes_first ps_is qs_is before) = omega (arith, ap length ps_is, ap length qs_is)
  fewer_left makes ps qs r ps' qs' (takes_second qs_is ps_is before) = omega (arith, ap length ps_is, ap length qs_is)
  fewer_left makes ps qs r ps' qs' (takes_both g h ps_is qs_is same hash made) = omega (arith, ap length ps_is, ap length qs_is)

  module _ (makes : Option R → Option R → Option R → Type 0) (xs ys : List R) (i j : ℕ) where
    abbrev pub first_left : ℕ → List R
    first_left n = drop n (map K.as_read xs)

    abbrev pub second_left : ℕ → List R
    second_left n = drop n (map K.as_read ys)

    -- reading returns the record at a place, and then those after it
    pub key_read : (r : R) → key_of_record K (K.as_read r) ≡ key_of_record K r
    key_read r = ap K.hash_of (laws.same_header r)

    pub left_at : (zs : List R) (n : ℕ) (r : R) → r ≡ get_or zs n r → n < length zs → drop n (map K.as_read zs) ≡ K.as_read r ∷ drop (n + 1) (map K.as_read zs)
    left_at zs n r is some = drop-map K.as_read n zs ∙ ap (map K.as_read) (drop_first zs n r is some) ∙ ap (λ rs. K.as_read r ∷ rs) (sym (drop-map K.as_read (n + 1) zs))

    pub none_left : (zs : List R) (n : ℕ) → length zs ≤ n → drop n (map K.as_read zs) ≡ []
    none_left zs n all = drop-map K.as_read n zs ∙ ap (map K.as_read) (drop_all n zs all)

    pub before_none : (k : DataHash) (rs : List R) → rs ≡ [] → IsBefore K k rs
    before_none k rs none = subst (IsBefore K k) (sym none) tt

    pub before_first : (k : DataHash) (r : R) (rs ss : List R) → rs ≡ r ∷ ss → hash_cmp k (key_of_record K r) ≡ Less → IsBefore K k rs
    before_first k r rs ss is less = subst (IsBefore K k) (sym is) less

    kept_as : (made r : R) (ps qs us vs : List R) → made ≡ r → KeepsNext K makes ps qs (K.as_read r) us vs → KeepsNext K makes ps qs (K.as_read made) us vs
    kept_as made r ps qs us vs same keeps = subst (λ t. KeepsNext K makes ps qs (K.as_read t) us vs) (sym same) keeps

    module _ (one : R) (one_is : one ≡ get_or xs i one) (some_1 : i < length xs) where
      pub first_alone : length ys ≤ j → (made : R) → made ≡ one → KeepsNext K makes (first_left i) (second_left j) (K.as_read made) (first_left (i + 1)) (second_left j)
      first_alone all made same = kept_as made one (first_left i) (second_left j) (first_left (i + 1)) (second_left j) same (takes_first (left_at xs i one one_is some_1) refl (before_none (key_of_record K (K.as_read one)) (second_left j) (none_left ys j all)))

      module _ (other : R) (other_is : other ≡ get_or ys j other) (some_2 : j < length ys) where
        pub first_less : hash_cmp (key_of_record K one) (key_of_record K other) ≡ Less → (made : R) → made ≡ one
            → KeepsNext K makes (first_left i) (second_left j) (K.as_read made) (first_left (i + 1)) (second_left j)
        first_less less made same = kept_as made one (first_left i) (second_left j) (first_left (i + 1)) (second_left j) same (takes_first (left_at xs i one one_is some_1) refl
            (before_first (key_of_record K (K.as_read one)) (K.as_read other) (second_left j) (second_left (j + 1)) (left_at ys j other other_is some_2)
            ((λ t. hash_cmp (key_read one t) (key_read other t)) ∙ less)))

        pub second_less : hash_cmp (key_of_record K one) (key_of_record K other) ≡ Greater → (made : R) → made ≡ other
            → KeepsNext K makes (first_left i) (second_left j) (K.as_read made) (first_left i) (second_left (j + 1))
        second_less greater made same = kept_as made other (first_left i) (second_left j) (first_left i) (second_left (j + 1)) same (takes_second (left_at ys j other other_is some_2) refl
            (before_first (key_of_record K (K.as_read other)) (K.as_read one) (first_left i) (first_left (i + 1)) (left_at xs i one one_is some_1)
            ((λ t. hash_cmp (key_read other t) (key_read one t)) ∙ hash_cmp-IsTotalOrder.antisymm (key_of_record K other) (key_of_record K one) ∙ ap ordering_reverse greater)))

        same_read : key_of_record K one ≡ key_of_record K other → key_of_record K (K.as_read one) ≡ key_of_record K (K.as_read other)
        same_read same = key_read one ∙ same ∙ sym (key_read other)

        pub both_next : key_of_record K one ≡ key_of_record K other → (made : R) → MakesRecord K makes one other made
            → KeepsNext K makes (first_left i) (second_left j) (K.as_read made) (first_left (i + 1)) (second_left (j + 1))
        both_next same made (hash, is_made) = takes_both (K.as_read one) (K.as_read other) (left_at xs i one one_is some_1) (left_at ys j other other_is some_2) (same_read same)
            (key_read made ∙ hash ∙ sym (key_read one)) is_made

        pub both_none : key_of_record K one ≡ key_of_record K other → MakesNone K makes one other → KeepsNone K makes (first_left i) (second_left j)
        both_none same never = record {
          one = K.as_read one;
          other = K.as_read other;
          ones = first_left (i + 1);
          others = second_left (j + 1);
          first_is = left_at xs i one one_is some_1;
          second_is = left_at ys j other other_is some_2;
          same = same_read same;
          never = never;
        }

    pub second_alone : (other : R) → other ≡ get_or ys j other → j < length ys → length xs ≤ i → (made : R) → made ≡ other
        → KeepsNext K makes (first_left i) (second_left j) (K.as_read made) (first_left i) (second_left (j + 1))
    second_alone other other_is some_2 all made same = kept_as made other (first_left i) (second_left j) (first_left i) (second_left (j + 1)) same
        (takes_second (left_at ys j other other_is some_2) refl (before_none (key_of_record K (K.as_read other)) (first_left i) (none_left xs i all)))

  -- a record more, as reading returns it
  pub pushed_read : (made : List R) (r : R) → map K.as_read (made ++ r ∷ []) ≡ map K.as_read made ++ K.as_read r ∷ []
  pushed_read made r = map-append K.as_read made (r ∷ [])
