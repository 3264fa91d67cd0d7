-- Records of which nothing can be made, at the front of two sections: the sections have no union.
use Rattle.std.proofs.Common.{◌≡◌, ◌⊎◌, inl, inr, ℕ, zero, suc, ◌+◌, ◌<◌, ◌≤◌, List, [], ◌∷◌, ◌++◌, length, map, flat_map, drop, get_or, append_assoc, Option, None, Some, IfSome, refl, sym, ap, ◌∙◌, subst, arith}
use Rattle.std.specs.Prelude.{All, Contains, option_to_list}
use Rattle.std.specs.FinMap.{FinMap, get, values}
use Rattle.std.specs.List.{AllByRecursion}
use Rattle.std.specs.List.Sorted.{IsStrictlySortedBy}
use Rattle.std.specs.declared.cmp.Ordering.TheVariants.{Less}
use Rattle.std.proofs.lemmas.Grind.{flat_map-append}
use Rattle.std.proofs.lemmas.List.{map-append}
use Rattle.std.proofs.lemmas.List.Elements.{All-drop}
use Rattle.std.proofs.lemmas.List.Sums.{sum_by-append, sum_by-cons}
use Rattle.std.proofs.lemmas.Option.{none-some}
use Rattle.xet_base.specs.declared.merklehash.DataHash.{DataHash}
use Rattle.xet_base.specs.Hash.{hash_cmp}
use Rattle.xet_base.proofs.HashOrder.{hash_cmp-IsTotalOrder, hash_cmp-IsAntisymmetric}
use Rattle.xet_records.specs.declared.record_reader.FormatVersion.{FormatVersion}
use Rattle.xet_records.specs.RecordKind.{RecordKind, in_version, KindLaws}
use Rattle.xet_records.proofs.RecordKinds.{laws_in, stored_ever, bookend_or_header, same_front, stored_begins}
use Rattle.xet_shards.specs.Write.WithOptions.{Ascends}
use Rattle.xet_shards.specs.Write.Section.{total_rows}
use Rattle.xet_shards.specs.Read.SectionReading.{HoldsRecords}
use Rattle.xet_shards.proofs.Read.SectionUnique.{first_of_section}
use Rattle.xet_shards.proofs.ShardInMemory.Sums.{sub-sum}
use Rattle.xet_core_structures.specs.TwoShards.ByteResults.{HaveNoUnionOf}
use Rattle.xet_core_structures.specs.Records.RecordPairs.{key_of_record, with_hash, Combines, IsMadeOf, rows_in}
use Rattle.xet_core_structures.specs.Steps.RecordPairsSteps.{IsRest}
use Rattle.xet_core_structures.specs.Records.ShardContents.{IsSectionOf}
use Rattle.xet_core_structures.specs.Steps.MergeJoin.{CannotMake, GoesOnAfter, CannotCombine}
use Rattle.xet_core_structures.specs.Steps.MergeJoin.CannotMake.{nothing_made, too_many_rows}
use Rattle.xet_core_structures.proofs.Records.RecordPairs.{ComeAfter, IsUnder, hash_under, after_earlier, same_before, more_combined, up_to}
use Rattle.xet_core_structures.proofs.Records.ShardContents.{hashes_handed, rows_handed, section_ascends, sorted_front, one_map}
use Rattle.xet_core_structures.proofs.Records.ListMaps.{list_map, values-list_map, get-list_map, with_hash_of, section_of_list, combined_maps}

-- the last of a list
last_in : {X : Type 0} (xs : List X) (x : X) → Contains (xs ++ x ∷ []) x
last_in [] x = (0, omega arith, refl)
last_in (y ∷ xs) x = let found = last_in xs x in (suc found.0, omega (arith, found.1), found.2)

-- a member of a mapped list is made of a member of the list
pub mapped_at : {X : Type 0} (f : X → X) (xs : List X) (i : ℕ) (y : X) → i < length (map f xs) → get_or (map f xs) i y ≡ y → (x : X) × Contains xs x × (f x ≡ y)
mapped_at f [] i y low at = absurd (omega (arith, low))
mapped_at f (x ∷ xs) zero y low at = (x, (0, omega arith, refl), at)
mapped_at f (x ∷ xs) (suc i) y low at =
    let found = mapped_at f xs i y (omega (arith, low)) at in
    (found.0, (suc found.1.0, omega (arith, found.1.1), found.1.2), found.2)

-- bytes after the same others
same_rest : (xs a b : List ℕ) → xs ++ a ≡ xs ++ b → a ≡ b
same_rest [] a b same = same
same_rest (x ∷ xs) a b same = same_rest xs a b (ap (drop 1) same)

-- what holds of each element of a list holds of those of its end
rest_all : {X : Type 0} (P : X → Type 0) (xs ys : List X) → All P (xs ++ ys) → All P ys
rest_all P [] ys all = all
rest_all P (x ∷ xs) ys all = rest_all P xs ys (All-drop P 1 (x ∷ xs ++ ys) all)

module _ {H R : Type 0} (K : RecordKind H R) (laws : KindLaws K) where
  tail_after : (k : DataHash) (z : R) (zs : List R) → Ascends K (z ∷ zs) → hash_cmp k (key_of_record K z) ≡ Less → ComeAfter K k (z ∷ zs)
  unfolding IsStrictlySortedBy
  tail_after k z zs ascends less = (less, all_after zs ascends.0) where
    all_after : (rs : List R) → AllByRecursion (λ q. hash_cmp (key_of_record K z) q ≡ Less) (map (key_of_record K) rs) → ComeAfter K k rs
    all_after [] all = tt
    all_after (r ∷ rs) all = (hash_cmp-IsTotalOrder.trans k (key_of_record K z) (key_of_record K r) less all.0, all_after rs all.1)

  ascends_back : (xs ys : List R) → Ascends K (xs ++ ys) → Ascends K ys
  unfolding IsStrictlySortedBy
  ascends_back [] ys ascends = ascends
  ascends_back (x ∷ xs) ys ascends = ascends_back xs ys ascends.1

  -- what comes after a record of an ascending list
  after_last : (xs : List R) (r : R) (ys : List R) → Ascends K ((xs ++ r ∷ []) ++ ys) → ComeAfter K (key_of_record K r) ys
  unfolding IsStrictlySortedBy
  after_last [] r ys ascends = all_after ys ascends.0 where
    all_after : (rs : List R) → AllByRecursion (λ q. hash_cmp (key_of_record K r) q ≡ Less) (map (key_of_record K) rs) → ComeAfter K (key_of_record K r) rs
    all_after [] all = tt
    all_after (s ∷ rs) all = (all.0, all_after rs all.1)
  after_last (x ∷ xs) r ys ascends = after_last xs r ys ascends.1

  -- one of two sections that begin with such records
  module _ (version : FormatVersion) (bytes : List ℕ) (stored : List R) (rest : List ℕ) (found : List R) (one : Option R) (k : DataHash) (held : HoldsRecords (in_version K version) bytes stored rest)
      (returned : map K.as_read stored ≡ found ++ option_to_list one) (one_hash : IfSome one (λ r. key_of_record K r ≡ k)) (next : one ≡ None → GoesOnAfter K k rest)
      (a : FinMap hash_cmp R) (is : IsSectionOf (in_version K version) bytes a) where
    whole : (zs : List R) × (is.stored ≡ stored ++ zs)
    whole = first_of_section (in_version K version) (laws_in K laws version) bytes stored is.stored rest held is.section

    abbrev more : List R
    more = map K.as_read whole.0

    all_records : map K.as_read is.stored ≡ (found ++ option_to_list one) ++ more
    all_records = ap (map K.as_read) whole.1 ∙ map-append K.as_read stored whole.0 ∙ ap (λ rs. rs ++ more) returned

    all_ascend : Ascends K ((found ++ option_to_list one) ++ more)
    all_ascend = subst (Ascends K) all_records (subst (IsStrictlySortedBy hash_cmp) (sym (hashes_handed K laws is.stored)) (section_ascends (in_version K version) (laws_in K laws version) bytes a is))

    front_ascends : Ascends K (found ++ option_to_list one)
    front_ascends = front (found ++ option_to_list one) more all_ascend where
      front : (xs ys : List R) → Ascends K (xs ++ ys) → Ascends K xs
      front xs ys ascends = sorted_front hash_cmp (map (key_of_record K) xs) (map (key_of_record K) ys) (subst (IsStrictlySortedBy hash_cmp) (map-append (key_of_record K) xs ys) ascends)

    rest_is : rest ≡ flat_map K.record_bytes whole.0 ++ is.section.rest
    rest_is = same_rest (flat_map K.record_bytes stored) rest (flat_map K.record_bytes whole.0 ++ is.section.rest)
        (sym held.bytes_are ∙ is.section.records.bytes_are ∙ ap (λ rs. flat_map K.record_bytes rs ++ is.section.rest) whole.1
        ∙ ap (λ bs. bs ++ is.section.rest) (flat_map-append K.record_bytes stored whole.0) ∙ append_assoc (flat_map K.record_bytes stored) (flat_map K.record_bytes whole.0) is.section.rest)

    -- the hashes after them are greater
    more_after : ComeAfter K k more
    more_after = at one one_hash next all_ascend where
      none_later : (zs : List R) → All (in_version K version).IsStored zs → rest ≡ flat_map K.record_bytes zs ++ is.section.rest → GoesOnAfter K k rest → Ascends K ((found ++ []) ++ map K.as_read zs) → ComeAfter K k (map K.as_read zs)
      none_later [] stored_zs bytes_are goes ascends = tt
      none_later (z ∷ zs) stored_zs bytes_are (inl bookend) ascends =
          absurd (bookend_or_header K laws rest (K.header_of z) _ bookend
          (stored_begins K laws rest z _ (stored_ever K version z (stored_zs 0 z (omega arith))) (bytes_are ∙ append_assoc (K.record_bytes z) (flat_map K.record_bytes zs) is.section.rest)))
      none_later (z ∷ zs) stored_zs bytes_are (inr (h, after, begins, less)) ascends =
          let z_begins = stored_begins K laws rest z _ (stored_ever K version z (stored_zs 0 z (omega arith))) (bytes_are ∙ append_assoc (K.record_bytes z) (flat_map K.record_bytes zs) is.section.rest) in
          let same = same_front K laws rest (K.header_of z) h _ after z_begins.widths z_begins.bytes_are begins in
          tail_after k (K.as_read z) (map K.as_read zs) (ascends_back (found ++ []) (map K.as_read (z ∷ zs)) ascends)
          (subst (λ (g : H). hash_cmp k (K.hash_of g) ≡ Less) (same.0 ∙ sym (laws.same_header z)) less)

      at : (o : Option R) → IfSome o (λ r. key_of_record K r ≡ k) → (o ≡ None → GoesOnAfter K k rest) → Ascends K ((found ++ option_to_list o) ++ more) → ComeAfter K k more
      at None hash goes ascends = none_later whole.0 (rest_all (in_version K version).IsStored stored whole.0 (subst (All (in_version K version).IsStored) whole.1 is.section.records.are_stored)) rest_is (goes refl) ascends
      at (Some r) hash goes ascends = subst (λ j. ComeAfter K j more) hash (after_last found r more ascends)

    -- so the map has at each hash up to theirs what they have
    get_up_to : (q : DataHash) → (hash_cmp q k ≡ Less) ⊎ (q ≡ k) → get a q ≡ with_hash K (found ++ option_to_list one) q
    get_up_to q below =
        ap (λ m. get m q) (one_map (in_version K version) (laws_in K laws version) bytes (list_map K _) (section_of_list (in_version K version) _ all_ascend bytes is.stored is.section all_records) a is)
        ∙ get-list_map K ((found ++ option_to_list one) ++ more) all_ascend q ∙ same_before K q (found ++ option_to_list one) more (after q below)
      where
        after : (q : DataHash) → (hash_cmp q k ≡ Less) ⊎ (q ≡ k) → ComeAfter K q more
        after q (inl less) = after_earlier K k q more less more_after
        after q (inr same) = subst (λ j. ComeAfter K j more) (sym same) more_after

  rows_front : (stored found : List R) (one : Option R) → map K.as_read stored ≡ found ++ option_to_list one → total_rows K stored ≡ total_rows K found + rows_in K one
  rows_front stored found one returned = omega (arith, rows_handed K laws stored, ap (total_rows K) returned, sum_by-append K.row_count found (option_to_list one), one_row one) where
    one_row : (o : Option R) → total_rows K (option_to_list o) ≡ rows_in K o
    one_row None = refl
    one_row (Some r) = omega (arith, sum_by-cons K.row_count r [])

  last_of : (stored found : List R) (one : Option R) (r : R) → map K.as_read stored ≡ found ++ option_to_list one → one ≡ Some r → (s : R) × Contains stored s × (K.as_read s ≡ r)
  last_of stored found one r returned is =
      let has = subst (λ rs. Contains rs r) (ap (λ o. found ++ option_to_list o) (sym is) ∙ sym returned) (last_in found r) in
      mapped_at K.as_read stored has.0 r has.1 has.2

  module _ (v w : FormatVersion) (makes : Option R → Option R → Option R → Type 0) (unique : (o p a b : Option R) → makes o p a → makes o p b → a ≡ b) (x y : List ℕ) (none : CannotCombine K v w makes x y) where
    at_first : (a : FinMap hash_cmp R) → IsSectionOf (in_version K v) x a → (q : DataHash) → (hash_cmp q none.hash ≡ Less) ⊎ (q ≡ none.hash) → get a q ≡ with_hash K (none.firsts ++ option_to_list none.one) q
    at_first a a_is = get_up_to v x none.stored_1 none.rest_1 none.firsts none.one none.hash none.holds_1 none.first_is none.one_hash none.next_1 a a_is

    at_second : (b : FinMap hash_cmp R) → IsSectionOf (in_version K w) y b → (q : DataHash) → (hash_cmp q none.hash ≡ Less) ⊎ (q ≡ none.hash) → get b q ≡ with_hash K (none.seconds ++ option_to_list none.other) q
    at_second b b_is = get_up_to w y none.stored_2 none.rest_2 none.seconds none.other none.hash none.holds_2 none.second_is none.other_hash none.next_2 b b_is

    -- what is made of both is under their hash
    made_under : (z : R) (o p : Option R) → IfSome o (λ r. key_of_record K r ≡ none.hash) → IfSome p (λ r. key_of_record K r ≡ none.hash) → IsMadeOf K o p z → IsUnder K none.hash (Some z)
    made_under z (Some r) p first second made = (made.hash r (inl refl) ∙ first, made.stored)
    made_under z None (Some s) first second made = (made.hash s (inr refl) ∙ second, made.stored)
    made_under z None None first second made = absurd (omega (arith, made.rows, some_rows z made.stored)) where
      some_rows : (r : R) → K.IsStored r → 1 ≤ K.row_count r
      some_rows r stored = omega (arith, laws.rows r stored)

    -- sections of maps with a union within the rows of a section do not begin so
    module _ (a b c : FinMap hash_cmp R) (a_is : IsSectionOf (in_version K v) x a) (b_is : IsSectionOf (in_version K w) y b) (each : (q : DataHash) → makes (get a q) (get b q) (get c q)) where
      here : (q : DataHash) → (hash_cmp q none.hash ≡ Less) ⊎ (q ≡ none.hash)
          → makes (with_hash K (none.firsts ++ option_to_list none.one) q) (with_hash K (none.seconds ++ option_to_list none.other) q) (get c q)
      here q below = subst (λ p. p) (λ i. makes (at_first a a_is q below i) (at_second b b_is q below i) (get c q)) (each q)

      the_last : (found : List R) (one : Option R) (r : R) → one ≡ Some r → Ascends K (found ++ option_to_list one) → key_of_record K r ≡ none.hash → with_hash K (found ++ option_to_list one) none.hash ≡ Some r
      the_last found one r is ascends same =
          ap (with_hash K (found ++ option_to_list one)) (sym same)
          ∙ with_hash_of K (found ++ option_to_list one) r ascends (subst (λ o. Contains (found ++ option_to_list o) r) (sym is) (last_in found r))

      not_both : (r s : R) → none.one ≡ Some r → none.other ≡ Some s → ¬ ((made : Option R) → ¬ makes (Some r) (Some s) made)
      not_both r s one other never =
          let first = the_last none.firsts none.one r one (front_ascends v x none.stored_1 none.rest_1 none.firsts none.one none.hash none.holds_1 none.first_is none.one_hash none.next_1 a a_is)
          (subst (λ o. IfSome o (λ t. key_of_record K t ≡ none.hash)) one none.one_hash) in
          let second = the_last none.seconds none.other s other (front_ascends w y none.stored_2 none.rest_2 none.seconds none.other none.hash none.holds_2 none.second_is none.other_hash none.next_2 b b_is)
          (subst (λ o. IfSome o (λ t. key_of_record K t ≡ none.hash)) other none.other_hash) in
          never (get c none.hash) (subst (λ p. p) (λ i. makes (first i) (second i) (get c none.hash)) (here none.hash (inr refl)))

      not_within : (z : R) → makes none.one none.other (Some z) → IsMadeOf K none.one none.other z → 4294967295 < total_rows K none.made + K.row_count z → ¬ (total_rows K (values c) ≤ 4294967295)
      not_within z is_made made_of many fits =
          let z_under = made_under z none.one none.other none.one_hash none.other_hash made_of in
          let zs = none.made ++ z ∷ [] in
          let whole = more_combined K makes none.hash none.one none.other (Some z) none.one_hash none.other_hash z_under is_made none.firsts none.seconds none.made none.passed none.combined in
          let fewer = sub-sum hash_cmp-IsTotalOrder hash_cmp-IsAntisymmetric K.row_count (list_map K zs) c (λ q v at.
          let found = sym (get-list_map K zs whole.ascends q) ∙ at in
          unique _ _ (get c q) (with_hash K zs q) (here q (up_to K none.hash none.made (Some z) none.passed.combined (hash_under K none.hash (Some z) z_under) q v found)) (whole.each q) ∙ found) in
          omega (arith, many, fits, fewer, ap (total_rows K) (values-list_map K zs whole.ascends), sum_by-append K.row_count none.made (z ∷ []), sum_by-cons K.row_count z [])

    pub no_union : HaveNoUnionOf K v w makes x y
    no_union = record {
      firsts = none.stored_1;
      seconds = none.stored_2;
      after_firsts = none.rest_1;
      after_seconds = none.rest_2;
      first = none.holds_1;
      second = none.holds_2;
      clash = clash none.cannot;
      none = no_such none.cannot;
    } where
      clash : CannotMake K makes (total_rows K none.made) none.one none.other
          → ((made : List R) × Combines K makes (map K.as_read none.stored_1) (map K.as_read none.stored_2) made × (4294967295 < total_rows K made))
          ⊎ ((r s : R) × Contains none.stored_1 r × Contains none.stored_2 s × (K.hash_of (K.header_of r) ≡ K.hash_of (K.header_of s))
          × ((t : Option R) → ¬ makes (Some (K.as_read r)) (Some (K.as_read s)) t))
      clash (nothing_made r s one other never) =
          let first = last_of none.stored_1 none.firsts none.one r none.first_is one in
          let second = last_of none.stored_2 none.seconds none.other s none.second_is other in
          inr (
            first.0,
            second.0,
            first.1,
            second.1,
            ap K.hash_of (sym (laws.same_header first.0)) ∙ ap (key_of_record K) first.2 ∙ subst (λ o. IfSome o (λ t. key_of_record K t ≡ none.hash)) one none.one_hash
                ∙ sym (ap K.hash_of (sym (laws.same_header second.0)) ∙ ap (key_of_record K) second.2 ∙ subst (λ o. IfSome o (λ t. key_of_record K t ≡ none.hash)) other none.other_hash),
            λ t either. never t (subst (λ p. p) (λ i. makes (Some (first.2 i)) (Some (second.2 i)) t) either),
          )
      clash (too_many_rows z is_made made_of many) =
          let whole = more_combined K makes none.hash none.one none.other (Some z) none.one_hash none.other_hash (made_under z none.one none.other none.one_hash none.other_hash made_of) is_made
          none.firsts none.seconds none.made none.passed none.combined in
          inl (
            none.made ++ z ∷ [],
            subst (λ p. p) (λ i. Combines K makes (sym none.first_is i) (sym none.second_is i) (none.made ++ z ∷ [])) whole,
            omega (arith, many, sum_by-append K.row_count none.made (z ∷ []), sum_by-cons K.row_count z []),
          )

      no_such : CannotMake K makes (total_rows K none.made) none.one none.other → (a b c : FinMap hash_cmp R) → IsSectionOf (in_version K v) x a → IsSectionOf (in_version K w) y b
          → ((q : DataHash) → makes (get a q) (get b q) (get c q)) → ¬ (total_rows K (values c) ≤ 4294967295)
      no_such (nothing_made r s one other never) a b c a_is b_is each fits = not_both a b c a_is b_is each r s one other never
      no_such (too_many_rows z is_made made_of many) a b c a_is b_is each fits = not_within a b c a_is b_is each z is_made made_of many fits

  -- the rest of a list has no more rows, so there is always a difference
  from_second : (o p c : Option R) (v : R) → IsRest o p c → c ≡ Some v → p ≡ Some v
  from_second None p c v rest at = sym rest ∙ at
  from_second (Some x) p c v rest at = absurd (none-some v (sym rest ∙ at))

  rest_rows : (xs ys zs : List R) → Ascends K xs → Ascends K ys → Combines K IsRest xs ys zs → total_rows K zs ≤ total_rows K ys
  rest_rows xs ys zs x_ascends y_ascends combines =
      let fewer = sub-sum hash_cmp-IsTotalOrder hash_cmp-IsAntisymmetric K.row_count (list_map K zs) (list_map K ys) (λ q v at.
      from_second (get (list_map K xs) q) (get (list_map K ys) q) (get (list_map K zs) q) v (combined_maps K IsRest xs ys zs x_ascends y_ascends combines q) at) in
      omega (arith, fewer, ap (total_rows K) (values-list_map K zs combines.ascends), ap (total_rows K) (values-list_map K ys y_ascends))

  pub always_rest : (v w : FormatVersion) (x y : List ℕ) → ¬ CannotCombine K v w IsRest x y
  always_rest v w x y none = never none.cannot where
    never : CannotMake K IsRest (total_rows K none.made) none.one none.other → ⊥
    never (nothing_made r s one other not_made) = not_made None refl
    never (too_many_rows z is_made made_of many) = omega (
      arith,
      many,
      none.holds_2.rows,
      rows_front none.stored_2 none.seconds none.other none.second_is,
      rest_rows none.firsts none.seconds none.made none.first_ascends none.second_ascends none.combined,
      ap (rows_in K) (from_second none.one none.other (Some z) z is_made refl),
    )
