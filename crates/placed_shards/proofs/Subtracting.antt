-- The turns of the loop that takes the records of one list away from another.
use Rattle.std.proofs.Common.{◌≡◌, ◌⊎◌, inl, inr, ℕ, ◌+◌, ◌<◌, ◌≤◌, List, [], ◌∷◌, ◌++◌, length, drop, map, get_or, Option, None, Some, refl, sym, ap, ◌∙◌, subst, arith, append-nil, append_assoc}
use Rattle.std.specs.Prelude.{option_to_list}
use Rattle.std.specs.Ordering.{ordering_reverse}
use Rattle.std.specs.declared.cmp.Ordering.TheVariants.{Less, Greater}
use Rattle.std.proofs.lemmas.List.Sums.{sum_by-append, sum_by-cons}
use Rattle.xet_base.specs.declared.merklehash.DataHash.{DataHash}
use Rattle.xet_base.specs.Hash.{hash_cmp}
use Rattle.xet_base.proofs.HashOrder.{hash_cmp-IsTotalOrder}
use Rattle.xet_records.specs.RecordKind.{RecordKind, KindLaws}
use Rattle.xet_shards.specs.Write.WithOptions.{Ascends}
use Rattle.xet_shards.specs.Write.Section.{total_rows}
use Rattle.xet_core_structures.specs.Records.RecordPairs.{key_of_record, Combines}
use Rattle.xet_core_structures.proofs.Records.RecordPairs.{ComesLater, HasHash, IsUnder, AreCombinedBefore, combined_start, next_passed, combined_on}
use Rattle.placed_shards.specs.Sets.{IsLeft}
use Rattle.placed_shards.specs.Steps.SetsSteps.{IsBefore, Passes}
use Rattle.placed_shards.specs.Steps.SetsSteps.Passes.{passes_first, passes_second, passes_both}
use Rattle.placed_shards.proofs.Uniting.{next_header, after_first, ascends_rest, is_later, later_from, key_read, left_at, none_left, before_none, before_first}

module _ {H R : Type 0} (K : RecordKind H R) where
  -- the front of one list is taken away from that of the other, and these are left to be read
  pub record IsSubtracting (xs ys ps qs left : List R) : Type 0 where
    before_1 : List R
    before_2 : List R
    first_is : xs ≡ before_1 ++ ps
    second_is : ys ≡ before_2 ++ qs
    ascends_1 : Ascends K ps
    ascends_2 : Ascends K qs
    fronts : AreCombinedBefore K IsLeft before_1 before_2 left (next_header K ps) (next_header K qs)
    rows : total_rows K left + total_rows K qs ≤ total_rows K ys

module _ {H R : Type 0} (K : RecordKind H R) (laws : KindLaws K) where
  pub subtracting_start : (xs ys : List R) → Ascends K xs → Ascends K ys → IsSubtracting K xs ys xs ys []
  subtracting_start xs ys first second = record {
    before_1 = [];
    before_2 = [];
    first_is = refl;
    second_is = refl;
    ascends_1 = first;
    ascends_2 = second;
    fronts = combined_start K IsLeft refl (next_header K xs) (next_header K ys);
    rows = omega arith;
  }

  module _ (xs ys ps qs left : List R) (so_far : IsSubtracting K xs ys ps qs left) where
    -- one hash more
    module _ (k : DataHash) (one other kept : Option R) (ps' qs' : List R) (h : H) (first : ps ≡ option_to_list one ++ ps') (second : qs ≡ option_to_list other ++ qs')
        (one_hash : HasHash K k one) (other_hash : HasHash K k other) (kept_under : IsUnder K k kept) (is_left : IsLeft one other kept) (next : (next_header K ps ≡ Some h) ⊎ (next_header K qs ≡ Some h)) (hash : K.hash_of h ≡ k)
        (ascends_1 : Ascends K ps') (ascends_2 : Ascends K qs') (later_1 : ComesLater K k (next_header K ps')) (later_2 : ComesLater K k (next_header K qs'))
        (rows : total_rows K (left ++ option_to_list kept) + total_rows K qs' ≤ total_rows K ys) where
      one_more : IsSubtracting K xs ys ps' qs' (left ++ option_to_list kept)
      one_more = record {
        before_1 = so_far.before_1 ++ option_to_list one;
        before_2 = so_far.before_2 ++ option_to_list other;
        first_is = so_far.first_is ∙ ap (λ rs. so_far.before_1 ++ rs) first ∙ sym (append_assoc so_far.before_1 (option_to_list one) ps');
        second_is = so_far.second_is ∙ ap (λ rs. so_far.before_2 ++ rs) second ∙ sym (append_assoc so_far.before_2 (option_to_list other) qs');
        ascends_1 = ascends_1;
        ascends_2 = ascends_2;
        fronts = combined_on K IsLeft k one other kept one_hash other_hash kept_under is_left so_far.before_1 so_far.before_2 left
            (next_passed K IsLeft so_far.before_1 so_far.before_2 left (next_header K ps) (next_header K qs) so_far.fronts k h next hash)
            (next_header K ps) (next_header K qs) (next_header K ps') (next_header K qs') so_far.fronts later_1 later_2;
        rows = rows;
      }

    abbrev pub IsStoredIf : Option R → Type 0
    IsStoredIf None = Unit {0}
    IsStoredIf (Some r) = K.IsStored r

    pub subtracting_on : (kept : Option R) (ps' qs' : List R) → IsStoredIf kept → Passes K ps qs kept ps' qs' → IsSubtracting K xs ys ps' qs' (left ++ option_to_list kept)
    subtracting_on kept ps' qs' stored (passes_first g ps_is qs_is before none) =
        let ascends = subst (Ascends K) ps_is so_far.ascends_1 in
        subst (λ o. IsSubtracting K xs ys ps' qs' (left ++ option_to_list o)) (sym none)
        (one_more (key_of_record K g) (Some g) None None ps' qs' (K.header_of g) ps_is qs_is refl tt tt refl (inl (ap (next_header K) ps_is)) refl
        (ascends_rest K laws g ps' ascends) (subst (Ascends K) qs_is so_far.ascends_2) (after_first K laws g ps' ascends) (is_later K laws (key_of_record K g) qs qs' qs_is before)
        (omega (arith, so_far.rows, ap (total_rows K) (append-nil left), ap (total_rows K) qs_is)))
    subtracting_on kept ps' qs' stored (passes_second h qs_is ps_is before some) =
        let ascends = subst (Ascends K) qs_is so_far.ascends_2 in
        subst (λ o. IsSubtracting K xs ys ps' qs' (left ++ option_to_list o)) (sym some)
        (one_more (key_of_record K h) None (Some h) (Some h) ps' qs' (K.header_of h) ps_is qs_is tt refl (refl, subst IsStoredIf some stored) refl (inr (ap (next_header K) qs_is)) refl
        (subst (Ascends K) ps_is so_far.ascends_1) (ascends_rest K laws h qs' ascends) (is_later K laws (key_of_record K h) ps ps' ps_is before) (after_first K laws h qs' ascends)
        (omega (arith, so_far.rows, sum_by-append K.row_count left (h ∷ []), sum_by-cons K.row_count h [], ap (total_rows K) qs_is, sum_by-cons K.row_count h qs')))
    subtracting_on kept ps' qs' stored (passes_both g h ps_is qs_is same none) =
        let ascends_1 = subst (Ascends K) ps_is so_far.ascends_1 in
        let ascends_2 = subst (Ascends K) qs_is so_far.ascends_2 in
        subst (λ o. IsSubtracting K xs ys ps' qs' (left ++ option_to_list o)) (sym none)
        (one_more (key_of_record K g) (Some g) (Some h) None ps' qs' (K.header_of g) ps_is qs_is refl (sym same) tt refl (inl (ap (next_header K) ps_is)) refl
        (ascends_rest K laws g ps' ascends_1) (ascends_rest K laws h qs' ascends_2) (after_first K laws g ps' ascends_1)
        (later_from K laws (key_of_record K h) (key_of_record K g) qs' (sym same) (after_first K laws h qs' ascends_2))
        (omega (arith, so_far.rows, ap (total_rows K) (append-nil left), ap (total_rows K) qs_is, sum_by-cons K.row_count h qs')))

    -- nothing is left to be read
    pub subtracting_ends : ps ≡ [] → qs ≡ [] → Combines K IsLeft xs ys left × (total_rows K left ≤ total_rows K ys)
    subtracting_ends ps_none qs_none =
        let xs_are : so_far.before_1 ≡ xs = sym (so_far.first_is ∙ ap (λ rs. so_far.before_1 ++ rs) ps_none ∙ append-nil so_far.before_1) in
        let ys_are : so_far.before_2 ≡ ys = sym (so_far.second_is ∙ ap (λ rs. so_far.before_2 ++ rs) qs_none ∙ append-nil so_far.before_2) in
        (subst (λ p. p) (λ i. Combines K IsLeft (xs_are i) (ys_are i) left) so_far.fronts.combined, omega (arith, so_far.rows))

  -- which record is passed
  module _ (xs ys : List R) (i j : ℕ) where
    abbrev firsts : ℕ → List R
    firsts n = drop n (map K.as_read xs)

    abbrev seconds : ℕ → List R
    seconds n = drop n (map K.as_read ys)

    abbrev nothing : Option R → Option R → Option R → Type 0
    nothing a b c = Unit {0}

    at_first : (one : R) → one ≡ get_or xs i one → i < length xs → firsts i ≡ K.as_read one ∷ firsts (i + 1)
    at_first one is some = left_at K laws nothing xs ys i j xs i one is some

    at_second : (other : R) → other ≡ get_or ys j other → j < length ys → seconds j ≡ K.as_read other ∷ seconds (j + 1)
    at_second other is some = left_at K laws nothing xs ys i j ys j other is some

    before_seconds : (k : DataHash) → length ys ≤ j → IsBefore K k (seconds j)
    before_seconds k all = before_none K laws nothing xs ys i j k (seconds j) (none_left K laws nothing xs ys i j ys j all)

    before_firsts : (k : DataHash) → length xs ≤ i → IsBefore K k (firsts i)
    before_firsts k all = before_none K laws nothing xs ys i j k (firsts i) (none_left K laws nothing xs ys i j xs i all)

    key_as : (r : R) → key_of_record K (K.as_read r) ≡ key_of_record K r
    key_as r = key_read K laws nothing xs ys i j r

    pub leaves_last : (other : R) → other ≡ get_or ys j other → j < length ys → length xs ≤ i → (made : R) → made ≡ other → Passes K (firsts i) (seconds j) (Some (K.as_read made)) (firsts i) (seconds (j + 1))
    leaves_last other is some all made same =
        passes_second (K.as_read other) (at_second other is some) refl (before_firsts (key_of_record K (K.as_read other)) all) (ap (λ r. Some (K.as_read r)) same)

    module _ (one : R) (one_is : one ≡ get_or xs i one) (some_1 : i < length xs) where
      pub drops_last : length ys ≤ j → Passes K (firsts i) (seconds j) None (firsts (i + 1)) (seconds j)
      drops_last all = passes_first (K.as_read one) (at_first one one_is some_1) refl (before_seconds (key_of_record K (K.as_read one)) all) refl

      module _ (other : R) (other_is : other ≡ get_or ys j other) (some_2 : j < length ys) where
        pub drops_less : hash_cmp (key_of_record K one) (key_of_record K other) ≡ Less → Passes K (firsts i) (seconds j) None (firsts (i + 1)) (seconds j)
        drops_less less = passes_first (K.as_read one) (at_first one one_is some_1) refl
            (before_first K laws nothing xs ys i j (key_of_record K (K.as_read one)) (K.as_read other) (seconds j) (seconds (j + 1)) (at_second other other_is some_2) ((λ t. hash_cmp (key_as one t) (key_as other t)) ∙ less)) refl

        pub leaves_greater : hash_cmp (key_of_record K one) (key_of_record K other) ≡ Greater → (made : R) → made ≡ other
            → Passes K (firsts i) (seconds j) (Some (K.as_read made)) (firsts i) (seconds (j + 1))
        leaves_greater greater made same = passes_second (K.as_read other) (at_second other other_is some_2) refl
            (before_first K laws nothing xs ys i j (key_of_record K (K.as_read other)) (K.as_read one) (firsts i) (firsts (i + 1)) (at_first one one_is some_1)
            ((λ t. hash_cmp (key_as other t) (key_as one t)) ∙ hash_cmp-IsTotalOrder.antisymm (key_of_record K other) (key_of_record K one) ∙ ap ordering_reverse greater))
            (ap (λ r. Some (K.as_read r)) same)

        pub drops_both : key_of_record K one ≡ key_of_record K other → Passes K (firsts i) (seconds j) None (firsts (i + 1)) (seconds (j + 1))
        drops_both same = passes_both (K.as_read one) (K.as_read other) (at_first one one_is some_1) (at_second other other_is some_2) (key_as one ∙ same ∙ sym (key_as other)) refl
