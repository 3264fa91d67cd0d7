-- The turns of the loop that reads two sections side by side.
use Rattle.std.proofs.Common.{◌≡◌, ◌⊎◌, inl, inr, ℕ, ◌+◌, ◌<◌, ◌≤◌, Bool, true, false, if◌then◌else◌, List, [], ◌∷◌, ◌++◌, flat_map, Option, None, Some, IfSome, is_some, refl, sym, ap, ◌∙◌, subst, arith, true≢false}
use Rattle.std.specs.Prelude.{option_to_list}
use Rattle.std.specs.Io.KnownBytes.{Appends}
use Rattle.std.proofs.KnownBytes.{Appends-nil, Appends-trans}
use Rattle.std.proofs.lemmas.Grind.{flat_map-append}
use Rattle.std.proofs.lemmas.List.Sums.{sum_by-append, sum_by-cons}
use Rattle.std.proofs.lemmas.Option.{same_Some, none-some}
use Rattle.xet_base.specs.declared.error.CoreError.{CoreError}
use Rattle.xet_base.specs.declared.merklehash.DataHash.{DataHash}
use Rattle.xet_base.specs.Source.{Source, ReadsBytes, bytes_left, NoFailure}
use Rattle.xet_records.specs.declared.row_copier.CopyFailure.{CopyFailure}
use Rattle.xet_records.specs.declared.row_copier.CopyFailure.TheVariants.{Input, Output}
use Rattle.xet_records.specs.Copying.{IsOutputFailure}
use Rattle.xet_records.specs.declared.record_reader.FormatVersion.{FormatVersion}
use Rattle.xet_records.specs.RecordKind.{RecordKind, in_version, KindLaws}
use Rattle.xet_records.specs.Reading.{ReadsNextHeader}
use Rattle.xet_records.proofs.RecordKinds.{laws_in}
use Rattle.xet_shards.specs.Write.Section.{total_rows, section_bytes}
use Rattle.xet_shards.specs.Read.SectionReading.{StreamsSection}
use Rattle.xet_shards.proofs.Read.SectionReading.{section_ends}
use Rattle.xet_core_structures.specs.Records.RecordPairs.{key_of_record, ComeBefore, ArePassed, IsMadeOf, rows_in}
use Rattle.xet_core_structures.specs.Steps.RecordPairsSteps.{IsNextPair}
use Rattle.xet_core_structures.specs.Steps.MergeJoin.{ReadsFollowing, Advances, AdvanceFails, ReadsOptionalRecord, WritesMade, CannotMake, PairFails, WritesCombined, AscendingNotStreamed, CannotCombine, SectionsFail}
use Rattle.xet_core_structures.specs.Steps.MergeJoin.PairFails.{output_fails as pair_output_fails, first_fails as pair_first_fails, second_fails as pair_second_fails, refused as pair_refused}
use Rattle.xet_core_structures.specs.Steps.MergeJoin.SectionsFail.{output_fails, first_fails, second_fails, refused}
use Rattle.xet_core_structures.specs.TwoShards.Streams.{streams}
use Rattle.xet_core_structures.specs.Steps.StreamsSteps.{sources}
use Rattle.xet_core_structures.proofs.Records.RecordPairs.{ComesLater, HasHash, IsUnder, hash_under, AreCombinedBefore, combined_start, next_passed, combined_on}
use Rattle.xet_core_structures.proofs.TwoShards.OneSection.{serves_on, weight, passed_serves, HasPending, pending_start, pending_serves, pending_on, under_pending, front_of, weight_on, rows_not_read, no_next}

module _ {H R : Type 0} (K : RecordKind H R) where
  -- the pair of next headers: their hash, and that what stays is greater
  pub record IsPair (next_1 next_2 one two : Option H) (k : DataHash) : Type 0 where
    pub first : (h : H) → one ≡ Some h → (next_1 ≡ Some h) × (K.hash_of h ≡ k)
    pub second : (h : H) → two ≡ Some h → (next_2 ≡ Some h) × (K.hash_of h ≡ k)
    pub later_1 : one ≡ None → ComesLater K k next_1
    pub later_2 : two ≡ None → ComesLater K k next_2
    pub some : ((h : H) × (one ≡ Some h)) ⊎ ((h : H) × (two ≡ Some h))

  -- both sections are read up to a record, and what is made of those before is written
  pub record IsMerging (v w : FormatVersion) (makes : Option R → Option R → Option R → Type 0) (start_1 now_1 start_2 now_2 : Source) (left_1 left_2 : ℕ) (next_1 next_2 : Option H) (Written : List R → Type 0) (old new : Option (List ℕ)) : Type 0 where
    pub firsts : List R
    pub seconds : List R
    pub made : List R
    pub first : HasPending (in_version K v) start_1 now_1 left_1 next_1 firsts
    pub second : HasPending (in_version K w) start_2 now_2 left_2 next_2 seconds
    pub fronts : AreCombinedBefore K makes firsts seconds made next_1 next_2
    pub few : total_rows K made ≤ 4294967295
    pub rows : total_rows K made ≤ total_rows K firsts + total_rows K seconds
    pub written : Written made
    pub bytes : Appends old new (flat_map K.record_bytes made)

module _ {H R : Type 0} (K : RecordKind H R) (laws : KindLaws K) where
  is_the : (g h : H) (p : Option H) → p ≡ Some g → p ≡ Some h → (Some g ≡ Some h) × (K.hash_of h ≡ K.hash_of g)
  is_the g h p one other = (sym one ∙ other, ap K.hash_of (sym (same_Some g h (sym one ∙ other))))

  is_none : (h : H) (p : Option H) {A : Type 0} → p ≡ None → p ≡ Some h → A
  is_none h p none some = absurd (none-some h (sym none ∙ some))

  pub pair_of : (p q a b : Option H) → IsNextPair K.hash_of p q a b → (is_some p ≡ true) ⊎ (is_some q ≡ true) → (k : DataHash) × IsPair K p q a b k
  pair_of None None a b next (inl some) = absurd (true≢false (sym some))
  pair_of None None a b next (inr some) = absurd (true≢false (sym some))
  pair_of None (Some g) a b next some = (
    K.hash_of g,
    record { first = λ h is. is_none h a next.0 is; second = λ h is. is_the g h b next.1 is; later_1 = λ _. tt; later_2 = λ none. is_none g b none next.1; some = inr (g, next.1) },
  )
  pair_of (Some g) None a b next some = (
    K.hash_of g,
    record { first = λ h is. is_the g h a next.0 is; second = λ h is. is_none h b next.1 is; later_1 = λ none. is_none g a none next.0; later_2 = λ _. tt; some = inl (g, next.0) },
  )
  pair_of (Some g) (Some h) a b (inl (less, one, two)) some = (
    K.hash_of g,
    record { first = λ f is. is_the g f a one is; second = λ f is. is_none f b two is; later_1 = λ none. is_none g a none one; later_2 = λ _. less; some = inl (g, one) },
  )
  pair_of (Some g) (Some h) a b (inr (inl (less, one, two))) some = (
    K.hash_of h,
    record { first = λ f is. is_none f a one is; second = λ f is. is_the h f b two is; later_1 = λ _. less; later_2 = λ none. is_none h b none two; some = inr (h, two) },
  )
  pair_of (Some g) (Some h) a b (inr (inr (same, one, two))) some = (
    K.hash_of g,
    record {
      first = λ f is. is_the g f a one is;
      second = λ f is. let other = is_the h f b two is in (other.0, other.1 ∙ sym same);
      later_1 = λ none. is_none g a none one;
      later_2 = λ none. is_none h b none two;
      some = inl (g, one);
    },
  )

  -- no section goes on
  pub none_left : (p q : Option H) (b : Bool) → ((is_some p ≡ true) ⊎ (is_some q ≡ true) → b ≡ true) → b ≡ false → (p ≡ None) × (q ≡ None)
  none_left None None b on not = (refl, refl)
  none_left (Some h) q b on not = absurd (true≢false (sym (on (inl refl)) ∙ not))
  none_left None (Some h) b on not = absurd (true≢false (sym (on (inr refl)) ∙ not))

-- both sections, each in its version
module _ {H R : Type 0} (K : RecordKind H R) (laws : KindLaws K) (v w : FormatVersion) where
  pub fewer_left : (p q a b p' q' : Option H) (k : DataHash) (old_1 new_1 old_2 new_2 : Source) (left_1 after_1 left_2 after_2 : ℕ) → IsPair K p q a b k
      → Advances (in_version K v) p a old_1 new_1 left_1 after_1 p' → Advances (in_version K w) q b old_2 new_2 left_2 after_2 q'
      → weight after_1 p' + weight after_2 q' < weight left_1 p + weight left_2 q
  fewer_left p q a b p' q' k old_1 new_1 old_2 new_2 left_1 after_1 left_2 after_2 pair one other = omega (
    arith,
    weight_on K laws v p a p' old_1 new_1 left_1 after_1 (λ h is. (pair.first h is).0) one,
    weight_on K laws w q b q' old_2 new_2 left_2 after_2 (λ h is. (pair.second h is).0) other,
    either pair.some,
  )
    where
      either : ((h : H) × (a ≡ Some h)) ⊎ ((h : H) × (b ≡ Some h)) → 1 ≤ (if is_some a then 1 else 0) + (if is_some b then 1 else 0)
      either (inl (h, at)) = omega (arith, ap {B = ℕ} (λ (o : Option H). if is_some o then 1 else 0) at)
      either (inr (h, at)) = omega (arith, ap {B = ℕ} (λ (o : Option H). if is_some o then 1 else 0) at)

  module _ (makes : Option R → Option R → Option R → Type 0) where
    pub merging_start : makes None None None → (start_1 now_1 start_2 now_2 : Source) (left_1 left_2 : ℕ) (next_1 next_2 : Option H) (Written : List R → Type 0) (old : Option (List ℕ))
        → ReadsFollowing (in_version K v) None start_1 now_1 4294967295 left_1 next_1 → ReadsFollowing (in_version K w) None start_2 now_2 4294967295 left_2 next_2 → Written []
        → IsMerging K v w makes start_1 now_1 start_2 now_2 left_1 left_2 next_1 next_2 Written old old
    merging_start nothing start_1 now_1 start_2 now_2 left_1 left_2 next_1 next_2 Written old one other written = record {
      firsts = [];
      seconds = [];
      made = [];
      first = pending_start K laws v start_1 now_1 left_1 next_1 one;
      second = pending_start K laws w start_2 now_2 left_2 next_2 other;
      fronts = combined_start K makes nothing next_1 next_2;
      few = omega arith;
      rows = omega arith;
      written = written;
      bytes = Appends-nil old;
    }

    module _ (start_1 now_1 start_2 now_2 : Source) (left_1 left_2 : ℕ) (next_1 next_2 : Option H) (Before : List R → Type 0) (start now : Option (List ℕ))
        (merging : IsMerging K v w makes start_1 now_1 start_2 now_2 left_1 left_2 next_1 next_2 Before start now) where
      -- one pair more
      module _ (one two : Option H) (k : DataHash) (pair : IsPair K next_1 next_2 one two k) where
        passed_at : ArePassed K merging.firsts merging.seconds merging.made k
        passed_at = of_pair pair.some where
          of_pair : ((h : H) × (one ≡ Some h)) ⊎ ((h : H) × (two ≡ Some h)) → ArePassed K merging.firsts merging.seconds merging.made k
          of_pair (inl (h, at)) = let is = pair.first h at in next_passed K makes merging.firsts merging.seconds merging.made next_1 next_2 merging.fronts k h (inl is.0) is.1
          of_pair (inr (h, at)) = let is = pair.second h at in next_passed K makes merging.firsts merging.seconds merging.made next_1 next_2 merging.fronts k h (inr is.0) is.1

        -- what comes next of a section has a greater hash
        later_on : (version : FormatVersion) (next a next' : Option H) (old new : Source) (left after : ℕ) → ((h : H) → a ≡ Some h → (next ≡ Some h) × (K.hash_of h ≡ k)) → (a ≡ None → ComesLater K k next)
            → Advances (in_version K version) next a old new left after next' → ComesLater K k next'
        later_on version next None next' old new left after is later (next_is, _, _) = subst (ComesLater K k) (sym next_is) (later refl)
        later_on version next (Some g) next' old new left after is later following = subst (λ j. ComesLater K j next') (is g refl).1 following.follows

        -- the sources after the records of the pair were read
        module _ (mid_1 mid_2 : Source) (x y : Option R) (first : ReadsOptionalRecord K one now_1 mid_1 x) (second : ReadsOptionalRecord K two now_2 mid_2 y) where
          x_under : HasHash K k x
          x_under = hash_under K k x (under_pending K laws v start_1 now_1 left_1 next_1 merging.firsts merging.first mid_1 k one x pair.first first)

          y_under : HasHash K k y
          y_under = hash_under K k y (under_pending K laws w start_2 now_2 left_2 next_2 merging.seconds merging.second mid_2 k two y pair.second second)

          made_under : (z : Option R) → IfSome z (IsMadeOf K x y) → IsUnder K k z
          made_under None is = tt
          made_under (Some z) is = (of_pair pair.some, is.stored) where
            of_pair : ((h : H) × (one ≡ Some h)) ⊎ ((h : H) × (two ≡ Some h)) → key_of_record K z ≡ k
            of_pair (inl (h, at)) = let read = subst (λ (o : Option H). ReadsOptionalRecord K o now_1 mid_1 x) at first in is.hash read.0 (inl read.1) ∙ subst (HasHash K k) read.1 x_under
            of_pair (inr (h, at)) = let read = subst (λ (o : Option H). ReadsOptionalRecord K o now_2 mid_2 y) at second in is.hash read.0 (inr read.1) ∙ subst (HasHash K k) read.1 y_under

        few_made : (z : Option R) (rows : ℕ) → rows ≡ total_rows K merging.made → IfSome z (λ r. rows + K.row_count r ≤ 4294967295) → total_rows K (merging.made ++ option_to_list z) ≤ 4294967295
        few_made None rows is few = omega (arith, merging.few, sum_by-append K.row_count merging.made [])
        few_made (Some r) rows is few = omega (arith, is, few, sum_by-append K.row_count merging.made (r ∷ []), sum_by-cons K.row_count r [])

        one_row : (o : Option R) → total_rows K (option_to_list o) ≡ rows_in K o
        one_row None = refl
        one_row (Some r) = omega (arith, sum_by-cons K.row_count r [])

        rows_made : (x y z : Option R) → IfSome z (IsMadeOf K x y) → total_rows K (merging.made ++ option_to_list z) ≤ total_rows K (merging.firsts ++ option_to_list x) + total_rows K (merging.seconds ++ option_to_list y)
        rows_made x y z is = omega (
          arith,
          merging.rows,
          sum_by-append K.row_count merging.made (option_to_list z),
          sum_by-append K.row_count merging.firsts (option_to_list x),
          sum_by-append K.row_count merging.seconds (option_to_list y),
          one_row x,
          one_row y,
          one_row z,
          no_more z is,
        )
          where
            no_more : (o : Option R) → IfSome o (IsMadeOf K x y) → rows_in K o ≤ rows_in K x + rows_in K y
            no_more None made = omega arith
            no_more (Some r) made = made.rows

        pub merging_on : (mid_1 mid_2 new_1 new_2 : Source) (after_1 after_2 rows : ℕ) (next_1' next_2' : Option H) (After : List R → Type 0) (new : Option (List ℕ)) → rows ≡ total_rows K merging.made
            → WritesMade K makes one two (streams now_1 now_2 now) (streams mid_1 mid_2 new) rows Before After → Advances (in_version K v) next_1 one mid_1 new_1 left_1 after_1 next_1' → Advances (in_version K w) next_2 two mid_2 new_2 left_2 after_2 next_2'
            → IsMerging K v w makes start_1 new_1 start_2 new_2 after_1 after_2 next_1' next_2' After start new
        merging_on mid_1 mid_2 new_1 new_2 after_1 after_2 rows next_1' next_2' After new counted wrote on_1 on_2 =
            let x = wrote.one in
            let y = wrote.other in
            let z = wrote.made in
            record {
              firsts = merging.firsts ++ option_to_list x;
              seconds = merging.seconds ++ option_to_list y;
              made = merging.made ++ option_to_list z;
              first = pending_on K laws v start_1 now_1 left_1 next_1 merging.firsts merging.first mid_1 new_1 after_1 one next_1' x (λ h is. (pair.first h is).0) wrote.reads_first on_1;
              second = pending_on K laws w start_2 now_2 left_2 next_2 merging.seconds merging.second mid_2 new_2 after_2 two next_2' y (λ h is. (pair.second h is).0) wrote.reads_second on_2;
              fronts = combined_on K makes k x y z (x_under mid_1 mid_2 x y wrote.reads_first wrote.reads_second) (y_under mid_1 mid_2 x y wrote.reads_first wrote.reads_second)
                  (made_under mid_1 mid_2 x y wrote.reads_first wrote.reads_second z wrote.made_of) wrote.is_made merging.firsts merging.seconds merging.made passed_at next_1 next_2 next_1' next_2' merging.fronts
                  (later_on v next_1 one next_1' mid_1 new_1 left_1 after_1 pair.first pair.later_1 on_1) (later_on w next_2 two next_2' mid_2 new_2 left_2 after_2 pair.second pair.later_2 on_2);
              few = few_made z rows counted wrote.few;
              rows = rows_made x y z wrote.made_of;
              written = wrote.written merging.made merging.written;
              bytes = subst (Appends start new) (sym (flat_map-append K.record_bytes merging.made (option_to_list z)))
                  (Appends-trans start now new (flat_map K.record_bytes merging.made) (flat_map K.record_bytes (option_to_list z)) merging.bytes wrote.bytes);
            }

        -- nothing can be made of the pair
        none_made : (new_1 new_2 : Source) (rows : ℕ) (x y : Option R) → rows ≡ total_rows K merging.made → ReadsOptionalRecord K one now_1 new_1 x → ReadsOptionalRecord K two now_2 new_2 y
            → CannotMake K makes rows x y → CannotCombine K v w makes (bytes_left start_1) (bytes_left start_2)
        none_made new_1 new_2 rows x y counted first second cannot =
            let front_1 = front_of K laws v start_1 now_1 left_1 next_1 merging.firsts merging.first new_1 k one x (λ h is. (pair.first h is).0) pair.later_1 first in
            let front_2 = front_of K laws w start_2 now_2 left_2 next_2 merging.seconds merging.second new_2 k two y (λ h is. (pair.second h is).0) pair.later_2 second in
            record {
              stored_1 = front_1.stored;
              stored_2 = front_2.stored;
              rest_1 = front_1.rest;
              rest_2 = front_2.rest;
              holds_1 = front_1.holds;
              holds_2 = front_2.holds;
              firsts = merging.firsts;
              seconds = merging.seconds;
              made = merging.made;
              one = x;
              other = y;
              first_is = front_1.returned;
              second_is = front_2.returned;
              first_ascends = merging.fronts.first_ascends;
              second_ascends = merging.fronts.second_ascends;
              combined = merging.fronts.combined;
              rows = merging.rows;
              hash = k;
              passed = passed_at;
              one_hash = x_under new_1 new_2 x y first second;
              other_hash = y_under new_1 new_2 x y first second;
              next_1 = front_1.goes_on;
              next_2 = front_2.goes_on;
              cannot = subst (λ n. CannotMake K makes n x y) counted cannot;
            }

      -- both bookends were read
      pub sections_combined : (new : Option (List ℕ)) → next_1 ≡ None → next_2 ≡ None → Appends now new (K.header_bytes K.bookend)
          → WritesCombined K v w makes (streams start_1 start_2 start) (streams now_1 now_2 new) Before
      unfolding section_bytes
      sections_combined new none_1 none_2 bookend = record {
        firsts = merging.firsts;
        seconds = merging.seconds;
        made = merging.made;
        first = has_ended v start_1 now_1 left_1 next_1 merging.firsts merging.first none_1;
        second = has_ended w start_2 now_2 left_2 next_2 merging.seconds merging.second none_2;
        first_ascends = merging.fronts.first_ascends;
        second_ascends = merging.fronts.second_ascends;
        combined = merging.fronts.combined;
        few = merging.few;
        written = merging.written;
        bytes = Appends-trans start now new (flat_map K.record_bytes merging.made) (K.header_bytes K.bookend) merging.bytes bookend;
      } where
        has_ended : (version : FormatVersion) (start now : Source) (left : ℕ) (next : Option H) (found : List R) (pending : HasPending (in_version K version) start now left next found) → next ≡ None → StreamsSection (in_version K version) start now found
        has_ended version start now left next found pending none =
            section_ends (in_version K version) (laws_in K laws version) start pending.mid found pending.before pending.records now (subst (ReadsNextHeader (in_version K version) (ReadsBytes pending.mid now) pending.before left) none pending.header).bookend

  -- so no section was written
  module _ (makes : Option R → Option R → Option R → Type 0) (start_1 now_1 start_2 now_2 : Source) (left_1 left_2 : ℕ) (next_1 next_2 : Option H) (Before : List R → Type 0) (start now : Option (List ℕ))
      (merging : IsMerging K v w makes start_1 now_1 start_2 now_2 left_1 left_2 next_1 next_2 Before start now) (one two : Option H) (k : DataHash) (pair : IsPair K next_1 next_2 one two k) where
    all_passed : ArePassed K merging.firsts merging.seconds merging.made k
    all_passed = passed_at makes start_1 now_1 start_2 now_2 left_1 left_2 next_1 next_2 Before start now merging one two k pair

    served_1 : NoFailure start_1 now_1
    served_1 = pending_serves K laws v start_1 now_1 left_1 next_1 merging.firsts merging.first

    served_2 : NoFailure start_2 now_2
    served_2 = pending_serves K laws w start_2 now_2 left_2 next_2 merging.seconds merging.second

    pub pair_failed : (new_1 new_2 : Source) (rows : ℕ) (failure : CopyFailure) → rows ≡ total_rows K merging.made → PairFails K one two (sources now_1 now_2) (sources new_1 new_2) (CannotMake K makes rows) failure
        → SectionsFail K v w makes (sources start_1 start_2) (sources new_1 new_2) failure
    pair_failed new_1 new_2 rows failure counted (pair_output_fails e is device first second) = output_fails e is device (first ∙ served_1.bytes) (second ∙ served_2.bytes)
    pair_failed new_1 new_2 rows failure counted (pair_first_fails e is h at fails no_failure) =
        first_fails e is (rows_not_read K laws v start_1 now_1 left_1 next_1 merging.firsts merging.first merging.fronts.first_ascends h new_1 e (pair.first h at).0 fails) (serves_on start_2 now_2 new_2 served_2 no_failure)
    pair_failed new_1 new_2 rows failure counted (pair_second_fails e is h at fails no_failure) =
        second_fails e is (rows_not_read K laws w start_2 now_2 left_2 next_2 merging.seconds merging.second merging.fronts.second_ascends h new_2 e (pair.second h at).0 fails) (serves_on start_1 now_1 new_1 served_1 no_failure)
    pair_failed new_1 new_2 rows failure counted (pair_refused e is invalid x y first second cannot) =
        refused e is invalid (serves_on start_1 now_1 new_1 served_1 (passed_serves K one now_1 new_1 x first)) (serves_on start_2 now_2 new_2 served_2 (passed_serves K two now_2 new_2 y second))
        (none_made makes start_1 now_1 start_2 now_2 left_1 left_2 next_1 next_2 Before start now merging one two k pair new_1 new_2 rows x y counted first second cannot)

    pub first_not_next : (mid_1 new_1 mid_2 : Source) (x y : Option R) (e : CoreError) → ReadsOptionalRecord K one now_1 mid_1 x → ReadsOptionalRecord K two now_2 mid_2 y → AdvanceFails (in_version K v) one left_1 mid_1 new_1 e
        → SectionsFail K v w makes (sources start_1 start_2) (sources new_1 mid_2) (Input e)
    first_not_next mid_1 new_1 mid_2 x y e first second fails =
        first_fails e refl (of_header one (λ h is. pair.first h is) x first fails) (serves_on start_2 now_2 mid_2 served_2 (passed_serves K two now_2 mid_2 y second))
      where
        of_header : (a : Option H) → ((h : H) → a ≡ Some h → (next_1 ≡ Some h) × (K.hash_of h ≡ k)) → (x : Option R) → ReadsOptionalRecord K a now_1 mid_1 x → AdvanceFails (in_version K v) a left_1 mid_1 new_1 e → AscendingNotStreamed K v start_1 new_1 e
        of_header None is x passed fails = absurd fails
        of_header (Some h) is x (r, same, read) fails =
            no_next K laws v start_1 now_1 left_1 next_1 merging.firsts merging.first merging.fronts.first_ascends h mid_1 new_1 r e (is h refl).0
            (subst (λ j. ComeBefore K j merging.firsts) (sym (is h refl).1) all_passed.first) (r, refl, read) fails

    pub second_not_next : (new_1 mid_2 new_2 : Source) (y : Option R) (e : CoreError) → NoFailure start_1 new_1 → ReadsOptionalRecord K two now_2 mid_2 y → AdvanceFails (in_version K w) two left_2 mid_2 new_2 e
        → SectionsFail K v w makes (sources start_1 start_2) (sources new_1 new_2) (Input e)
    second_not_next new_1 mid_2 new_2 y e no_failure second fails = second_fails e refl (of_header two (λ h is. pair.second h is) y second fails) no_failure where
      of_header : (a : Option H) → ((h : H) → a ≡ Some h → (next_2 ≡ Some h) × (K.hash_of h ≡ k)) → (y : Option R) → ReadsOptionalRecord K a now_2 mid_2 y → AdvanceFails (in_version K w) a left_2 mid_2 new_2 e → AscendingNotStreamed K w start_2 new_2 e
      of_header None is y passed fails = absurd fails
      of_header (Some h) is y (r, same, read) fails =
          no_next K laws w start_2 now_2 left_2 next_2 merging.seconds merging.second merging.fronts.second_ascends h mid_2 new_2 r e (is h refl).0
          (subst (λ j. ComeBefore K j merging.seconds) (sym (is h refl).1) all_passed.second) (r, refl, read) fails

    -- the sources after the turn
    pub served_on : (mid_1 new_1 : Source) (after_1 : ℕ) (x : Option R) (next_1' : Option H) → ReadsOptionalRecord K one now_1 mid_1 x → Advances (in_version K v) next_1 one mid_1 new_1 left_1 after_1 next_1' → NoFailure start_1 new_1
    served_on mid_1 new_1 after_1 x next_1' first on =
        pending_serves K laws v start_1 new_1 after_1 next_1' _ (pending_on K laws v start_1 now_1 left_1 next_1 merging.firsts merging.first mid_1 new_1 after_1 one next_1' x (λ h is. (pair.first h is).0) first on)

  -- the output failed at the end
  pub no_bookend : (makes : Option R → Option R → Option R → Type 0) (start_1 now_1 start_2 now_2 : Source) (failure : CopyFailure) → NoFailure start_1 now_1 → NoFailure start_2 now_2 → IsOutputFailure failure
      → SectionsFail K v w makes (sources start_1 start_2) (sources now_1 now_2) failure
  no_bookend makes start_1 now_1 start_2 now_2 (Input e) first second none = absurd none
  no_bookend makes start_1 now_1 start_2 now_2 (Output e) first second is = output_fails e refl is first.bytes second.bytes
