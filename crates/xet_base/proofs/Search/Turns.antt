-- The turns of the loop that narrows the window of a search.
use Rattle.std.proofs.Common.{◌≡◌, inl, inr, ℕ, ◌+◌, ◌-◌, ◌*◌, ◌^◌, ◌<◌, ◌≤◌, List, length, refl, sym, ap, ◌∙◌, subst, arith, add-mul, mul-le-mul_right}
use Rattle.xet_base.specs.declared.interpolation_search.window.Window.{Window}
use Rattle.xet_base.specs.Source.{Source, NoFailure}
use Rattle.xet_base.specs.Search.Table.{Table, row_offset, key_at, HasKey, IsSorted, hits_below, hits, even_step, IsEven}
use Rattle.xet_base.specs.Steps.SearchSteps.{ReadsKey, IsRow, FindsFrom, Counts, Runs}
use Rattle.xet_base.specs.Steps.Probes.{guess_of, IsWhole, NarrowsBelow, NarrowsAbove, NarrowsEqual, OnEven, KeepsEven}
use Rattle.xet_base.proofs.Search.Progress.{IsMatching, OnSorted, Searches}
use Rattle.xet_base.proofs.Search.Tables.{offset_of_row-add, offset_of_row-le, hits_below-hit, hits_below-le, keys_ascend, none_after}
use Rattle.xet_base.proofs.Search.Steps.{serves_still, serves_moved, serves_advanced}
use Rattle.xet_base.proofs.Search.Probing.{guess_within, below_within, above_within, window, is_below, is_above, is_equal}
use Rattle.xet_base.proofs.Search.Course.{course_start, course_below, course_above, course_equal}
use Rattle.xet_base.proofs.Search.Collecting.{from_weaker, from_none}

-- rows between two rows with the key have it too
is_row_between : (t : Table) (key i j n : ℕ) → IsSorted t → IsRow t key i → IsRow t key j → i ≤ n → n ≤ j → IsRow t key n
is_row_between t key i j n sorted first last from to =
    let there : HasKey t n = omega (arith, last.there, offset_of_row-le t.start t.width n j to) in
    let within : n < t.rows = omega (arith, to, last.within) in
    record {
      within = within;
      there = there;
      same_key = omega (
        arith,
        first.same_key,
        last.same_key,
        keys_ascend t i n sorted from within there,
        keys_ascend t n j sorted to last.within last.there,
      );
    }

four_more : (t : Table) (key i j : ℕ) → IsSorted t → IsRow t key i → IsRow t key j → i + 4 ≡ j → hits_below t key i + 4 ≤ hits_below t key j
four_more t key i j sorted first last step =
    let next : (n : ℕ) → i ≤ n → n ≤ j → hits_below t key (n + 1) ≡ hits_below t key n + 1 =
    λ n from to. let row = is_row_between t key i j n sorted first last from to in hits_below-hit t key n row.there row.same_key in
    let two : i + 1 + 1 ≡ i + 2 = omega arith in
    let three : i + 2 + 1 ≡ i + 3 = omega arith in
    let four : i + 3 + 1 ≡ j = omega (arith, step) in
    omega (
      arith,
      next i (omega arith) (omega (arith, step)),
      next (i + 1) (omega arith) (omega (arith, step)),
      next (i + 2) (omega arith) (omega (arith, step)),
      next (i + 3) (omega arith) (omega (arith, step)),
      ap (hits_below t key) two,
      ap (hits_below t key) three,
      ap (hits_below t key) four,
    )

-- the bytes of one turn: a key, and n rows with the key
cost_of_turn : (made later later_new n now mid new width : ℕ) → mid ≡ now + 8 → new ≤ mid + n * (8 + width) → later + n ≤ later_new → (old : ℕ)
    → now ≤ old + (made + later) * (8 + width) → new ≤ old + (made + 1 + later_new) * (8 + width)
cost_of_turn made later later_new n now mid new width mid_is new_most rows old now_most =
    let more : made + later + (n + 1) ≤ made + 1 + later_new = omega (arith, rows) in
    omega (
      arith,
      mid_is,
      new_most,
      now_most,
      mul-le-mul_right (8 + width) more,
      add-mul (made + later) (n + 1) (8 + width),
      add-mul n 1 (8 + width),
    )

pub searches_start : {V : Type 0} (t : Table) (key : ℕ) (Gives : List ℕ → V → Type 0) (w : Window) (old : Source) (results : List V) → key < 2 ^ 64
    → IsWhole t.rows key w → Searches t key Gives w old old results results 0
searches_start t key Gives w old results fits whole =
    subst (λ v. Searches t key Gives v old old results results 0) (sym is_whole) (record {
      around = record { rows = omega arith; below = omega arith; above = omega (arith, fits); apart = omega arith };
      within = omega arith;
      inside = λ wide. guess_within 0 0 (t.rows + 1) (2 ^ 64 - 1) key (omega (arith, wide));
      no_failure = serves_still old;
      made = 0;
      seeks = omega arith;
      finds = from_none t key Gives (t.rows + 1 - 1) results;
      sorted = λ sorted. record {
        smaller = λ i lt. absurd (omega (arith, lt));
        from_low = λ i past within there. omega arith;
        to_high = inl refl;
        counted = omega (arith, last);
        later = 0;
        left = omega (arith, last);
        course = course_start (IsRow t key (t.rows + 1 - 1)) (t.rows + 1) (2 ^ 64 - 1) key;
        read = omega arith;
      };
      even = λ _. inl (refl, record { low = refl; low_key = refl; high = refl; high_key = refl; probe = refl });
    })
  where
    is_whole : w ≡ window 0 0 (t.rows + 1) (2 ^ 64 - 1) (guess_of 0 0 (t.rows + 1) (2 ^ 64 - 1) key)
    is_whole = λ i. window (whole.low i) (whole.low_key i) (whole.high i) (whole.high_key i) (whole.probe i)

    last : hits_below t key (t.rows + 1 - 1) ≡ hits t key
    last = ap (hits_below t key) (omega arith)

module _ {V : Type 0} (t : Table) (key : ℕ) (Gives : List ℕ → V → Type 0) (w : Window) (old now mid : Source) (results_old results : List V) (count found : ℕ)
    (so_far : Searches t key Gives w old now results_old results count) (running : w.low + 256 < w.high) (reads : ReadsKey t (w.probe - 1) now mid found) where
  above : w.low < w.probe
  above = (so_far.inside running).0

  below : w.probe < w.high
  below = (so_far.inside running).1

  row_is : w.probe - 1 + 1 ≡ w.probe
  row_is = omega (arith, above)

  row_within : w.probe - 1 < t.rows
  row_within = omega (arith, above, below, so_far.within)

  found_even : (even : IsEven t) → found ≡ w.probe * even_step t.rows
  found_even even = reads.is_key ∙ even.keys (w.probe - 1) row_within reads.there ∙ ap (λ n. n * even_step t.rows) row_is

  pub mid_serves : NoFailure old mid
  mid_serves = serves_advanced old _ mid 8 (serves_moved old now _ (row_offset t (w.probe - 1)) so_far.no_failure refl) reads.after

  mid_seeks : mid.seeks ≡ old.seeks + (so_far.made + 1)
  mid_seeks = omega (arith, ap (λ s. s.seeks) reads.after, so_far.seeks)

  mid_read : mid.read ≡ now.read + 8
  mid_read = omega (arith, ap (λ s. s.read) reads.after)

  pub searches_below : (new : Window) → key < found → NarrowsBelow w key found new → KeepsEven w key found new → Searches t key Gives new old mid results_old results count
  searches_below new past narrows steps = subst (λ v. Searches t key Gives v old mid results_old results count) (sym (is_below w key found new narrows)) (record {
    around = record { rows = above; below = so_far.around.below; above = omega (arith, past); apart = omega (arith, past, so_far.around.below) };
    within = omega (arith, below, so_far.within);
    inside = λ wide. below_within w.low w.low_key w.probe found key new.probe narrows.probe (omega (arith, wide));
    no_failure = mid_serves;
    made = so_far.made + 1;
    seeks = mid_seeks;
    finds = from_weaker t key Gives (w.probe - 1) (w.high - 1) results_old results count (omega (arith, below)) so_far.finds;
    sorted = on_sorted;
    even = λ even. subst (λ v. OnEven t key v (so_far.made + 1)) (is_below w key found new narrows)
        (steps t so_far.made even running (found_even even) (so_far.even even));
  })
    where
      on_sorted : IsSorted t → OnSorted t key (window w.low w.low_key w.probe found new.probe) (so_far.made + 1) old mid (length results_old) count
      on_sorted sorted =
          let before = so_far.sorted sorted in
          let greater : key < key_at t (w.probe - 1) = omega (arith, past, reads.is_key) in
          let none : hits_below t key (w.high - 1) ≡ hits_below t key (w.probe - 1) =
          none_after t key (w.probe - 1) (w.high - 1) sorted reads.there greater (omega (arith, below)) (omega (arith, so_far.within)) in
          let not_equal : IsRow t key (w.high - 1) → ⊥ = λ row. absurd (omega (
            arith,
            greater,
            row.same_key,
            keys_ascend t (w.probe - 1) (w.high - 1) sorted (omega (arith, below)) row.within row.there,
          )) in
          let under : found ≤ w.high_key = elim before.to_high [
            | inl greatest ↦ omega (arith, greatest, narrows.fits)
            | inr most ↦ omega (arith, reads.is_key, most (w.probe - 1) (omega (arith, above, below)) reads.there)
          ] in
          record {
            smaller = before.smaller;
            from_low = before.from_low;
            to_high = inr (λ i lt there. omega (
              arith,
              reads.is_key,
              keys_ascend t i (w.probe - 1) sorted (omega (arith, lt)) row_within reads.there,
            ));
            counted = omega (arith, before.counted, none);
            later = before.later;
            left = omega (arith, before.left, none);
            course = course_below (IsRow t key (w.high - 1)) (IsRow t key (w.probe - 1)) (t.rows + 1) before.later w.low w.low_key w.high w.high_key key w.probe so_far.made
                found new.probe so_far.around running above below before.course not_equal under past narrows.probe before.later;
            read = cost_of_turn so_far.made before.later before.later 0 now.read mid.read mid.read t.width mid_read (omega arith) (omega arith) old.read before.read;
          }

  pub searches_above : (new : Window) → found < key → NarrowsAbove w key found new → KeepsEven w key found new → Searches t key Gives new old mid results_old results count
  searches_above new past narrows steps = subst (λ v. Searches t key Gives v old mid results_old results count) (sym (is_above w key found new narrows)) (record {
    around = record { rows = below; below = omega (arith, past); above = so_far.around.above; apart = omega (arith, past, so_far.around.above) };
    within = so_far.within;
    inside = λ wide. above_within w.probe found w.high w.high_key key new.probe narrows.probe (omega (arith, wide));
    no_failure = mid_serves;
    made = so_far.made + 1;
    seeks = mid_seeks;
    finds = so_far.finds;
    sorted = on_sorted;
    even = λ even. subst (λ v. OnEven t key v (so_far.made + 1)) (is_above w key found new narrows)
        (steps t so_far.made even running (found_even even) (so_far.even even));
  })
    where
      on_sorted : IsSorted t → OnSorted t key (window w.probe found w.high w.high_key new.probe) (so_far.made + 1) old mid (length results_old) count
      on_sorted sorted =
          let before = so_far.sorted sorted in
          let over : w.low_key ≤ found = omega (arith, reads.is_key, before.from_low (w.probe - 1) (omega (arith, above)) row_within reads.there) in
          record {
            smaller = λ i lt there. omega (
              arith,
              past,
              reads.is_key,
              keys_ascend t i (w.probe - 1) sorted (omega (arith, lt)) row_within reads.there,
            );
            from_low = λ i from within there. omega (
              arith,
              reads.is_key,
              keys_ascend t (w.probe - 1) i sorted (omega (arith, from)) within there,
            );
            to_high = before.to_high;
            counted = before.counted;
            later = before.later;
            left = before.left;
            course = course_above (IsRow t key (w.high - 1)) (IsRow t key (w.high - 1)) (t.rows + 1) before.later w.low w.low_key w.high w.high_key key w.probe so_far.made
                found new.probe so_far.around running above below before.course over past narrows.probe;
            read = cost_of_turn so_far.made before.later before.later 0 now.read mid.read mid.read t.width mid_read (omega arith) (omega arith) old.read before.read;
          }

  pub searches_equal : (new : Window) (after : Source) (results_new : List V) (count_new : ℕ) → found ≡ key → NarrowsEqual w new → KeepsEven w key found new → NoFailure mid after
      → Runs t key (w.probe - 1) (w.high - 1) mid after → FindsFrom t key Gives (w.probe - 1) results_old results_new count_new
      → length results ≡ length results_old
      → (IsSorted t → Counts t key (w.probe - 1) (w.high - 1) (length results) count count_new)
      → Searches t key Gives new old after results_old results_new count_new
  searches_equal new after results_new count_new same narrows steps no_failure runs finds len counts =
      subst (λ v. Searches t key Gives v old after results_old results_new count_new) (sym (is_equal w new narrows)) (record {
        around = record { rows = above; below = so_far.around.below; above = so_far.around.above; apart = so_far.around.apart };
        within = omega (arith, below, so_far.within);
        inside = λ wide. (omega (arith, narrows.probe, wide), omega (arith, narrows.probe, wide));
        no_failure = record {
          bytes = no_failure.bytes ∙ mid_serves.bytes;
          failures = no_failure.failures ∙ mid_serves.failures;
          last_failure = no_failure.last_failure ∙ mid_serves.last_failure;
        };
        made = so_far.made + 1;
        seeks = runs.seeks ∙ mid_seeks;
        finds = finds;
        sorted = on_sorted;
        even = λ even. subst (λ v. OnEven t key v (so_far.made + 1)) (is_equal w new narrows)
            (steps t so_far.made even running (found_even even) (so_far.even even));
      })
    where
      on_sorted : IsSorted t → OnSorted t key (window w.low w.low_key w.probe w.high_key new.probe) (so_far.made + 1) old after (length results_old) count_new
      on_sorted sorted =
          let before = so_far.sorted sorted in
          let row : IsRow t key (w.probe - 1) = record { within = row_within; there = reads.there; same_key = sym reads.is_key ∙ same } in
          let less : hits_below t key (w.probe - 1) ≤ hits_below t key (w.high - 1) = hits_below-le t key (w.probe - 1) (w.high - 1) (omega (arith, below)) in
          let one : hits_below t key (w.probe - 1) + 1 ≤ hits_below t key (w.high - 1) = omega (
            arith,
            hits_below-hit t key (w.probe - 1) row.there row.same_key,
            hits_below-le t key (w.probe - 1 + 1) (w.high - 1) (omega (arith, above, below)),
          ) in
          let later_new = before.later + (hits_below t key (w.high - 1) - hits_below t key (w.probe - 1)) in
          let rows = runs.end - (w.probe - 1) in
          let end_is : w.probe - 1 + rows ≡ runs.end = omega (arith, runs.past) in
          let read : after.read ≤ mid.read + rows * (8 + t.width) =
          omega (arith, runs.read, offset_of_row-add t.start t.width (w.probe - 1) rows, ap (row_offset t) end_is) in
          let few : before.later + rows ≤ later_new = omega (arith, runs.equal, runs.past, hits_below-le t key runs.end (w.high - 1) runs.within, less) in
          let more : IsMatching (IsRow t key (w.high - 1)) (t.rows + 1) before.later w.low w.high w.probe so_far.made → before.later + 4 ≤ later_new =
          λ matching. omega (
            arith,
            less,
            four_more t key (w.probe - 1) (w.high - 1) sorted row matching.is_equal (omega (arith, above, matching.stepped running)),
          ) in
          record {
            smaller = before.smaller;
            from_low = before.from_low;
            to_high = elim before.to_high [
              | inl greatest ↦ inl greatest
              | inr most ↦ inr (λ i lt there. most i (omega (arith, lt, below)) there)
            ];
            counted = omega (arith, before.counted, counts sorted, len, less);
            later = later_new;
            left = omega (arith, before.left, less);
            course = course_equal (IsRow t key (w.high - 1)) (IsRow t key (w.probe - 1)) (t.rows + 1) before.later w.low w.low_key w.high w.high_key key w.probe so_far.made
                found new.probe so_far.around running above below before.course row narrows.probe later_new (omega (arith, one)) more;
            read = cost_of_turn so_far.made before.later later_new rows now.read mid.read after.read t.width mid_read read few old.read before.read;
          }
