-- What a search costs, wherever it ends.
use Rattle.std.proofs.Common.{◌≡◌, ℕ, ◌+◌, ◌-◌, ◌*◌, ◌<◌, ◌≤◌, List, length, min, ap, ◌∙◌, arith, add-mul, mul-le-mul_right}
use Rattle.xet_base.specs.declared.interpolation_search.window.Window.{Window}
use Rattle.std.specs.declared.io.Error.{Error}
use Rattle.xet_base.specs.Source.{Source, Fails, after_seek}
use Rattle.xet_base.specs.Search.Table.{Table, row_offset, IsSorted, hits_below, hits, SearchIsBounded}
use Rattle.xet_base.specs.Steps.SearchSteps.{ReadsKey, StopsWithin, IsRow, Counts, ReadsThrough, Runs}
use Rattle.xet_base.proofs.Search.Progress.{AllSmaller, Searches}
use Rattle.xet_base.proofs.Search.Tables.{offset_of_row-add, hits_below-le, hits_below-none}
use Rattle.xet_base.proofs.Search.Course.{course_end}

-- before rows that may have the key no row has it
no_hits_before : (t : Table) (key low : ℕ) → AllSmaller t key low → hits_below t key low ≡ 0
unfolding hits_below
no_hits_before t key low smaller =
    let start : low ≡ 0 + low = omega arith in
    ap (hits_below t key) start ∙ hits_below-none t key 0 low (λ j above below there same. absurd (omega (arith, smaller j (omega (arith, below)) there, same)))

module _ {V : Type 0} (t : Table) (key : ℕ) (Gives : List ℕ → V → Type 0) (w : Window) (old now : Source) (results_old results : List V) (count : ℕ)
    (so_far : Searches t key Gives w old now results_old results count) where
  -- one more seek, and the bytes of at most n more rows
  stays_in_bounds : (sorted : IsSorted t) (new : Source) (n : ℕ) → new.seeks ≡ now.seeks + 1 → new.read ≤ now.read + n * (8 + t.width)
      → n + (so_far.sorted sorted).later ≤ 258 + hits t key → SearchIsBounded t key old new
  stays_in_bounds sorted new n seeks read few =
      let before = so_far.sorted sorted in
      let rows : so_far.made + before.later + n ≤ 257 + hits t key + (so_far.made + 1) = omega (arith, few) in
      record {
        made = so_far.made + 1;
        seeks = omega (arith, seeks, so_far.seeks);
        few = course_end (IsRow t key (w.high - 1)) (t.rows + 1) before.later (hits t key) w.low w.low_key w.high w.high_key key w.probe so_far.made before.course
            (omega (arith, before.left));
        read = omega (arith, read, before.read, mul-le-mul_right (8 + t.width) rows, add-mul (so_far.made + before.later) n (8 + t.width));
      }

  -- a probed row's key was not read
  pub bounded_key_not : (sorted : IsSorted t) (new : Source) (e : Error) → StopsWithin t 1 8 now new e → SearchIsBounded t key old new
  bounded_key_not sorted new e stops = stays_in_bounds sorted new 1 stops.seeks (omega (arith, stops.read)) (omega (arith, (so_far.sorted sorted).left))

  -- the search ended in a run of rows with the key
  pub bounded_runs : (sorted : IsSorted t) (mid new : Source) (found : ℕ) → w.low + 256 < w.high → ReadsKey t (w.probe - 1) now mid found
      → Runs t key (w.probe - 1) (w.high - 1) mid new → SearchIsBounded t key old new
  bounded_runs sorted mid new found running reads runs =
      let before = so_far.sorted sorted in
      let rows = runs.end - (w.probe - 1) in
      let end_is : w.probe - 1 + rows ≡ runs.end = omega (arith, runs.past) in
      stays_in_bounds sorted new (rows + 1) (omega (arith, runs.seeks, ap (λ s. s.seeks) reads.after))
      (omega (
        arith,
        runs.read,
        ap (λ s. s.read) reads.after,
        offset_of_row-add t.start t.width (w.probe - 1) rows,
        ap (row_offset t) end_is,
        add-mul rows 1 (8 + t.width),
      ))
      (omega (arith, runs.equal, runs.past, hits_below-le t key runs.end (w.high - 1) runs.within, before.left))

  -- the seek to the last rows failed
  pub bounded_seek_not : (sorted : IsSorted t) (new : Source) (e : Error) → Fails now new 1 e → SearchIsBounded t key old new
  bounded_seek_not sorted new e fails = stays_in_bounds sorted new 0 fails.seeks (omega (arith, fails.read)) (omega (arith, (so_far.sorted sorted).left))

  -- the last rows were read
  pub bounded_passes : (sorted : IsSorted t) (mid new : Source) → w.high ≤ w.low + 256 → mid ≡ after_seek now (row_offset t w.low)
      → ReadsThrough t w.low (w.high - 1) mid new → SearchIsBounded t key old new
  bounded_passes sorted mid new small sought passes =
      let rows = w.high - 1 - w.low in
      let end_is : w.low + rows ≡ w.high - 1 = omega (arith, so_far.around.rows) in
      stays_in_bounds sorted new rows (omega (arith, passes.seeks, ap (λ s. s.seeks) sought))
      (omega (arith, passes.read, ap (λ s. s.read) sought, offset_of_row-add t.start t.width w.low rows, ap (row_offset t) end_is))
      (omega (arith, small, (so_far.sorted sorted).left))

  -- how many results there are once the last rows were read
  pub count_at_last : (sorted : IsSorted t) (count_new : ℕ) → length results ≡ length results_old
      → Counts t key w.low (w.high - 1) (length results) count count_new → count_new ≡ min (hits t key) (length results_old)
  count_at_last sorted count_new len counts =
      let before = so_far.sorted sorted in
      omega (arith, before.counted, counts, len, no_hits_before t key w.low before.smaller)
