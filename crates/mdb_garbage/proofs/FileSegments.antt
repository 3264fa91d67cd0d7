-- The segments of a file that are added one after another.
use Rattle.std.proofs.Common.{◌≡◌, ◌⊎◌, inl, inr, ℕ, ◌+◌, ◌<◌, ◌≤◌, List, [], ◌∷◌, ◌++◌, length, get_or, Some, refl, sym, ap, ◌∙◌, subst, arith}
use Rattle.std.specs.Prelude.{Contains, slice_get}
use Rattle.std.proofs.lemmas.List.Elements.{Contains-push, Contains-push_cases, Contains-append_left}
use Rattle.std.proofs.lemmas.Bool.{cases_order}
use Rattle.std.proofs.lemmas.Option.{same_Some, slice_get_within, slice_get-get_or}
use Rattle.xet_records.specs.declared.file_structs.rows.FileDataSequenceEntry.{FileDataSequenceEntry}
use Rattle.xet_records.specs.declared.file_structs.MDBFileInfo.{MDBFileInfo}
use Rattle.mdb_garbage.specs.declared.finding.Segment.{Segment}
use Rattle.mdb_garbage.specs.declared.range.HashRange.{HashRange}
use Rattle.mdb_garbage.specs.Garbage.{segment_at, IsAmong}
use Rattle.mdb_garbage.specs.CollectedRanges.{InRange}
use Rattle.mdb_garbage.specs.Steps.{PushesSegment, AddsFile}

pub below_or_at : (i n : ℕ) → i < n + 1 → (i < n) ⊎ (i ≡ n)
below_or_at i n low = of (cases_order i n) where
  of : (i ≡ n) ⊎ ((i < n) ⊎ (n < i)) → (i < n) ⊎ (i ≡ n)
  of (inl same) = inr same
  of (inr (inl less)) = inl less
  of (inr (inr more)) = absurd (omega (arith, more, low))

module _ (range : HashRange) (file : MDBFileInfo) where
  -- the segments of a file up to an index were added
  pub record IsAdding (index : ℕ) (old new : List Segment) : Type 0 where
    pub kept : (s : Segment) → Contains old s → Contains new s
    pub added : (s : Segment) → s.index < index → IsAmong file s → InRange range s.xorb → Contains new s
    pub each : (s : Segment) → Contains new s → Contains old s ⊎ IsAmong file s

  module _ (old : List Segment) where
    module _ (index : ℕ) (now new : List Segment) (adding : IsAdding index old now) (row : FileDataSequenceEntry) (at : slice_get file.segments index ≡ Some row) where
      next : Segment
      next = segment_at file index row

      next_among : IsAmong file next
      unfolding next
      next_among = record { row = row; at = at; is = refl }

      is_next : (s : Segment) → IsAmong file s → s.index ≡ index → next ≡ s
      unfolding next
      is_next s is same =
          let row_is : is.row ≡ row = same_Some is.row row (sym is.at ∙ ap (slice_get file.segments) same ∙ at) in
          (λ k. segment_at file (sym same k) (sym row_is k)) ∙ is.is

      pub adding_on : PushesSegment range (segment_at file index row) now new → IsAdding (index + 1) old new
      unfolding next
      adding_on (inl (within, is)) = record {
        kept = λ s has. subst (λ l. Contains l s) (sym is) (Contains-append_left now (next ∷ []) s (adding.kept s has));
        added = λ s low among in_range. which s among in_range (below_or_at s.index index low);
        each = λ s has. from s (Contains-push_cases now next s (subst (λ l. Contains l s) is has));
      } where
        which : (s : Segment) → IsAmong file s → InRange range s.xorb → (s.index < index) ⊎ (s.index ≡ index) → Contains new s
        which s among in_range (inl low) = subst (λ l. Contains l s) (sym is) (Contains-append_left now (next ∷ []) s (adding.added s low among in_range))
        which s among in_range (inr same) = subst (λ l. Contains l s) (sym is) (subst (Contains (now ++ next ∷ [])) (is_next s among same) (Contains-push now next))

        from : (s : Segment) → Contains now s ⊎ (next ≡ s) → Contains old s ⊎ IsAmong file s
        from s (inl has) = adding.each s has
        from s (inr same) = inr (subst (IsAmong file) same next_among)
      adding_on (inr (outside, is)) = record {
        kept = λ s has. subst (λ l. Contains l s) (sym is) (adding.kept s has);
        added = λ s low among in_range. which s among in_range (below_or_at s.index index low);
        each = λ s has. adding.each s (subst (λ l. Contains l s) is has);
      } where
        which : (s : Segment) → IsAmong file s → InRange range s.xorb → (s.index < index) ⊎ (s.index ≡ index) → Contains new s
        which s among in_range (inl low) = subst (λ l. Contains l s) (sym is) (adding.added s low among in_range)
        which s among in_range (inr same) = absurd (outside (subst (λ t. InRange range t.xorb) (sym (is_next s among same)) in_range))

    -- a row that was read from the file's segments
    pub adding_read : (index : ℕ) (now new : List Segment) → IsAdding index old now → (rows : List FileDataSequenceEntry) (d : FileDataSequenceEntry) (segment : Segment) → rows ≡ file.segments
        → index < length rows → segment ≡ segment_at file index (get_or rows index d) → PushesSegment range segment now new → IsAdding (index + 1) old new
    adding_read index now new adding rows d segment are low is pushes =
        let row = get_or rows index d in
        let at = subst (λ l. slice_get l index ≡ Some row) are (slice_get-get_or rows index d low) in
        adding_on index now new adding row at (subst (λ s. PushesSegment range s now new) is pushes)

    pub all_added : (index : ℕ) (new : List Segment) → IsAdding index old new → length file.segments ≤ index → AddsFile range file old new
    all_added index new adding past = record {
      kept = adding.kept;
      added = λ s among in_range. adding.added s (omega (arith, past, slice_get_within file.segments s.index among.row among.at)) among in_range;
      each = adding.each;
    }
