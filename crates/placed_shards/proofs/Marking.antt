-- The starts of a xorb among those of a sorted list, and the marks that they give.
use Rattle.std.proofs.Common.{◌≡◌, ◌⊎◌, inl, inr, ℕ, zero, suc, ◌+◌, ◌<◌, ◌≤◌, Bool, true, false, List, [], ◌∷◌, ◌++◌, length, map, take, get_or, set, refl, sym, ap, ◌∙◌, subst, true≢false, arith, Some}
use Rattle.std.specs.Prelude.{◌||◌, All, slice_get}
use Rattle.std.specs.Cmp.{both_ways}
use Rattle.std.specs.List.{enumerate_from}
use Rattle.std.specs.List.Sorted.{IsPartitionPoint}
use Rattle.std.specs.Ordering.{nat_cmp, ordering_then, is_lt, eq_by_cmp, MatchOrdering}
use Rattle.std.specs.declared.cmp.Ordering.{Ordering}
use Rattle.std.specs.declared.cmp.Ordering.TheVariants.{Less, Equal, Greater}
use Rattle.std.proofs.lemmas.Bool.{cases_eq}
use Rattle.std.proofs.lemmas.Cmp.{ranked}
use Rattle.std.proofs.lemmas.List.{length-set, length-map, length-take, get_or-take, get_or-map, get_or-set_same, get_or-set_other, get_or_default, same_lists}
use Rattle.std.proofs.lemmas.List.Folds.{list_any-append}
use Rattle.std.proofs.lemmas.List.FromFn.{length-enumerate_from, get_or-enumerate_from}
use Rattle.std.proofs.lemmas.Option.{none-some, same_Some, slice_get_within, slice_get-get_or, get_or_from_slice_get}
use Rattle.xet_base.specs.Hash.{hash_cmp}
use Rattle.xet_base.proofs.HashOrder.{hash_cmp-IsAntisymmetric}
use Rattle.xet_records.specs.declared.xorb_structs.XorbChunkSequenceEntry.{XorbChunkSequenceEntry}
use Rattle.xet_records.specs.declared.xorb_structs.MDBXorbInfo.{MDBXorbInfo}
use Rattle.xet_records.specs.XorbRow.{FitsChunk, with_mark}
use Rattle.xet_records.specs.declared.xorb_structs.XorbChunkSequenceHeader.{XorbChunkSequenceHeader}
use Rattle.xet_records.specs.XorbRecord.{HasItsChunks, xorb_records, xorb_row_count, IsStoredXorb}
use Rattle.xet_records.specs.Limits.{MAX_ROWS}
use Rattle.xet_shards.specs.Write.Section.{total_rows}
use Rattle.xet_shards.proofs.ShardInMemory.Sums.{sum-mapped}
use Rattle.xet_shards.specs.declared.streaming_shard.file_start.FileStart.{FileStart}
use Rattle.xet_shards.specs.Content.Shard.{xorb_hash_of}
use Rattle.xet_shards.specs.StreamingShard.MinimalShard.{start_cmp, has_start, chunk_of, marked_if, mark_starts}
use Rattle.xet_shards.specs.Steps.MinimalWriting.{AreStartsFrom}
use Rattle.xet_shards.proofs.StreamingShard.MinimalWriting.{marked_whole}
use Rattle.placed_shards.specs.Steps.Marks.{AreStartsBefore}
use Rattle.xet_shards.proofs.StreamingShard.FileStarts.{found_at, not_before, not_below_means, place_found, same_xorb}

-- of some starts those that are chunks of a xorb
pub record AreStartsOf (x : MDBXorbInfo) (starts own : List FileStart) : Type 0 where
  pub hashes : All (λ s. s.xorb_hash ≡ xorb_hash_of x) own
  pub indices : All (λ s. s.chunk_index < length x.chunks) own
  pub are : (i : ℕ) → i < length x.chunks
      → has_start own (chunk_of x i) ≡ has_start starts (chunk_of x i)

-- the first starts of a sorted list, up to where some start divides it, are those before it
pub before_place : (starts : List FileStart) (end : FileStart) (at : ℕ)
    → IsPartitionPoint (λ s. is_lt (start_cmp s end) ≡ true) (λ s. is_lt (start_cmp s end) ≡ false) starts at → AreStartsBefore end starts (take at starts)
before_place starts end at point = record { before = first; are = λ s. (within s, from s) }
  where
    first : All (λ s. is_lt (start_cmp s end) ≡ true) (take at starts)
    first k d below = subst (λ t. is_lt (start_cmp t end) ≡ true) (sym (get_or-take at starts k d (omega (arith, below, length-take at starts)))) (point.0 k d (omega arith) (omega (arith, below, length-take at starts)))

    within : (s : FileStart) → has_start (take at starts) s ≡ true → (has_start starts s ≡ true) × (is_lt (start_cmp s end) ≡ true)
    within s has =
        let found = place_found (take at starts) s has in
        let j = found.0 in
        let below = slice_get_within (take at starts) j s found.1 in
        let there : get_or (take at starts) j s ≡ s = get_or_from_slice_get (take at starts) j s s found.1 in
        let same : get_or starts j s ≡ s = sym (get_or-take at starts j s (omega (arith, below, length-take at starts))) ∙ there in (
          found_at starts j s (slice_get-get_or starts j s (omega (arith, below, length-take at starts)) ∙ ap Some same),
          subst (λ t. is_lt (start_cmp t end) ≡ true) there (first j s below),
        )

    from : (s : FileStart) → (has_start starts s ≡ true) × (is_lt (start_cmp s end) ≡ true) → has_start (take at starts) s ≡ true
    from s is =
        let found = place_found starts s is.0 in
        let j = found.0 in
        let below = slice_get_within starts j s found.1 in
        let there : get_or starts j s ≡ s = get_or_from_slice_get starts j s s found.1 in
        let low : j < at = low_is j (λ past. true≢false (sym is.1 ∙ subst (λ t. is_lt (start_cmp t end) ≡ false) there (point.1 j s past below))) in
        found_at (take at starts) j s (slice_get-get_or (take at starts) j s (omega (arith, low, below, length-take at starts)) ∙ ap Some (get_or-take at starts j s low ∙ there))
      where
        low_is : (j : ℕ) → (at ≤ j → ⊥) → j < at
        low_is j none = omega (arith, not_below_means (j + 1) at (λ below. none (omega (arith, below))))

-- a start from the first chunk of a xorb on, and before the end of its chunks, is one of them
module _ (x : MDBXorbInfo) where
  is_chunk_of : (n : ℕ) (s : FileStart) → is_lt (start_cmp s (chunk_of x 0)) ≡ false → is_lt (start_cmp s (chunk_of x n)) ≡ true
      → (s.xorb_hash ≡ xorb_hash_of x) × (s.chunk_index < n)
  is_chunk_of n s low high =
      let is = both (hash_cmp s.xorb_hash (xorb_hash_of x)) (nat_cmp s.chunk_index 0) (nat_cmp s.chunk_index n) low high in
      (hash_cmp-IsAntisymmetric s.xorb_hash (xorb_hash_of x) is.0, less (nat_cmp s.chunk_index n) (ranked s.chunk_index n _ refl) is.1)
    where
      both : (o p q : Ordering) → is_lt (ordering_then o p) ≡ false → is_lt (ordering_then o q) ≡ true → (o ≡ Equal) × (is_lt q ≡ true)
      both Less p q low high = absurd (true≢false low)
      both Equal p q low high = (refl, high)
      both Greater p q low high = absurd (true≢false (sym high))

      less : (o : Ordering) → MatchOrdering o (s.chunk_index < n) (s.chunk_index ≡ n) (n < s.chunk_index) → is_lt o ≡ true → s.chunk_index < n
      less Less ranks is = ranks
      less Equal ranks is = absurd (true≢false (sym is))
      less Greater ranks is = absurd (true≢false (sym is))

  before_end : (i n : ℕ) → i < n → is_lt (start_cmp (chunk_of x i) (chunk_of x n)) ≡ true
  before_end i n below = ap is_lt (same_xorb x i n) ∙ less (nat_cmp i n) (ranked i n _ refl)
    where
      less : (o : Ordering) → MatchOrdering o (i < n) (i ≡ n) (n < i) → is_lt o ≡ true
      less Less ranks = refl
      less Equal ranks = absurd (omega (arith, ranks, below))
      less Greater ranks = absurd (omega (arith, ranks, below))

  -- the starts of a xorb are those between
  between : (starts rest own : List FileStart) (first end : FileStart) → first ≡ chunk_of x 0 → end ≡ chunk_of x (length x.chunks)
      → AreStartsFrom first starts rest → AreStartsBefore end rest own → AreStartsOf x starts own
  between starts rest own first end first_is end_is from before = record {
    hashes = λ k s below. (chunk k s below).0;
    indices = λ k s below. (chunk k s below).1;
    are = λ i within. both_ways (has_start own (chunk_of x i)) (has_start starts (chunk_of x i)) (λ has. ((from.are (chunk_of x i)).0 (((before.are (chunk_of x i)).0 has).0)).0)
        (λ has. (before.are (chunk_of x i)).1 (
          (from.are (chunk_of x i)).1 (has, subst (λ f. is_lt (start_cmp (chunk_of x i) f) ≡ false) (sym first_is) (not_before x i 0 (omega arith))),
          subst (λ e. is_lt (start_cmp (chunk_of x i) e) ≡ true) (sym end_is) (before_end i (length x.chunks) within),
        ));
  }
    where
      chunk : (k : ℕ) (s : FileStart) → k < length own → ((get_or own k s).xorb_hash ≡ xorb_hash_of x) × ((get_or own k s).chunk_index < length x.chunks)
      chunk k s below =
          let t = get_or own k s in
          let has : has_start rest t ≡ true = ((before.are t).0 (found_at own k t (slice_get-get_or own k s below))).0 in
          is_chunk_of (length x.chunks) t (subst (λ f. is_lt (start_cmp t f) ≡ false) first_is ((from.are t).0 has).1) (subst (λ e. is_lt (start_cmp t e) ≡ true) end_is (before.before k s below))

  -- those between the first chunk that a header names and the end
  pub own_are : (h : XorbChunkSequenceHeader) (starts rest own : List FileStart) → h ≡ x.metadata → HasItsChunks x
      → AreStartsFrom record { xorb_hash = h.xorb_hash; chunk_index = 0 } starts rest → AreStartsBefore record { xorb_hash = h.xorb_hash; chunk_index = h.num_entries } rest own → AreStartsOf x starts own
  own_are h starts rest own header whole from before =
      let count = ap (λ (h : XorbChunkSequenceHeader). h.num_entries) header ∙ sym whole in
      between starts rest own _ _ (λ i. record { xorb_hash = (header i).xorb_hash; chunk_index = 0 }) (λ i. record { xorb_hash = (header i).xorb_hash; chunk_index = count i }) from before

-- the chunks of a xorb with marks
abbrev marks_of : (FileStart → Bool) → MDBXorbInfo → List XorbChunkSequenceEntry
marks_of starts x = (mark_starts starts x).chunks

module _ (x : MDBXorbInfo) where
  pub length-marks : (starts : FileStart → Bool) → length (marks_of starts x) ≡ length x.chunks
  length-marks starts =
      length-map (enumerate_from 0 x.chunks) (λ (e : ℕ × XorbChunkSequenceEntry). marked_if (starts (chunk_of x e.0)) e.1) ∙ length-enumerate_from 0 x.chunks

  mark_at : (starts : FileStart → Bool) (i : ℕ) (d : XorbChunkSequenceEntry) → i < length x.chunks → get_or (marks_of starts x) i d ≡ marked_if (starts (chunk_of x i)) (get_or x.chunks i d)
  mark_at starts i d within =
      let mark : ℕ × XorbChunkSequenceEntry → XorbChunkSequenceEntry = λ e. marked_if (starts (chunk_of x e.0)) e.1 in
      get_or-map mark (enumerate_from 0 x.chunks) i (0, d) d (omega (arith, within, length-enumerate_from 0 x.chunks))
      ∙ ap mark (get_or-enumerate_from 0 x.chunks i (0, d) within ∙ ap (λ n. (n, get_or x.chunks i d)) (omega arith))

  -- marks are those of the starts among the xorb's chunks
  pub same_marks : (P Q : FileStart → Bool) → ((i : ℕ) → i < length x.chunks → P (chunk_of x i) ≡ Q (chunk_of x i)) → mark_starts P x ≡ mark_starts Q x
  same_marks P Q same =
      let chunks = same_lists (marks_of P x) (marks_of Q x) (length-marks P ∙ sym (length-marks Q))
      (λ k d below. let within : k < length x.chunks = omega (arith, below, length-marks P) in
      mark_at P k d within ∙ ap (λ b. marked_if b (get_or x.chunks k d)) (same k within) ∙ sym (mark_at Q k d within)) in
      λ i. record x { chunks = chunks i }

  -- marks are those of the starts of the xorb
  pub own_marks : (starts own : List FileStart) → AreStartsOf x starts own → mark_starts (has_start own) x ≡ mark_starts (has_start starts) x
  own_marks starts own are = same_marks (has_start own) (has_start starts) are.are

  pub no_marks : mark_starts (has_start []) x ≡ x
  no_marks =
      let chunks = same_lists (marks_of (has_start []) x) x.chunks (length-marks (has_start [])) (λ k d below. mark_at (has_start []) k d (omega (arith, below, length-marks (has_start [])))) in
      λ i. record x { chunks = chunks i }

  marked_once : (b : Bool) (c : XorbChunkSequenceEntry) → marked_if true (marked_if b c) ≡ marked_if true c
  marked_once true c = let again : with_mark true (with_mark true c.flags) ≡ with_mark true c.flags = omega arith in λ i. record c { flags = again i }
  marked_once false c = refl

  pub rows_marked : (starts : FileStart → Bool) → xorb_row_count (mark_starts starts x) ≡ xorb_row_count x
  rows_marked starts = omega (arith, length-marks starts)

  mark_fits : (b : Bool) (c : XorbChunkSequenceEntry) → FitsChunk c → FitsChunk (marked_if b c)
  mark_fits true c fits = record {
    chunk_hash = fits.chunk_hash;
    chunk_byte_range_start = fits.chunk_byte_range_start;
    unpacked_segment_bytes = fits.unpacked_segment_bytes;
    flags = omega arith;
    unused = fits.unused;
  }
  mark_fits false c fits = fits

  -- a xorb may be stored with marks too
  pub marked_stored : (starts : FileStart → Bool) → IsStoredXorb x → IsStoredXorb (mark_starts starts x)
  marked_stored starts stored = record {
    is_xorb = stored.is_xorb;
    count = marked_whole starts x stored.count;
    widths = record {
      metadata = stored.widths.metadata;
      chunks = λ k c below. let within : k < length x.chunks = omega (arith, below, length-marks starts) in
          subst FitsChunk (sym (mark_at starts k c within)) (mark_fits (starts (chunk_of x k)) (get_or x.chunks k c) (stored.widths.chunks k c within));
    };
  }

  module _ (before : List FileStart) (s : FileStart) (hash : s.xorb_hash ≡ xorb_hash_of x) where
    is_chunk : s ≡ chunk_of x s.chunk_index
    is_chunk i = record { xorb_hash = hash i; chunk_index = s.chunk_index }

    both : (t : FileStart) → has_start (before ++ s ∷ []) t ≡ (has_start before t || has_start (s ∷ []) t)
    both t = list_any-append (eq_by_cmp start_cmp t) before (s ∷ [])

    or_true : (a : Bool) → (a || true) ≡ true
    or_true true = refl
    or_true false = refl

    or_false : (a : Bool) → (a || false) ≡ a
    or_false true = refl
    or_false false = refl

    here : has_start (before ++ s ∷ []) (chunk_of x s.chunk_index) ≡ true
    here = both (chunk_of x s.chunk_index) ∙ ap (λ b. has_start before (chunk_of x s.chunk_index) || b) (found_at (s ∷ []) 0 (chunk_of x s.chunk_index) (ap Some is_chunk))
        ∙ or_true (has_start before (chunk_of x s.chunk_index))

    elsewhere : (k : ℕ) → (k ≡ s.chunk_index → ⊥) → has_start (s ∷ []) (chunk_of x k) ≡ false
    elsewhere k apart = either (has_start (s ∷ []) (chunk_of x k)) refl
      where
        the_one : (j : ℕ) → slice_get (s ∷ []) j ≡ Some (chunk_of x k) → ⊥
        the_one zero there = apart (sym (ap (λ t. t.chunk_index) (same_Some s (chunk_of x k) there)))
        the_one (suc j) there = none-some (chunk_of x k) there

        either : (b : Bool) → has_start (s ∷ []) (chunk_of x k) ≡ b → b ≡ false
        either false is = refl
        either true is = let found = place_found (s ∷ []) (chunk_of x k) is in absurd (the_one found.0 found.1)

    other : (k : ℕ) → (k ≡ s.chunk_index → ⊥) → has_start (before ++ s ∷ []) (chunk_of x k) ≡ has_start before (chunk_of x k)
    other k apart = both (chunk_of x k) ∙ ap (λ b. has_start before (chunk_of x k) || b) (elsewhere k apart) ∙ or_false (has_start before (chunk_of x k))

    abbrev old : List XorbChunkSequenceEntry
    old = marks_of (has_start before) x

    abbrev after : FileStart → Bool
    after = has_start (before ++ s ∷ [])

    module _ (within : s.chunk_index < length x.chunks) (c d : XorbChunkSequenceEntry) (c_is : c ≡ marked_if true (get_or old s.chunk_index d)) where
      is_marked : c ≡ marked_if true (get_or x.chunks s.chunk_index d)
      is_marked = c_is ∙ ap (marked_if true) (mark_at (has_start before) s.chunk_index d within) ∙ marked_once (has_start before (chunk_of x s.chunk_index)) (get_or x.chunks s.chunk_index d)

      each : (k : ℕ) (e : XorbChunkSequenceEntry) → k < length x.chunks → (k ≡ s.chunk_index) ⊎ (k ≡ s.chunk_index → ⊥) → get_or (set old s.chunk_index c) k e ≡ get_or (marks_of after x) k e
      each k e inside (inl same) =
          ap (λ j. get_or (set old s.chunk_index c) j e) same ∙ get_or-set_same old s.chunk_index c e (omega (arith, within, length-marks (has_start before))) ∙ is_marked
          ∙ ap (marked_if true) (get_or_default x.chunks s.chunk_index d e within) ∙ ap (λ b. marked_if b (get_or x.chunks s.chunk_index e)) (sym here)
          ∙ sym (mark_at after s.chunk_index e within) ∙ ap (λ j. get_or (marks_of after x) j e) (sym same)
      each k e inside (inr apart) =
          get_or-set_other old s.chunk_index k c e apart ∙ mark_at (has_start before) k e inside ∙ ap (λ b. marked_if b (get_or x.chunks k e)) (sym (other k apart)) ∙ sym (mark_at after k e inside)

      -- one more start marks one more chunk
      pub one_more_mark : set old s.chunk_index c ≡ marks_of after x
      one_more_mark =
          same_lists (set old s.chunk_index c) (marks_of after x) (length-set old s.chunk_index c ∙ length-marks (has_start before) ∙ sym (length-marks after))
          (λ k e below. each k e (omega (arith, below, length-set old s.chunk_index c, length-marks (has_start before))) (cases_eq k s.chunk_index))

-- marks leave the rows of xorbs as they are
pub few_marked : (starts : FileStart → Bool) (xs : List MDBXorbInfo) → total_rows xorb_records xs ≤ MAX_ROWS → total_rows xorb_records (map (mark_starts starts) xs) ≤ MAX_ROWS
few_marked starts xs few = omega (arith, few, sum-mapped (mark_starts starts) xorb_row_count (λ x. omega (arith, rows_marked x starts)) xs)

-- the front of two lists
front : {X : Type 0} (xs ys : List X) → take (length xs) (xs ++ ys) ≡ xs
front [] [] = refl
front [] (y ∷ ys) = refl
front {X} (x ∷ xs) ys = ap (λ (l : List X). x ∷ l) (front xs ys)

pub front_of : {X : Type 0} (n : ℕ) (xs ys : List X) → n ≡ length xs → take n (xs ++ ys) ≡ xs
front_of n xs ys is = ap (λ k. take k (xs ++ ys)) is ∙ front xs ys
