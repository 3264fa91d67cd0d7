-- The turns of the loops that read rows on and keep the values of those with the key.
use Rattle.std.proofs.Common.{◌≡◌, ◌≢◌, ◌⊎◌, inl, inr, ℕ, suc, ◌+◌, ◌<◌, ◌≤◌, List, [], ◌∷◌, ◌++◌, length, take, drop, set, map, All, refl, sym, ap, ◌∙◌, subst, arith, take-append-drop, length-append}
use Rattle.std.proofs.lemmas.List.{drop-drop, drop-set-lt, map-append, length-map}
use Rattle.std.proofs.lemmas.List.Elements.{All-nil, All-push, All-weaker}
use Rattle.std.proofs.lemmas.List.Quantifiers.{all_pairs_push}
use Rattle.std.proofs.Math.Seq.{take-suc-set, drop-append-add}
use Rattle.std.proofs.Math.Nat.{eq-zero-or-pos}
use Rattle.std.proofs.lemmas.Bool.{cases_lt}
use Rattle.xet_base.specs.Source.{Source, next_bytes}
use Rattle.xet_base.specs.Bytes.{u64_from_bytes}
use Rattle.xet_base.specs.Search.Table.{Table, row_offset, key_at, value_at, HasKey, hits_below, Hit, IsHit, OtherRow, Finds, ReadsCount}
use Rattle.xet_base.specs.Steps.SearchSteps.{IsRow, KeepsValue, FindsFrom, Counts, ReadsThrough, Runs}
use Rattle.xet_base.proofs.Search.Progress.{FindsAround, HasCollected, Keeps}
use Rattle.xet_base.proofs.Lists.{front_is}
use Rattle.xet_base.proofs.Search.Tables.{offset_of_row-next, offset_of_row-le, hits_below-hit, hits_below-miss}
use Rattle.xet_base.proofs.Search.Steps.{serves_still, serves_advanced}

-- a value stored behind a front of known length
stored_behind : {V : Type 0} (front back : List V) (n : ℕ) (v : V) → length front ≡ n → n < length (front ++ drop n back)
    → set (front ++ drop n back) n v ≡ (front ++ v ∷ []) ++ drop (n + 1) back
stored_behind front back n v len room =
    let xs = front ++ drop n back in
    sym (take-append-drop (suc n) (set xs n v))
    ∙ (λ i. take-suc-set xs n v room i ++ drop-set-lt (suc n) xs n v (omega arith) i)
    ∙ (λ i. (front_is n xs front (drop n back) len refl i ++ v ∷ []) ++ seam_drop i)
  where
    seam_drop : drop (suc n) (front ++ drop n back) ≡ drop (n + 1) back
    seam_drop =
        let past : suc n ≡ length front + 1 = omega (arith, len) in
        ap (λ k. drop k (front ++ drop n back)) past ∙ drop-append-add front (drop n back) 1 ∙ drop-drop 1 n back

pub finds_none : {V : Type 0} (t : Table) (key : ℕ) (Gives : List ℕ → V → Type 0) (results : List V) → Finds t key Gives results results 0
finds_none t key Gives results = record {
  found = [];
  number = refl;
  each = All-nil (IsHit t key Gives);
  distinct = λ i j d lt within. absurd (omega (arith, within));
  written = refl;
}

-- one more hit, of another row than those before
finds_push : {V : Type 0} (t : Table) (key : ℕ) (Gives : List ℕ → V → Type 0) (old new : List V) (count : ℕ) (hit : Hit V)
    → (so_far : Finds t key Gives old new count) → count < length new → IsHit t key Gives hit → All (λ h. OtherRow h hit) so_far.found
    → Finds t key Gives old (set new count hit.value) (count + 1)
finds_push t key Gives old new count hit so_far room is_hit others =
    let values = map (λ h. h.value) so_far.found in
    record {
      found = so_far.found ++ hit ∷ [];
      number = length-append so_far.found (hit ∷ []) ∙ ap (λ n. n + 1) so_far.number;
      each = All-push (IsHit t key Gives) so_far.found hit so_far.each is_hit;
      distinct = all_pairs_push OtherRow so_far.found hit so_far.distinct others;
      written = ap (λ xs. set xs count hit.value) so_far.written
          ∙ stored_behind values old count hit.value (length-map so_far.found (λ h. h.value) ∙ so_far.number)
          (omega (arith, room, ap length so_far.written))
          ∙ ap (λ xs. xs ++ drop (count + 1) old) (sym (map-append (λ h. h.value) so_far.found (hit ∷ [])));
    }

-- bytes that were read are there
reads_within : (old new : Source) (n : ℕ) → ReadsCount old new n → old.at ≤ length old.bytes → old.at + n ≤ length old.bytes
reads_within old new n reads inside = elim (eq-zero-or-pos n) [
  | inl none ↦ omega (arith, none, inside)
  | inr some ↦ reads.within some
]

-- what was found from a later row on
pub from_weaker : {V : Type 0} (t : Table) (key : ℕ) (Gives : List ℕ → V → Type 0) (from to : ℕ) (old new : List V) (count : ℕ) → from ≤ to
    → FindsFrom t key Gives to old new count → FindsFrom t key Gives from old new count
from_weaker t key Gives from to old new count le found = record {
  finds = found.finds;
  rows = All-weaker (λ h. to ≤ h.row) (λ h. from ≤ h.row) (λ h past. omega (arith, le, past)) found.finds.found found.rows;
}

pub from_none : {V : Type 0} (t : Table) (key : ℕ) (Gives : List ℕ → V → Type 0) (from : ℕ) (results : List V) → FindsFrom t key Gives from results results 0
unfolding finds_none
from_none t key Gives from results = record { finds = finds_none t key Gives results; rows = All-nil (λ h. from ≤ h.row) }

module _ {V : Type 0} (t : Table) (key : ℕ) (Gives : List ℕ → V → Type 0) (from i to : ℕ) (old results : List V) (count : ℕ) where
  around_start : FindsFrom t key Gives to old results count → FindsAround t key Gives from i to old results count
  around_start found = record {
    finds = found.finds;
    rows = All-weaker (λ h. to ≤ h.row) (λ h. ((from ≤ h.row) × (h.row < i)) ⊎ (to ≤ h.row)) (λ h past. inr past) found.finds.found found.rows;
  }

  pub around_end : from ≤ to → FindsAround t key Gives from i to old results count → FindsFrom t key Gives from old results count
  around_end le found = record {
    finds = found.finds;
    rows = All-weaker (λ h. ((from ≤ h.row) × (h.row < i)) ⊎ (to ≤ h.row)) (λ h. from ≤ h.row) (λ h at. elim at [ inl here ↦ here.0 | inr past ↦ omega (arith, le, past) ])
        found.finds.found found.rows;
  }

  around_skip : FindsAround t key Gives from i to old results count → FindsAround t key Gives from (i + 1) to old results count
  around_skip found = record {
    finds = found.finds;
    rows = All-weaker (λ h. ((from ≤ h.row) × (h.row < i)) ⊎ (to ≤ h.row)) (λ h. ((from ≤ h.row) × (h.row < i + 1)) ⊎ (to ≤ h.row))
        (λ h at. elim at [ inl here ↦ inl (here.0, omega (arith, here.1)) | inr past ↦ inr past ]) found.finds.found found.rows;
  }

  around_keep : (value : V) (new : List V) (count_new : ℕ) → FindsAround t key Gives from i to old results count → from ≤ i → i < to
      → IsHit t key Gives (record { row = i; value = value }) → KeepsValue results new count value count_new → FindsAround t key Gives from (i + 1) to old new count_new
  unfolding finds_push around_skip
  around_keep value new count_new found le lt is_hit kept = elim (cases_lt count (length results)) [
    | inl room ↦ let hit : Hit V = record { row = i; value = value } in
        let more : FindsAround t key Gives from (i + 1) to old (set results count value) (count + 1) = record {
          finds = finds_push t key Gives old results count hit found.finds room is_hit
              (All-weaker (λ h. ((from ≤ h.row) × (h.row < i)) ⊎ (to ≤ h.row)) (λ h. OtherRow h hit)
              (λ h at same. elim at [ inl here ↦ absurd (omega (arith, here.1, same)) | inr past ↦ absurd (omega (arith, past, lt, same)) ]) found.finds.found found.rows);
          rows = All-push (λ h. ((from ≤ h.row) × (h.row < i + 1)) ⊎ (to ≤ h.row)) found.finds.found hit (around_skip found).rows (inl (le, omega arith));
        } in
        rw ((kept.room room).0, (kept.room room).1) more
    | inr full ↦ rw ((kept.full full).0, (kept.full full).1) (around_skip found)
  ]

-- the key that is read at a row's offset
module _ (t : Table) (i : ℕ) (now mid : Source) (same : now.bytes ≡ t.bytes) (at : now.at ≡ row_offset t i) (reads : ReadsCount now mid 8) where
  pub key_is : (found : ℕ) → found ≡ u64_from_bytes (next_bytes now 8) → found ≡ key_at t i
  unfolding key_at
  key_is found is_key = is_key ∙ (λ j. u64_from_bytes (take 8 (drop (at j) (same j))))

  pub key_there : HasKey t i
  key_there = omega (arith, reads.within (omega arith), at, ap length same)

  past_key : mid.at ≡ row_offset t i + 8
  past_key = omega (arith, ap (λ s. s.at) reads.after, at)

  pub key_bytes : mid.bytes ≡ t.bytes
  key_bytes = ap (λ s. s.bytes) reads.after ∙ same

-- the value that is read behind a row's key
module _ (t : Table) (i : ℕ) (mid after : Source) (same : mid.bytes ≡ t.bytes) (at : mid.at ≡ row_offset t i + 8) (reads : ReadsCount mid after t.width) where
  pub value_is : next_bytes mid t.width ≡ value_at t i
  value_is = λ j. take t.width (drop (at j) (same j))

  row_there : HasKey t i → row_offset t (i + 1) ≤ length t.bytes
  row_there there = omega (
    arith,
    there,
    reads_within mid after t.width reads (omega (arith, there, at, ap length same)),
    at,
    ap length same,
    offset_of_row-next t.start t.width i,
  )

  past_row : after.at ≡ row_offset t (i + 1)
  past_row = omega (arith, ap (λ s. s.at) reads.after, at, offset_of_row-next t.start t.width i)

pub collected_start : {V : Type 0} (t : Table) (key : ℕ) (Gives : List ℕ → V → Type 0) (from to : ℕ) (old : Source) (results : List V) (had : ℕ)
    → old.at ≡ row_offset t from → had ≤ length results → HasCollected t key Gives from from to 0 old old results results had had
collected_start t key Gives from to old results had at room = record {
  no_failure = serves_still old;
  at = at;
  seeks = refl;
  read = omega arith;
  finds = λ before found. around_start t key Gives from from to before results had found;
  counted = omega (arith, room);
}

-- one more row has the key: the numbers of kept results
counts_keep : {V : Type 0} (t : Table) (key from i had : ℕ) (value : V) (results new : List V) (room count count_new : ℕ) → Counts t key from i room had count
    → HasKey t i → key_at t i ≡ key → length results ≡ room → KeepsValue results new count value count_new → Counts t key from (i + 1) room had count_new
counts_keep t key from i had value results new room count count_new counted there same_key len kept = elim (cases_lt count (length results)) [
  | inl room ↦ omega (arith, (kept.room room).1, room, len, counted, hits_below-hit t key i there same_key)
  | inr full ↦ omega (arith, (kept.full full).1, full, len, counted, hits_below-hit t key i there same_key)
]

-- the first of a run of rows with the key, whose key was read before
pub collected_first : {V : Type 0} (t : Table) (key : ℕ) (Gives : List ℕ → V → Type 0) (from to : ℕ) (old after : Source) (results new : List V) (had count : ℕ) (value : V)
    → old.bytes ≡ t.bytes → old.at ≡ row_offset t from + 8 → IsRow t key from → from < to → had ≤ length results → ReadsCount old after t.width
    → Gives (value_at t from) value → KeepsValue results new had value count → HasCollected t key Gives from (from + 1) to 8 old after results new had count
collected_first t key Gives from to old after results new had count value same at is_row lt room reads gives kept = record {
  no_failure = serves_advanced old old after t.width (serves_still old) reads.after;
  at = past_row t from old after same at reads;
  seeks = ap (λ s. s.seeks) reads.after;
  read = omega (arith, ap (λ s. s.read) reads.after, offset_of_row-next t.start t.width from);
  finds = λ before found. around_keep t key Gives from from to before results had value new count
      (around_start t key Gives from from to before results had found) (omega arith) lt
      (record { within = is_row.within; there = row_there t from old after same at reads is_row.there; same_key = is_row.same_key; gives = gives }) kept;
  counted = counts_keep t key from from had value results new (length results) had count (omega (arith, room)) is_row.there is_row.same_key refl kept;
}

module _ {V : Type 0} (t : Table) (key : ℕ) (Gives : List ℕ → V → Type 0) (from i to skip : ℕ) (old now mid after : Source) (results_old results : List V) (had count : ℕ)
    (same : old.bytes ≡ t.bytes) (so_far : HasCollected t key Gives from i to skip old now results_old results had count)
    (reads : ReadsCount now mid 8) (reads_value : ReadsCount mid after t.width) where
  now_same : now.bytes ≡ t.bytes
  now_same = so_far.no_failure.bytes ∙ same

  collected_next : (new : List V) (count_new : ℕ)
      → ((before : List V) → FindsAround t key Gives from i to before results count → FindsAround t key Gives from (i + 1) to before new count_new)
      → Counts t key from (i + 1) (length results_old) had count_new → HasCollected t key Gives from (i + 1) to skip old after results_old new had count_new
  collected_next new count_new finds counted = record {
    no_failure = serves_advanced old mid after t.width (serves_advanced old now mid 8 so_far.no_failure reads.after) reads_value.after;
    at = past_row t i mid after (key_bytes t i now mid now_same so_far.at reads) (past_key t i now mid now_same so_far.at reads) reads_value;
    seeks = ap (λ s. s.seeks) reads_value.after ∙ ap (λ s. s.seeks) reads.after ∙ so_far.seeks;
    read = omega (arith, ap (λ s. s.read) reads_value.after, ap (λ s. s.read) reads.after, so_far.read, offset_of_row-next t.start t.width i);
    finds = λ before found. finds before (so_far.finds before found);
    counted = counted;
  }

  pub collected_keep : (value : V) (new : List V) (count_new : ℕ) → from ≤ i → i < to → i < t.rows → key_at t i ≡ key → Gives (next_bytes mid t.width) value
      → length results ≡ length results_old → KeepsValue results new count value count_new → HasCollected t key Gives from (i + 1) to skip old after results_old new had count_new
  collected_keep value new count_new le lt within same_key gives len kept =
      let there : HasKey t i = key_there t i now mid now_same so_far.at reads in
      let mid_same = key_bytes t i now mid now_same so_far.at reads in
      let mid_at = past_key t i now mid now_same so_far.at reads in
      let is_hit : IsHit t key Gives (record { row = i; value = value }) = record {
        within = within;
        there = row_there t i mid after mid_same mid_at reads_value there;
        same_key = same_key;
        gives = subst (λ bytes. Gives bytes value) (value_is t i mid after mid_same mid_at reads_value) gives;
      } in
      collected_next new count_new (λ before found. around_keep t key Gives from i to before results count value new count_new found le lt is_hit kept)
      (counts_keep t key from i had value results new (length results_old) count count_new so_far.counted there same_key len kept)

  pub collected_skip : key_at t i ≢ key → HasCollected t key Gives from (i + 1) to skip old after results_old results had count
  collected_skip other =
      collected_next results count (λ before found. around_skip t key Gives from i to before results count found)
      (omega (arith, so_far.counted, hits_below-miss t key i other))

-- the end of a pass
module _ {V : Type 0} (t : Table) (key : ℕ) (Gives : List ℕ → V → Type 0) (from i to : ℕ) (old now : Source) (results_old results : List V) (had count : ℕ)
    (so_far : HasCollected t key Gives from i to 0 old now results_old results had count) where
  -- in row i, of which no more than all was read
  pub passes_part : (new : Source) (part : ℕ) → new.bytes ≡ now.bytes → new.seeks ≡ now.seeks → new.read ≤ now.read + part → part ≤ 8 + t.width
      → i < to → ReadsThrough t from to old new
  passes_part new part bytes seeks read most lt = record {
    bytes = bytes ∙ so_far.no_failure.bytes;
    seeks = seeks ∙ so_far.seeks;
    read = omega (arith, read, most, so_far.read, offset_of_row-next t.start t.width i, offset_of_row-le t.start t.width (i + 1) to (omega (arith, lt)));
  }

-- the end of a run of rows with the key
module _ {V : Type 0} (t : Table) (key : ℕ) (Gives : List ℕ → V → Type 0) (from i to : ℕ) (old now : Source) (results_old results : List V) (had count : ℕ)
    (so_far : Keeps t key Gives from i to old now results_old results had count) (start : from ≤ i) where
  -- in the key of row i
  pub runs_part : (new : Source) (part : ℕ) → new.bytes ≡ now.bytes → new.seeks ≡ now.seeks → new.read ≤ now.read + part → part ≤ 8 → i ≤ to → Runs t key from to old new
  runs_part new part bytes seeks read most le = record {
    bytes = bytes ∙ so_far.collected.no_failure.bytes;
    seeks = seeks ∙ so_far.collected.seeks;
    end = i;
    past = start;
    within = le;
    equal = omega (arith, so_far.equal);
    read = omega (arith, read, most, so_far.collected.read);
  }

  -- in the value of row i
  pub runs_row : (new : Source) → new.bytes ≡ now.bytes → new.seeks ≡ now.seeks → new.read ≤ now.read + (8 + t.width) → HasKey t i → key_at t i ≡ key
      → i < to → Runs t key from to old new
  runs_row new bytes seeks read there same_key lt = record {
    bytes = bytes ∙ so_far.collected.no_failure.bytes;
    seeks = seeks ∙ so_far.collected.seeks;
    end = i + 1;
    past = omega (arith, start);
    within = omega (arith, lt);
    equal = omega (arith, so_far.equal, hits_below-hit t key i there same_key);
    read = omega (arith, read, so_far.collected.read, offset_of_row-next t.start t.width i);
  }

-- the first value of a run was read in part
pub runs_first : (t : Table) (key from to : ℕ) (old new : Source) → IsRow t key from → from < to → new.bytes ≡ old.bytes → new.seeks ≡ old.seeks
    → new.read ≤ old.read + t.width → Runs t key from to old new
runs_first t key from to old new is_row lt bytes seeks read = record {
  bytes = bytes;
  seeks = seeks;
  end = from + 1;
  past = omega arith;
  within = omega (arith, lt);
  equal = omega (arith, hits_below-hit t key from is_row.there is_row.same_key);
  read = omega (arith, read, offset_of_row-next t.start t.width from);
}

-- past a greater key nothing more counts
pub counts_rest : (t : Table) (key from i to room had count : ℕ) → Counts t key from i room had count → hits_below t key to ≡ hits_below t key i
    → Counts t key from to room had count
counts_rest t key from i to room had count counted none = omega (arith, counted, none)
