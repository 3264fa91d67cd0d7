-- Each record in bytes that no shard may have is found.
use Rattle.std.proofs.Common.{◌≡◌, ◌⊎◌, ◌↔◌, inl, inr, Bool, ℕ, ◌+◌, ◌<◌, ◌≤◌, List, [], ◌∷◌, ◌++◌, length, flat_map, get_or, Some, refl, sym, ap, ◌∙◌, subst, append_assoc, append-nil, arith}
use Rattle.std.specs.Prelude.{All, IsTrue, slice_get, if◌then◌else◌}
use Rattle.std.proofs.lemmas.List.Elements.{All-nil, All-cons, All-drop}
use Rattle.std.proofs.lemmas.Option.{same_Some, slice_get_within, slice_get-get_or}
use Rattle.xet_base.specs.declared.merklehash.DataHash.{DataHash}
use Rattle.xet_base.specs.Bytes.{u64_bytes}
use Rattle.xet_base.specs.Hash.{hash_bytes}
use Rattle.xet_records.specs.declared.file_structs.rows.HashRow.{HashRow}
use Rattle.xet_records.specs.FileRow.{FitsHashRow, hash_row}
use Rattle.xet_records.specs.Limits.{MAX_ROWS}
use Rattle.xet_records.specs.Part.{optional_rows}
use Rattle.xet_records.proofs.Lengths.{length-hash_row}
use Rattle.xet_records.proofs.Unique.{hash_row-injective}
use Rattle.xet_core_structures.specs.declared.file_structs.MDBFileInfo.{MDBFileInfo}
use Rattle.xet_core_structures.specs.FileRecord.{IsPlainHeader, IsStored, IsWellFormed, row_count}
use Rattle.placed_shards.proofs.FrontRows.{FirstOf, first_of, none_left}
use Rattle.placed_shards.proofs.Items.{below_or_at}
use Rattle.xet_shards.specs.Steps.FileStore.{AreClear}
use Rattle.shard_bytes.specs.declared.check.Section.{Section}
use Rattle.shard_bytes.specs.declared.check.Finding.{Finding}
use Rattle.shard_bytes.specs.declared.check.Finding.TheVariants.{Malformed}
use Rattle.shard_bytes.specs.Checking.{IsMalformedAt}
use Rattle.shard_bytes.specs.Steps.CheckingSteps.{AddsFaults, AddsMalformed}
use Rattle.shard_bytes.proofs.Checking.{adds_as, adds_well, adds_then, adds_none, adds_if}

-- what is added of the first records of a list
module _ {R : Type 0} (IsFormed : R → Type 0) (rs : List R) (section : Section) where
  abbrev pub FormedBefore : ℕ → Type 0
  FormedBefore n = (k : ℕ) (r : R) → k < n → slice_get rs k ≡ Some r → IsFormed r

  abbrev pub BadBefore : ℕ → Finding → Type 0
  BadBefore n f = (k : ℕ) × (k < n) × (f ≡ Malformed section k) × IsMalformedAt IsFormed rs k

  abbrev pub AddsBefore : ℕ → List Finding → List Finding → Type 0
  AddsBefore n = AddsFaults (FormedBefore n) (BadBefore n)

  pub none_before : (old : List Finding) → AddsBefore 0 old old
  none_before old =
      let formed : FormedBefore 0 = λ k r below. absurd (omega (arith, below)) in
      adds_none (FormedBefore 0) (FormedBefore 0) (BadBefore 0) old old formed formed (λ f so. absurd (omega (arith, so.1))) refl

  pub one_more_judged : (n : ℕ) (r : R) (holds : Bool) (old mid new : List Finding) → slice_get rs n ≡ Some r → (IsTrue holds ↔ IsFormed r) → AddsBefore n old mid
      → new ≡ (if holds then mid else mid ++ Malformed section n ∷ []) → AddsBefore (n + 1) old new
  one_more_judged n r holds old mid new at decides before is =
      adds_as (FormedBefore (n + 1)) (FormedBefore (n + 1)) Both (BadBefore (n + 1)) old new to from
      (adds_well (FormedBefore n × IsFormed r) (FormedBefore n × IsFormed r) (FormedBefore (n + 1)) (FormedBefore (n + 1)) Both old new more more
      (adds_then (FormedBefore n) (FormedBefore n) (IsFormed r) (IsFormed r) (BadBefore n) IsThis old mid new before (adds_if holds (IsFormed r) (Malformed section n) mid new (λ note. note) decides is)))
    where
      IsThis : Finding → Type 0
      IsThis f = (f ≡ Malformed section n) × (¬ IsFormed r)

      Both : Finding → Type 0
      Both f = BadBefore n f ⊎ IsThis f

      more : FormedBefore n × IsFormed r → FormedBefore (n + 1)
      more formed k s below s_at = of (below_or_at k n below)
        where
          of : (k < n) ⊎ (k ≡ n) → IsFormed s
          of (inl less) = formed.0 k s less s_at
          of (inr same) = subst IsFormed (same_Some r s (sym at ∙ ap (slice_get rs) (sym same) ∙ s_at)) formed.1

      to : (f : Finding) → Both f → BadBefore (n + 1) f
      to f (inl (k, below, f_is, bad)) = (k, omega (arith, below), f_is, bad)
      to f (inr (f_is, bad)) = (n, omega arith, f_is, (r, at, bad))

      from : (f : Finding) → BadBefore (n + 1) f → Both f
      from f (k, below, f_is, (s, s_at, bad)) = of (below_or_at k n below)
        where
          of : (k < n) ⊎ (k ≡ n) → Both f
          of (inl less) = inl (k, less, f_is, (s, s_at, bad))
          of (inr same) = inr (f_is ∙ ap (Malformed section) same, λ formed. bad (subst IsFormed (same_Some r s (sym at ∙ ap (slice_get rs) (sym same) ∙ s_at)) formed))

  pub all_judged : (n : ℕ) (old new : List Finding) → length rs ≤ n → AddsBefore n old new → AddsMalformed section IsFormed rs old new
  all_judged n old new past before =
      adds_as (All IsFormed rs) (All IsFormed rs) (BadBefore n) (λ f. (k : ℕ) × (f ≡ Malformed section k) × IsMalformedAt IsFormed rs k) old new (λ f so. (so.0, so.2, so.3))
      (λ f so. (so.0, omega (arith, past, slice_get_within rs so.0 so.2.0 so.2.1), so.1, so.2))
      (adds_well (FormedBefore n) (FormedBefore n) (All IsFormed rs) (All IsFormed rs) (BadBefore n) old new all all before)
    where
      all : FormedBefore n → All IsFormed rs
      all formed k d below = formed k (get_or rs k d) (omega (arith, past, below)) (slice_get-get_or rs k d below)

-- a file is well-formed exactly if its header is plain and the rows of its parts have no reserved words
pub file_formed : (r : MDBFileInfo) → IsStored r → row_count r ≤ MAX_ROWS → (IsPlainHeader r.metadata × AreClear (optional_rows r)) ↔ IsWellFormed r
file_formed r is few = (
  λ plain. record {
    is_file = is.is_file;
    known_flags = plain.0.0;
    reserved = plain.0.1;
    whole = is.whole;
    clear = plain.1;
    rows = few;
    widths = is.widths;
  },
  λ formed. ((formed.known_flags, formed.reserved), formed.clear),
)

-- the row of an optional part, from its hash and its reserved words
pub joined_row : (hash : DataHash) (first second : ℕ) (bytes after_hash after_first after : List ℕ) → bytes ≡ hash_bytes hash ++ after_hash → after_hash ≡ u64_bytes first ++ after_first
    → after_first ≡ u64_bytes second ++ after → bytes ≡ hash_row (record { hash = hash; _unused = first ∷ second ∷ [] }) ++ after
unfolding hash_row
joined_row hash first second bytes after_hash after_first after one two three =
    let h = hash_bytes hash in
    let a = u64_bytes first in
    let b = u64_bytes second in
    one ∙ ap (λ l. h ++ l) (two ∙ ap (λ l. a ++ l) three)
    ∙ sym (ap (λ e. (h ++ (a ++ e)) ++ after) (append-nil b) ∙ append_assoc h (a ++ b) after ∙ ap (λ l. h ++ l) (append_assoc a b after))

-- rows of optional parts, of which the last are left, and the ones before have no reserved words
pub record ClearSoFar (stored : List HashRow) (rest : List ℕ) : Type 0 where
  pub others : List HashRow
  pub fit : All FitsHashRow others
  pub rest_are : rest ≡ flat_map hash_row others
  pub decides : AreClear others ↔ AreClear stored

pub clear_at_first : (stored : List HashRow) (rows : List ℕ) → All FitsHashRow stored → rows ≡ flat_map hash_row stored → ClearSoFar stored rows
clear_at_first stored rows fit are = record { others = stored; fit = fit; rest_are = are; decides = (λ clear. clear, λ clear. clear) }

module _ (stored : List HashRow) (rest : List ℕ) (so_far : ClearSoFar stored rest) where
  pub clear_at_last : length rest < 48 → AreClear stored
  clear_at_last short =
      let none = none_left hash_row FitsHashRow length-hash_row so_far.others so_far.fit (omega (arith, short, ap length so_far.rest_are)) in
      so_far.decides.0 (subst AreClear (sym none) (All-nil (λ (row : HashRow). row._unused ≡ 0 ∷ 0 ∷ [])))

  module _ (row : HashRow) (fits : FitsHashRow row) (after : List ℕ) (split : rest ≡ hash_row row ++ after) where
    next_row : FirstOf hash_row FitsHashRow so_far.others row after
    next_row = first_of hash_row FitsHashRow length-hash_row hash_row-injective so_far.others so_far.fit row fits rest after so_far.rest_are split

    abbrev IsZero : HashRow → Type 0
    IsZero x = x._unused ≡ 0 ∷ 0 ∷ []

    pub row_is_clear : AreClear stored → row._unused ≡ 0 ∷ 0 ∷ []
    row_is_clear clear =
        let all : AreClear (row ∷ next_row.others) = subst AreClear next_row.rows_are (so_far.decides.1 clear) in
        all 0 row (omega arith)

    pub still_clear : row._unused ≡ 0 ∷ 0 ∷ [] → ClearSoFar stored after
    still_clear zero = record {
      others = next_row.others;
      fit = next_row.fit;
      rest_are = next_row.after_are;
      decides = (
        λ clear. so_far.decides.0 (subst AreClear (sym next_row.rows_are) (All-cons IsZero row next_row.others zero clear)),
        λ clear. All-drop IsZero 1 (row ∷ next_row.others) (subst AreClear next_row.rows_are (so_far.decides.1 clear)),
      );
    }
