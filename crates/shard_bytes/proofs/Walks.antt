-- Walks from row to row have exactly the records of a section.
use Rattle.std.proofs.Common.{◌≡◌, ◌⊎◌, inl, inr, ℕ, ◌+◌, ◌*◌, ◌^◌, ◌<◌, ◌≤◌, List, [], ◌∷◌, ◌++◌, length, map, flat_map, drop, Option, None, Some, refl, sym, ap, ◌∙◌, subst, arith}
use Rattle.std.specs.Prelude.{◌↔◌, All, sum_by}
use Rattle.std.specs.FinMap.{FinMap, values}
use Rattle.std.proofs.lemmas.List.{append_assoc, drop-drop, length-drop}
use Rattle.std.proofs.lemmas.List.Elements.{All-cons, All-drop, All-nil}
use Rattle.std.proofs.lemmas.List.Sums.{sum_by-cons}
use Rattle.xet_base.specs.Hash.{hash_cmp}
use Rattle.xet_base.proofs.Lists.{rest_is}
use Rattle.xet_core_structures.specs.declared.error.CoreError.{CoreError}
use Rattle.xet_core_structures.specs.declared.error.CoreError.TheVariants.{OutOfMemory}
use Rattle.xet_core_structures.specs.declared.shard_format.MDBShardInfo.{MDBShardInfo}
use Rattle.xet_core_structures.specs.TwoShards.ByteResults.{LoadRefusal}
use Rattle.xet_core_structures.specs.Ends.{HasHeaderAndFooter}
use Rattle.xet_core_structures.specs.Lookup.{row_at}
use Rattle.xet_core_structures.specs.Records.ShardContents.{IsSectionOf}
use Rattle.xet_core_structures.specs.SectionReading.{BeginsWithBookend, BeginsRefused, EndsEarly, SectionCase}
use Rattle.xet_core_structures.specs.SectionReading.SectionCase.{not_read, passes_limit}
use Rattle.xet_core_structures.specs.Source.ReadCase.{out_of_memory, out_of_bytes}
use Rattle.xet_records.specs.RecordKind.{RecordKind}
use Rattle.xet_records.proofs.RecordKinds.{KindLaws, length-record_bytes, stored_begins, header_within, bookend_or_header, bookend_or_passes, bookend_or_ends, no_record}
use Rattle.xet_shards.proofs.Ends.EndsUnique.{only_info, not_unsupported, not_too_short}
use Rattle.xet_shards.proofs.Read.SectionUnique.{only_list}
use Rattle.shard_bytes.specs.Walking.{IsAtRow, NotAtRow, WithEnds, Walks, IsSectionReadAs}

-- from a row on are the bytes of these records, as reading returns them, and then a bookend; the rows fit 32 bits
record Follow {H R : Type 0} (K : RecordKind H R) (bytes : List ℕ) (row : ℕ) (found : List R) : Type 0 where
  stored : List R
  rest : List ℕ
  are_stored : All K.IsStored stored
  rows : row + sum_by K.row_count stored < 2 ^ 32
  bytes_are : bytes ≡ flat_map K.record_bytes stored ++ rest
  bookend : BeginsWithBookend K rest
  returned : map K.as_read stored ≡ found

module _ {H R : Type 0} (K : RecordKind H R) (laws : KindLaws K) (bytes : List ℕ) (offset : ℕ) where
  abbrev from_row : ℕ → List ℕ
  from_row row = drop (row_at offset row) bytes

  abbrev At : ℕ → Option R → Type 0
  At row o = IsAtRow K bytes offset row o

  -- after the rows of a record comes what follows it
  after : (row : ℕ) (r : R) (rest : List ℕ) → K.IsStored r → from_row row ≡ K.record_bytes r ++ rest → from_row (row + K.row_count (K.as_read r)) ≡ rest
  after row r rest stored are =
      let there : row_at offset (row + K.row_count (K.as_read r)) ≡ row_at offset row + 48 * K.row_count r = omega (arith, laws.same_rows r) in
      ap (λ n. drop n bytes) there ∙ sym (drop-drop (48 * K.row_count r) (row_at offset row) bytes)
      ∙ rest_is (48 * K.row_count r) (from_row row) (K.record_bytes r) rest (length-record_bytes K laws r stored) are

  follow : (row : ℕ) (found : List R) → Walks At K.row_count row found → Follow K (from_row row) row found
  follow row [] (fits, none) = record { stored = []; rest = from_row row; are_stored = All-nil K.IsStored; rows = omega (arith, fits); bytes_are = refl; bookend = none; returned = refl }
  follow row (r ∷ rs) (fits, at, on) =
      let next = follow (row + K.row_count r) rs on in
      let rows : K.row_count at.stored ≡ K.row_count r = sym (laws.same_rows at.stored) ∙ ap (λ (t : R). K.row_count t) at.returned in
      let later : from_row (row + K.row_count r) ≡ at.taken.0 = subst (λ t. from_row (row + K.row_count t) ≡ at.taken.0) at.returned (after row at.stored at.taken.0 at.is_stored at.taken.1) in
      record {
        stored = at.stored ∷ next.stored;
        rest = next.rest;
        are_stored = All-cons K.IsStored at.stored next.stored at.is_stored next.are_stored;
        rows = omega (arith, sum_by-cons K.row_count at.stored next.stored, rows, next.rows);
        bytes_are = at.taken.1 ∙ ap (λ bs. K.record_bytes at.stored ++ bs) (sym later ∙ next.bytes_are)
            ∙ sym (append_assoc (K.record_bytes at.stored) (flat_map K.record_bytes next.stored) next.rest);
        bookend = next.bookend;
        returned = λ i. at.returned i ∷ next.returned i;
      }

  walk : (row : ℕ) (stored : List R) (rest : List ℕ) → All K.IsStored stored → row + sum_by K.row_count stored < 2 ^ 32 → from_row row ≡ flat_map K.record_bytes stored ++ rest
      → BeginsWithBookend K rest → Walks At K.row_count row (map K.as_read stored)
  walk row [] rest stored rows are bookend = (omega (arith, rows), subst (BeginsWithBookend K) (sym are) bookend)
  walk row (r ∷ rs) rest stored rows are bookend =
      let here = stored 0 r (omega arith) in
      let whole = are ∙ append_assoc (K.record_bytes r) (flat_map K.record_bytes rs) rest in (
        omega (arith, rows),
        record { stored = r; is_stored = here; rows = omega (arith, laws.rows r here, sum_by-cons K.row_count r rs, rows); taken = (flat_map K.record_bytes rs ++ rest, whole); returned = refl },
        walk (row + K.row_count (K.as_read r)) rs rest (All-drop K.IsStored 1 (r ∷ rs) stored) (omega (arith, rows, sum_by-cons K.row_count r rs, laws.same_rows r))
            (after row r (flat_map K.record_bytes rs ++ rest) here whole) bookend,
      )

  at_start : drop offset bytes ≡ from_row 0
  at_start = ap (λ n. drop n bytes) (omega arith)

  -- what is walked from row 0 is what the section has
  pub walk_is_section : (found : List R) → Walks At K.row_count 0 found ↔ IsSectionReadAs K (drop offset bytes) found
  walk_is_section found = (
    λ walks.
        let all = follow 0 found walks in (
          all.stored,
          record { rest = all.rest; records = record { are_stored = all.are_stored; rows = omega (arith, all.rows); bytes_are = at_start ∙ all.bytes_are }; bookend = all.bookend },
          all.returned,
        ),
    λ has.
        let section = has.1 in
        subst (Walks At K.row_count 0) has.2
        (walk 0 has.0 section.rest section.records.are_stored (omega (arith, section.records.rows)) (sym at_start ∙ section.records.bytes_are) section.bookend),
  )

  bookend_alone : (row : ℕ) (r : R) → At row None → ¬ At row (Some r)
  bookend_alone row r none at =
      bookend_or_header K laws (from_row row) (K.header_of at.stored) (K.bytes_after at.stored ++ at.taken.0) none (stored_begins K laws (from_row row) at.stored at.taken.0 at.is_stored at.taken.1)

  -- at a row is one record, or none
  pub one_at : (row : ℕ) (x y : Option R) → At row x → At row y → x ≡ y
  one_at row None None a b = refl
  one_at row None (Some r) a b = absurd (bookend_alone row r a b)
  one_at row (Some r) None a b = absurd (bookend_alone row r b a)
  one_at row (Some r) (Some s) a b =
      let same = laws.front a.stored b.stored a.taken.0 b.taken.0 a.is_stored b.is_stored (sym a.taken.1 ∙ b.taken.1) in
      ap Some (sym a.returned ∙ ap (λ (t : R). K.as_read t) same.0 ∙ b.returned)

  -- its rows are those that its header announces, and the header
  pub rows_at : (row : ℕ) (r : R) → At row (Some r) → K.row_count r ≡ 1 + K.rows_after (K.header_of r)
  rows_at row r at =
      subst (λ (t : R). K.row_count t ≡ 1 + K.rows_after (K.header_of t)) at.returned (laws.rows (K.as_read at.stored) (laws.as_read_stored at.stored at.is_stored))

  within : (row : ℕ) (found : Option R) → At row found → row_at offset row + 48 ≤ length bytes
  within row None at = omega (arith, length-drop (row_at offset row) bytes, header_within K laws (from_row row) at.header at.rest at.bytes_are)
  within row (Some r) at =
      let begins = stored_begins K laws (from_row row) at.stored at.taken.0 at.is_stored at.taken.1 in
      omega (arith, length-drop (row_at offset row) bytes, header_within K laws (from_row row) (K.header_of at.stored) (K.bytes_after at.stored ++ at.taken.0) begins.bytes_are)

  readable : (row : ℕ) (found : Option R) → At row found → ¬ (BeginsRefused K 4294967296 (from_row row) ⊎ EndsEarly K 4294967296 (from_row row))
  readable row None at (inl refused) = bookend_or_passes K laws 4294967296 (from_row row) at refused
  readable row None at (inr short) = bookend_or_ends K laws 4294967296 (from_row row) at short
  readable row (Some r) at stops =
      no_record K laws 4294967296 (from_row row) at.stored at.taken.0 at.is_stored (omega (arith, laws.rows at.stored at.is_stored, at.rows)) at.taken.1 (inr stops)

  -- there it is read unless an allocation fails
  pub memory_alone : (row : ℕ) (found : Option R) (e : CoreError) → At row found → SectionCase (BeginsRefused K 4294967296) (EndsEarly K 4294967296) (from_row row) e → e ≡ OutOfMemory
  memory_alone row found e at (not_read (out_of_memory is)) = is
  memory_alone row found e at (not_read (out_of_bytes is short)) = absurd (readable row found at (inr short))
  memory_alone row found e at (passes_limit is refused) = absurd (readable row found at (inl refused))

  only_memory : (row : ℕ) (found : Option R) (e : CoreError) → length bytes < 2 ^ 64 → At row found → NotAtRow K bytes offset row e → e ≡ OutOfMemory
  only_memory row found e small at (inl (bare, past)) = absurd (omega (arith, small, past, within row found at))
  only_memory row found e small at (inr case) = memory_alone row found e at case

  -- the section of a map has its values
  pub has_values : (m : FinMap hash_cmp R) → IsSectionOf K (drop offset bytes) m → (found : List R) → IsSectionReadAs K (drop offset bytes) found ↔ (found ≡ values m)
  has_values m is found = (
    λ has. sym has.2 ∙ ap (map K.as_read) (only_list K laws (drop offset bytes) has.0 is.stored has.1 is.section) ∙ is.returned,
    λ same. (is.stored, is.section, is.returned ∙ sym same),
  )

-- walks over the same rows
same_walks : {R : Type 0} (One Other : ℕ → Option R → Type 0) (rows : R → ℕ) → ((row : ℕ) (o : Option R) → One row o → Other row o) → (row : ℕ) (found : List R) → Walks One rows row found → Walks Other rows row found
same_walks One Other rows other row [] (fits, none) = (fits, other row None none)
same_walks One Other rows other row (r ∷ rs) (fits, at, on) = (fits, other row (Some r) at, same_walks One Other rows other (row + rows r) rs on)

-- what is said with the header and the footer that bytes have
module _ (bytes : List ℕ) (info : MDBShardInfo) (ends : HasHeaderAndFooter bytes info) where
  pub said_of : (Says : MDBShardInfo → Type 0) → WithEnds bytes Says → Says info
  said_of Says (other, there, says) = subst Says (only_info bytes other info there ends) says

  pub not_refused : (e : CoreError) → ¬ LoadRefusal bytes e
  not_refused e (inl (is, unsupported)) = not_unsupported bytes info ends unsupported
  not_refused e (inr (is, short)) = not_too_short bytes info ends short

  module _ {H R : Type 0} (K : MDBShardInfo → RecordKind H R) (laws : KindLaws (K info)) (offset : MDBShardInfo → ℕ) where
    abbrev HasAt : ℕ → Option R → Type 0
    HasAt row o = WithEnds bytes (λ i. IsAtRow (K i) bytes (offset i) row o)

    here : (row : ℕ) (o : Option R) → HasAt row o → IsAtRow (K info) bytes (offset info) row o
    here row o has = said_of (λ i. IsAtRow (K i) bytes (offset i) row o) has

    pub walked_with_ends : (found : List R) → Walks HasAt (K info).row_count 0 found ↔ IsSectionReadAs (K info) (drop (offset info) bytes) found
    walked_with_ends found =
        let Here : ℕ → Option R → Type 0 = λ row o. IsAtRow (K info) bytes (offset info) row o in
        let both = walk_is_section (K info) laws bytes (offset info) found in (
          λ walks. both.0 (same_walks HasAt Here (K info).row_count here 0 found walks),
          λ has. same_walks Here HasAt (K info).row_count (λ row o at. (info, ends, at)) 0 found (both.1 has),
        )

    pub one_with_ends : (row : ℕ) (x y : Option R) → HasAt row x → HasAt row y → x ≡ y
    one_with_ends row x y a b = one_at (K info) laws bytes (offset info) row x y (here row x a) (here row y b)

    pub rows_with_ends : (row : ℕ) (r : R) → HasAt row (Some r) → (K info).row_count r ≡ 1 + (K info).rows_after ((K info).header_of r)
    rows_with_ends row r has = rows_at (K info) laws bytes (offset info) row r (here row (Some r) has)

    pub only_memory_with_ends : (row : ℕ) (found : Option R) (e : CoreError) → length bytes < 2 ^ 64 → HasAt row found
        → LoadRefusal bytes e ⊎ WithEnds bytes (λ i. NotAtRow (K i) bytes (offset i) row e) → e ≡ OutOfMemory
    only_memory_with_ends row found e small at (inl refused) = absurd (not_refused e refused)
    only_memory_with_ends row found e small at (inr fails) =
        only_memory (K info) laws bytes (offset info) row found e small (here row found at) (said_of (λ i. NotAtRow (K i) bytes (offset i) row e) fails)
