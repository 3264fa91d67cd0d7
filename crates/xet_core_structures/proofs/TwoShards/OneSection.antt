-- One of two sections that are read side by side: the header of its next record was read, after others.
use Rattle.std.proofs.Common.{◌≡◌, inl, inr, ℕ, ◌+◌, ◌*◌, ◌≤◌, if◌then◌else◌, List, [], ◌∷◌, ◌++◌, length, get_or, map, drop, Option, None, Some, IfSome, is_some, refl, sym, ap, ◌∙◌, subst, arith, append-nil, append_assoc}
use Rattle.std.specs.Prelude.{option_to_list}
use Rattle.std.specs.List.Sorted.{IsStrictlySortedBy}
use Rattle.std.specs.declared.cmp.Ordering.TheVariants.{Less}
use Rattle.std.proofs.lemmas.Option.{same_Some, none-some}
use Rattle.xet_base.specs.declared.error.CoreError.{CoreError}
use Rattle.xet_base.specs.declared.error.CoreError.TheVariants.{InvalidShard}
use Rattle.xet_base.specs.declared.merklehash.DataHash.{DataHash}
use Rattle.xet_base.specs.Errors.{IsInvalidShard, IsBareInvalidShard}
use Rattle.xet_base.specs.Hash.{hash_cmp}
use Rattle.xet_base.specs.InputLaws.{ReadsBytes-nil, ReadsBytes-trans, failed_after}
use Rattle.xet_base.specs.Source.{Source, ReadsBytes, ReadFails, bytes_left, NoFailure}
use Rattle.xet_base.specs.Source.ReadCase.{out_of_memory, out_of_bytes}
use Rattle.xet_base.proofs.Reading.{ReadsBytes-consumes}
use Rattle.xet_records.specs.declared.record_reader.FormatVersion.{FormatVersion}
use Rattle.xet_records.specs.RecordKind.{RecordKind, in_version, KindLaws}
use Rattle.xet_records.specs.Reading.{ReadsNextHeader, ReadsRowsAfter, CountsHeader, CountsRecord, HasRead}
use Rattle.xet_records.specs.Reading.NextRecordNotRead.{no_rows}
use Rattle.xet_records.proofs.RecordKinds.{laws_in}
use Rattle.xet_records.proofs.SectionRecords.{nothing_read, more_read, rows_after_header}
use Rattle.xet_shards.specs.Write.WithOptions.{Ascends}
use Rattle.xet_shards.specs.Read.SectionReading.{HoldsRecords, BeginsRefused, EndsEarly, rows_left, SectionCase}
use Rattle.xet_shards.specs.Steps.SectionReadingSteps.{RecordFails}
use Rattle.xet_shards.specs.Read.SectionReading.SectionCase.{not_read, passes_limit}
use Rattle.xet_shards.proofs.Read.SectionReading.{holds, section_failure, record_fails}
use Rattle.xet_core_structures.specs.Records.RecordPairs.{key_of_record, ComeBefore}
use Rattle.xet_core_structures.specs.Records.ShardContents.{BeginsInOrder, IsTruncatedInOrder, IsRefusedInOrder}
use Rattle.xet_core_structures.specs.Steps.MergeJoin.{IsRecordHeader, ReadsFollowing, FollowingFails, Advances, ReadsOptionalRecord, SectionRefusal, AscendingNotStreamed, GoesOnAfter}
use Rattle.xet_core_structures.specs.Steps.MergeJoin.FollowingFails.{not_read as next_not_read, falls}
use Rattle.xet_core_structures.proofs.Records.RecordPairs.{ascends_push, IsUnder}
use Rattle.xet_core_structures.proofs.Records.ShardContents.{hashes_handed, stored_ascend}

-- what is known of sources after calls that did not fail
pub serves_on : (a b c : Source) → NoFailure a b → NoFailure b c → NoFailure a c
serves_on a b c first last = record {
  bytes = last.bytes ∙ first.bytes;
  failures = last.failures ∙ first.failures;
  last_failure = last.last_failure ∙ first.last_failure;
}

pub serves_same : (a b : Source) → b ≡ a → NoFailure a b
serves_same a b is = record { bytes = ap (λ (s : Source). s.bytes) is; failures = ap (λ (s : Source). s.failures) is; last_failure = ap (λ (s : Source). s.last_failure) is }

pub taken_serves : (a b : Source) (xs : List ℕ) → ReadsBytes a b xs → NoFailure a b
taken_serves a b xs taken = record {
  bytes = ap (λ (s : Source). s.bytes) taken.after;
  failures = ap (λ (s : Source). s.failures) taken.after;
  last_failure = ap (λ (s : Source). s.last_failure) taken.after;
}

-- lists that begin alike
none_first : {X : Type 0} (x : X) (xs : List X) → ¬ ([] ≡ x ∷ xs)
none_first x xs same = omega (arith, ap length same)

first_same : {X : Type 0} (x y : X) (xs ys : List X) → x ∷ xs ≡ y ∷ ys → x ≡ y
first_same x y xs ys same = ap (λ zs. get_or zs 0 x) same

bare_invalid : (e : CoreError) → IsBareInvalidShard e → IsInvalidShard e
bare_invalid (InvalidShard text) is = tt
bare_invalid _ is = absurd is

-- what is left of a section, which each turn that reads of it makes less
abbrev pub weight : {H : Type 0} → ℕ → Option H → ℕ
weight left None = 0
weight left (Some h) = left + 1

module _ {H R : Type 0} (K : RecordKind H R) where
  -- a header's record was read past without a failure
  pub passed_serves : (header : Option H) (old new : Source) (found : Option R) → ReadsOptionalRecord K header old new found → NoFailure old new
  passed_serves None old new found (none, same) = serves_same old new same
  passed_serves (Some h) old new found (r, is, read) = taken_serves old new _ read.taken

  -- the header of the next record was read, after others
  pub record HasPending (start now : Source) (left : ℕ) (next : Option H) (found : List R) : Type 0 where
    pub mid : Source
    pub before : ℕ
    pub records : HasRead K (ReadsBytes start mid) found before
    pub header : ReadsNextHeader K (ReadsBytes mid now) before left next

module _ {H R : Type 0} (K : RecordKind H R) (laws : KindLaws K) where
  -- the header of a record, as it was returned
  pub header_of_found : (Took : List ℕ → Type 0) (h : H) (found : R) → ReadsRowsAfter K h Took found → K.header_of found ≡ h
  header_of_found Took h found read = ap K.header_of (sym read.returned) ∙ laws.same_header read.stored ∙ read.same_header

-- one section, in its version
module _ {H R : Type 0} (K : RecordKind H R) (laws : KindLaws K) (version : FormatVersion) where
  pub pending_start : (start now : Source) (left : ℕ) (next : Option H) → ReadsFollowing (in_version K version) None start now 4294967295 left next → HasPending (in_version K version) start now left next []
  pending_start start now left next following =
      record { mid = start; before = 4294967295; records = nothing_read (in_version K version) (laws_in K laws version) (ReadsBytes start start) (ReadsBytes-nil start); header = following.read }

  module _ (start now : Source) (left : ℕ) (next : Option H) (found : List R) (pending : HasPending (in_version K version) start now left next found) where
    has_begun : (h : H) → next ≡ Some h → CountsHeader (in_version K version) (ReadsBytes pending.mid now) pending.before left h
    has_begun h is = subst (ReadsNextHeader (in_version K version) (ReadsBytes pending.mid now) pending.before left) is pending.header

    pub pending_header : (h : H) → next ≡ Some h → IsRecordHeader K h
    pending_header h is = let header = has_begun h is in record { is_record = header.read.is_record; fits = header.read.widths }

    pub pending_serves : NoFailure start now
    pending_serves = serves_on start pending.mid now (taken_serves start pending.mid _ pending.records.taken) (next_serves next pending.header) where
      next_serves : (o : Option H) → ReadsNextHeader (in_version K version) (ReadsBytes pending.mid now) pending.before left o → NoFailure pending.mid now
      next_serves None end = taken_serves pending.mid now _ end.bookend.taken
      next_serves (Some h) header = taken_serves pending.mid now _ header.read.taken

    -- its record was read too
    read_on : (h : H) (mid : Source) (r : R) → next ≡ Some h → ReadsOptionalRecord K (Some h) now mid (Some r) → HasRead (in_version K version) (ReadsBytes start mid) (found ++ r ∷ []) left
    read_on h mid r is (s, same, read) =
        let header = has_begun h is in
        let read_r = subst (λ (o : R). CountsRecord (in_version K version) (ReadsBytes pending.mid mid) pending.before left o) (sym (same_Some r s same))
        (rows_after_header K laws version (ReadsBytes pending.mid now) (ReadsBytes now mid) (ReadsBytes pending.mid mid) pending.before left h s (ReadsBytes-trans pending.mid now mid) header
        (omega (arith, pending.records.rows)) read) in
        more_read (in_version K version) (laws_in K laws version) (ReadsBytes start pending.mid) (ReadsBytes pending.mid mid) (ReadsBytes start mid) found pending.before left r (ReadsBytes-trans start pending.mid mid) pending.records read_r

    -- the next record after it, or where none was passed, the same
    pub pending_on : (mid new : Source) (after : ℕ) (passed next' : Option H) (one : Option R) → ((h : H) → passed ≡ Some h → next ≡ Some h) → ReadsOptionalRecord K passed now mid one
        → Advances (in_version K version) next passed mid new left after next' → HasPending (in_version K version) start new after next' (found ++ option_to_list one)
    pending_on mid new after None next' one is (none, stays) (next_is, new_is, after_is) =
        subst (λ p. p) (λ i. HasPending (in_version K version) start (sym (new_is ∙ stays) i) (sym after_is i) (sym next_is i) (found ++ option_to_list (sym none i)))
        (subst (HasPending (in_version K version) start now left next) (sym (append-nil found)) pending)
    pending_on mid new after (Some h) next' one is (r, same, read) following = record {
      mid = mid;
      before = left;
      records = subst (λ o. HasRead (in_version K version) (ReadsBytes start mid) (found ++ option_to_list o) left) (sym same) (read_on h mid r (is h refl) (r, refl, read));
      header = following.read;
    }

    -- the record is one under the hash of its header
    pub under_pending : (mid : Source) (k : DataHash) (passed : Option H) (one : Option R) → ((h : H) → passed ≡ Some h → (next ≡ Some h) × (K.hash_of h ≡ k)) → ReadsOptionalRecord K passed now mid one → IsUnder K k one
    under_pending mid k None one is (none, stays) = subst (IsUnder K k) (sym none) tt
    under_pending mid k (Some h) one is (r, same, read) =
        let header = pending_header h (is h refl).0 in
        subst (IsUnder K k) (sym same) (
          ap K.hash_of (ap K.header_of (sym read.returned) ∙ laws.same_header read.stored ∙ read.same_header) ∙ (is h refl).1,
          subst K.IsStored read.returned (laws.as_read_stored read.stored (read.is_stored header.is_record header.fits)),
        )

    -- what the bytes begin with
    pub record HasFront (passed : Option H) (one : Option R) (k : DataHash) : Type 0 where
      pub stored : List R
      pub rest : List ℕ
      pub holds : HoldsRecords (in_version K version) (bytes_left start) stored rest
      pub returned : map K.as_read stored ≡ found ++ option_to_list one
      pub goes_on : one ≡ None → GoesOnAfter K k rest

    pub front_of : (mid : Source) (k : DataHash) (passed : Option H) (one : Option R) → ((h : H) → passed ≡ Some h → next ≡ Some h)
        → (passed ≡ None → IfSome next (λ h. hash_cmp k (K.hash_of h) ≡ Less)) → ReadsOptionalRecord K passed now mid one → HasFront passed one k
    front_of mid k None one is later (none, stays) = record {
      stored = pending.records.stored;
      rest = bytes_left pending.mid;
      holds = holds (in_version K version) (laws_in K laws version) start pending.mid found pending.before pending.records;
      returned = pending.records.returned ∙ sym (append-nil found) ∙ ap (λ o. found ++ option_to_list o) (sym none);
      goes_on = λ _. on next pending.header (later refl);
    } where
      on : (o : Option H) → ReadsNextHeader (in_version K version) (ReadsBytes pending.mid now) pending.before left o → IfSome o (λ h. hash_cmp k (K.hash_of h) ≡ Less) → GoesOnAfter K k (bytes_left pending.mid)
      on None end less = inl (record {
        header = end.bookend.header;
        rest = bytes_left now;
        widths = end.bookend.widths;
        is_bookend = end.bookend.is_bookend;
        bytes_are = ReadsBytes-consumes pending.mid now (K.header_bytes end.bookend.header) end.bookend.taken;
      })
      on (Some h) header less = inr (
        h,
        bytes_left now,
        record { widths = header.read.widths; is_record = header.read.is_record; bytes_are = ReadsBytes-consumes pending.mid now (K.header_bytes h) header.read.taken },
        less,
      )
    front_of mid k (Some h) one is later (r, same, read) =
        let whole = read_on h mid r (is h refl) (r, refl, read) in
        record {
          stored = whole.stored;
          rest = bytes_left mid;
          holds = holds (in_version K version) (laws_in K laws version) start mid (found ++ r ∷ []) left whole;
          returned = whole.returned ∙ ap (λ o. found ++ option_to_list o) (sym same);
          goes_on = λ none. absurd (none-some r (sym none ∙ same));
        }

  -- a turn brings a section on: fewer rows are left, or there is no next record
  pub weight_on : (next passed next' : Option H) (old new : Source) (left after : ℕ) → ((h : H) → passed ≡ Some h → next ≡ Some h) → Advances (in_version K version) next passed old new left after next'
      → weight after next' + (if is_some passed then 1 else 0) ≤ weight left next
  weight_on next None next' old new left after is (next_is, _, after_is) =
      let same : weight after next' ≡ weight left next = λ i. weight (after_is i) (next_is i) in
      omega (arith, same)
  weight_on next (Some h) next' old new left after is following = subst (λ o. weight after next' + 1 ≤ weight left o) (sym (is h refl)) (fewer next' following.read) where
    fewer : (o : Option H) → ReadsNextHeader (in_version K version) (ReadsBytes old new) left after o → weight after o + 1 ≤ left + 1
    fewer None end = omega (arith, end.stays)
    fewer (Some g) header = omega (arith, header.rows)

  -- why a section was not read on
  refused_section : (bytes : List ℕ) (e : CoreError) → SectionCase (IsRefusedInOrder (in_version K version)) (IsTruncatedInOrder (in_version K version)) bytes e → SectionRefusal K version bytes e
  refused_section bytes e (not_read (out_of_memory is)) = inl is
  refused_section bytes e (not_read (out_of_bytes is cut)) = inr (inl (is, cut))
  refused_section bytes e (passes_limit is passes) = inr (inr (bare_invalid e is, inl passes))

  not_taken : (start now : Source) (found : List R) (left : ℕ) → HasRead (in_version K version) (ReadsBytes start now) found left → Ascends K found → (new : Source) (e : CoreError)
      → RecordFails (in_version K version) left now new e → AscendingNotStreamed K version start new e
  not_taken start now found left read ascends new e fails =
      let front : BeginsInOrder (in_version K version) (bytes_left start) read.stored (bytes_left now) =
      record { records = holds (in_version K version) (laws_in K laws version) start now found left read; ascends = stored_ascend K laws read.stored found read.returned ascends } in
      let served = taken_serves start now _ read.taken in
      let left_is : left ≡ rows_left (in_version K version) read.stored = omega (arith, read.rows) in
      record {
        bytes = fails.bytes ∙ served.bytes;
        cause = failed_after (SectionCase (IsRefusedInOrder (in_version K version)) (IsTruncatedInOrder (in_version K version)) (bytes_left start)) (SectionRefusal K version (bytes_left start)) start start new e refl
            (refused_section (bytes_left start) e)
            (section_failure (BeginsRefused (in_version K version) left) (EndsEarly (in_version K version) left) (IsRefusedInOrder (in_version K version)) (IsTruncatedInOrder (in_version K version)) (bytes_left now) (bytes_left start)
            start now new e served.failures
            (λ passes. (read.stored, bytes_left now, front, subst (λ n. BeginsRefused (in_version K version) n (bytes_left now)) left_is passes))
            (λ ends. (read.stored, bytes_left now, front, subst (λ n. EndsEarly (in_version K version) n (bytes_left now)) left_is ends)) fails.cause);
      }

  pub no_first : (start new : Source) (e : CoreError) → FollowingFails (in_version K version) None 4294967295 start new e → AscendingNotStreamed K version start new e
  unfolding IsStrictlySortedBy
  no_first start new e (next_not_read fails) = not_taken start start [] 4294967295 (nothing_read (in_version K version) (laws_in K laws version) (ReadsBytes start start) (ReadsBytes-nil start)) tt new e fails
  no_first start new e (falls is after found read after_none) = absurd (after_none tt)

  -- two neighbours of a list whose hashes strictly ascend
  neighbours : (rs : List R) (r s : R) → Ascends K (rs ++ r ∷ s ∷ []) → hash_cmp (key_of_record K r) (key_of_record K s) ≡ Less
  unfolding IsStrictlySortedBy
  neighbours [] r s ascends = ascends.0.0
  neighbours (x ∷ rs) r s ascends = neighbours rs r s ascends.1

  -- the last of records that were returned
  split_last : (stored xs : List R) (y : R) → map K.as_read stored ≡ xs ++ y ∷ [] → (front : List R) × (last : R) × (stored ≡ front ++ last ∷ []) × (map K.as_read front ≡ xs)
  split_last [] [] y same = absurd (none_first y [] same)
  split_last [] (x ∷ xs) y same = absurd (none_first x (xs ++ y ∷ []) same)
  split_last (s ∷ []) [] y same = ([], s, refl, refl)
  split_last (s ∷ t ∷ rest) [] y same = absurd (none_first (K.as_read t) (map K.as_read rest) (sym (ap (drop 1) same)))
  split_last (s ∷ rest) (x ∷ xs) y same =
      let parts = split_last rest xs y (ap (drop 1) same) in
      (s ∷ parts.0, parts.1, ap (λ rs. s ∷ rs) parts.2, λ i. first_same (K.as_read s) x (map K.as_read rest) (xs ++ y ∷ []) same i ∷ parts.3 i)

  module _ (start now : Source) (left : ℕ) (next : Option H) (found : List R) (pending : HasPending (in_version K version) start now left next found) (found_ascends : Ascends K found) where
    -- the rows of the next record were not
    pub rows_not_read : (h : H) (new : Source) (e : CoreError) → next ≡ Some h → ReadFails now new (48 * K.rows_after h) e → AscendingNotStreamed K version start new e
    rows_not_read h new e is fails =
        let header = has_begun start now left next found pending h is in
        not_taken start pending.mid found pending.before pending.records found_ascends new e
        (record_fails (in_version K version) (laws_in K laws version) (λ (s : Source). s) pending.before pending.mid new e (no_rows h now left header fails))

    key_read : (h : H) (mid : Source) (r s : R) → Some r ≡ Some s → ReadsRowsAfter K h (ReadsBytes now mid) s → key_of_record K r ≡ K.hash_of h
    key_read h mid r s same rows = ap (key_of_record K) (same_Some r s same) ∙ ap K.hash_of (ap K.header_of (sym rows.returned) ∙ laws.same_header rows.stored ∙ rows.same_header)

    -- nor was the header after it, or it does not follow
    pub no_next : (h : H) (mid new : Source) (r : R) (e : CoreError) → next ≡ Some h → ComeBefore K (K.hash_of h) found → ReadsOptionalRecord K (Some h) now mid (Some r)
        → FollowingFails (in_version K version) (Some h) left mid new e → AscendingNotStreamed K version start new e
    no_next h mid new r e is below (s, same, rows) (next_not_read fails) =
        not_taken start mid (found ++ r ∷ []) left (read_on start now left next found pending h mid r is (s, same, rows))
        (ascends_push K (K.hash_of h) found (Some r) (key_read h mid r s same rows) below found_ascends) new e fails
    no_next h mid new r e is below (s, same, rows) (falls invalid after last read not_after) =
        let whole = read_on start now left next found pending h mid r is (s, same, rows) in
        let more = more_read (in_version K version) (laws_in K laws version) (ReadsBytes start mid) (ReadsBytes mid new) (ReadsBytes start new) (found ++ r ∷ []) left after last (ReadsBytes-trans start mid new) whole read in
        let served = serves_on start mid new (taken_serves start mid _ whole.taken) (taken_serves mid new _ read.reads.taken) in
        let returned = more.returned in
        let key = key_read h mid r s same rows in
        let parts = split_last more.stored (found ++ r ∷ []) last returned in
        record {
          bytes = served.bytes;
          cause = inr (
            served.failures,
            inr (inr (
              invalid,
              inr (record {
                stored = parts.0;
                last = parts.1;
                rest = bytes_left new;
                records = subst (λ rs. HoldsRecords (in_version K version) (bytes_left start) rs (bytes_left new)) parts.2 (holds (in_version K version) (laws_in K laws version) start new ((found ++ r ∷ []) ++ last ∷ []) after more);
                ascends = stored_ascend K laws parts.0 (found ++ r ∷ []) parts.3 (ascends_push K (K.hash_of h) found (Some r) key below found_ascends);
                falls = λ ascends. not_after (subst (λ j. hash_cmp j (K.hash_of (K.header_of last)) ≡ Less) key
                    (neighbours found r last (subst (Ascends K) (append_assoc found (r ∷ []) (last ∷ []))
                    (subst (IsStrictlySortedBy hash_cmp) (sym (hashes_handed K laws more.stored) ∙ ap (map (λ s. K.hash_of (K.header_of s))) returned) (subst (Ascends K) (sym parts.2) ascends)))));
              }),
            )),
          );
        }
