-- Two sections that are read side by side, a record of each at a time, while what is made of the
-- records with one hash is written.
use Rattle.std.specs.Prelude.{◌≡◌, ◌≢◌, ◌⊎◌, ℕ, ◌+◌, ◌*◌, ◌<◌, ◌≤◌, List, ◌++◌, map, flat_map, Option, None, Some, IfSome, option_to_list, MatchResult}
use Rattle.std.specs.declared.result.Result.{Result}
use Rattle.std.specs.Io.KnownBytes.{Appends}
use Rattle.std.specs.declared.cmp.Ordering.TheVariants.{Less}
use Rattle.xet_base.specs.declared.error.CoreError.{CoreError}
use Rattle.xet_base.specs.declared.error.CoreError.TheVariants.{OutOfMemory}
use Rattle.xet_base.specs.declared.merklehash.DataHash.{DataHash}
use Rattle.xet_base.specs.Errors.{IsWriteError, IsEndOfInput, IsInvalidShard}
use Rattle.xet_base.specs.Hash.{all_ones, hash_cmp}
use Rattle.xet_base.specs.Source.{Source, ReadsBytes, FailedBy, ReadFails, bytes_left, NoFailure}
use Rattle.xet_records.specs.declared.row_copier.CopyFailure.{CopyFailure}
use Rattle.xet_records.specs.declared.row_copier.CopyFailure.TheVariants.{Input, Output}
use Rattle.xet_records.specs.declared.record_reader.FormatVersion.{FormatVersion}
use Rattle.xet_records.specs.RecordKind.{RecordKind, in_version}
use Rattle.xet_records.specs.Reading.{ReadsNextHeader, ReadsRowsAfter, BeginsWithHeader}
use Rattle.xet_shards.specs.Write.WithOptions.{Ascends}
use Rattle.xet_shards.specs.Write.Section.{total_rows, section_bytes}
use Rattle.xet_shards.specs.Write.RecordCopying.{CopiesRecord}
use Rattle.xet_shards.specs.Read.SectionReading.{HoldsRecords, BeginsWithBookend, StreamsSection}
use Rattle.xet_shards.specs.Steps.SectionReadingSteps.{ReadsNext, RecordFails}
use Rattle.xet_core_structures.specs.Records.RecordPairs.{key_of_record, Combines, IsMadeOf, ArePassed}
use Rattle.xet_core_structures.specs.Records.ShardContents.{IsTruncatedInOrder, IsMalformedSection}
use Rattle.xet_core_structures.specs.TwoShards.Streams.{Streams}
use Rattle.xet_core_structures.specs.Steps.StreamsSteps.{Sources, inputs_of}
use Rattle.xet_records.specs.Limits.{MAX_ROWS}

module _ {H R : Type 0} (K : RecordKind H R) where
  -- a header of a record, and not a bookend
  pub record IsRecordHeader (h : H) : Type 0 where
    pub is_record : K.hash_of h ≢ all_ones
    pub fits : K.Fits h

  -- the hash of a header is greater than that of another, if there is one
  abbrev pub Follows : Option H → H → Type 0
  Follows before h = IfSome before (λ b. hash_cmp (K.hash_of b) (K.hash_of h) ≡ Less)

  -- a bookend was read, or a header that follows another
  pub record ReadsFollowing (before : Option H) (old new : Source) (left after : ℕ)
      (next : Option H) : Type 0 where
    pub read : ReadsNextHeader K (ReadsBytes old new) left after next
    pub follows : IfSome next (Follows before)

  -- neither a bookend nor a header that follows another was read: the next record was not read, or
  -- it was and does not follow
  pub data FollowingFails (before : Option H) (left : ℕ) (old new : Source) (e : CoreError)
      : Type 0 where
    not_read : RecordFails K left old new e → FollowingFails before left old new e
    falls : IsInvalidShard e → (after : ℕ) → (found : R) → ReadsNext K old new left after found
        → ¬ Follows before (K.header_of found) → FollowingFails before left old new e

  -- the next header was read after one that was passed, or if none was, it stays
  abbrev pub Advances : Option H → Option H → Source → Source → ℕ → ℕ → Option H → Type 0
  Advances next None old new left after found = (found ≡ next) × (new ≡ old) × (after ≡ left)
  Advances next (Some h) old new left after found =
      ReadsFollowing (Some h) old new left after found

  -- why the next header was not read after one that was passed; if none was, there is no cause
  abbrev pub AdvanceFails : Option H → ℕ → Source → Source → CoreError → Type 0
  AdvanceFails None left old new e = ⊥
  AdvanceFails (Some h) left old new e = FollowingFails (Some h) left old new e

  -- the rows after a header were read, those of this record; there is none without a header
  abbrev pub ReadsOptionalRecord : Option H → Source → Source → Option R → Type 0
  ReadsOptionalRecord None old new found = (found ≡ None) × (new ≡ old)
  ReadsOptionalRecord (Some h) old new found =
      (r : R) × (found ≡ Some r) × ReadsRowsAfter K h (ReadsBytes old new) r

  -- the rows after a header were read, if there is one
  abbrev pub SkipsRecord : Option H → Source → Source → Type 0
  SkipsRecord header old new = (found : Option R) × ReadsOptionalRecord header old new found

  -- why the rows after a header were not read; there is no cause without a header
  abbrev pub SkipFails : Option H → Source → Source → CoreError → Type 0
  SkipFails header old new e =
      (h : H) × (header ≡ Some h) × ReadFails old new (48 * K.rows_after h) e

  -- the rows after the headers of both sources were read, where there are any
  abbrev pub SkipsBoth : Option H → Option H → Sources → Sources → Type 0
  SkipsBoth first second old new =
      SkipsRecord first old.first new.first × SkipsRecord second old.second new.second

  -- the record of one header was read, written and gathered, and that of another read past
  pub record CopiesKept (kept : H) (passed : Option H) (old new : Streams) (rows : ℕ)
      (Before After : List R → Type 0) : Type 0 where
    pub copied : CopiesRecord K kept (ReadsBytes old.first new.first) old.out new.out Before After
    pub few : rows + (1 + K.rows_after kept) ≤ MAX_ROWS
    pub other : Option R
    pub past : ReadsOptionalRecord passed old.second new.second other

  -- a record has too many rows for a section beside those before it
  abbrev pub HasTooManyRows : ℕ → Option R → Type 0
  HasTooManyRows rows found = IfSome found (λ r. MAX_ROWS < rows + K.row_count r)

  -- the records of both headers were read, and what is made of them, if anything, was written and
  -- gathered, with rows that fit a section beside those before it
  pub record WritesMade (makes : Option R → Option R → Option R → Type 0) (first second : Option H)
      (old new : Streams) (rows : ℕ) (Before After : List R → Type 0) : Type 0 where
    -- the record of the first header, if there is one
    pub one : Option R
    -- the record of the second header, if there is one
    pub other : Option R
    -- what is made of them, if anything
    pub made : Option R
    pub reads_first : ReadsOptionalRecord first old.first new.first one
    pub reads_second : ReadsOptionalRecord second old.second new.second other
    pub is_made : makes one other made
    pub made_of : IfSome made (IsMadeOf K one other)
    -- the rows before, and those of what is made, fit a section
    pub few : IfSome made (λ r. rows + K.row_count r ≤ MAX_ROWS)
    pub bytes : Appends old.out new.out (flat_map K.record_bytes (option_to_list made))
    -- what is made was gathered after the records before it
    pub written : (front : List R) → Before front → After (front ++ option_to_list made)

  -- nothing can be made of both records, or something that has too many rows beside those before it
  pub data CannotMake (makes : Option R → Option R → Option R → Type 0) (rows : ℕ)
      (one other : Option R) : Type 0 where
    nothing_made : (r s : R) → one ≡ Some r → other ≡ Some s
        → ((made : Option R) → ¬ makes (Some r) (Some s) made) → CannotMake makes rows one other
    too_many_rows : (made : R) → makes one other (Some made) → IsMadeOf K one other made
        → MAX_ROWS < rows + K.row_count made → CannotMake makes rows one other

  -- why nothing was written for the records of both headers: the output failed, or an input, or
  -- both records were read and are refused
  pub data PairFails (first second : Option H) (old new : Sources)
      (Refused : Option R → Option R → Type 0) (failure : CopyFailure) : Type 0 where
    output_fails : (e : CoreError) → failure ≡ Output e → IsWriteError e
        → new.first.bytes ≡ old.first.bytes → new.second.bytes ≡ old.second.bytes
        → PairFails first second old new Refused failure
    first_fails : (e : CoreError) → failure ≡ Input e → (h : H) → first ≡ Some h
        → ReadFails old.first new.first (48 * K.rows_after h) e → NoFailure old.second new.second
        → PairFails first second old new Refused failure
    second_fails : (e : CoreError) → failure ≡ Input e → (h : H) → second ≡ Some h
        → ReadFails old.second new.second (48 * K.rows_after h) e → NoFailure old.first new.first
        → PairFails first second old new Refused failure
    refused : (e : CoreError) → failure ≡ Input e → IsInvalidShard e → (one other : Option R)
        → ReadsOptionalRecord first old.first new.first one → ReadsOptionalRecord second old.second new.second other
        → Refused one other → PairFails first second old new Refused failure

  -- the outcome for the records of both headers, between two states of both sources and the output
  abbrev pub MakesRecord : {U : Type 0} → (Option R → Option R → Option R → Type 0) → Option H
      → Option H → Streams → Streams → ℕ → (List R → Type 0) → (List R → Type 0)
      → Result U CopyFailure → Type 0
  MakesRecord makes first second old new rows Before After result =
      MatchResult result (λ _. WritesMade makes first second old new rows Before After)
      (PairFails first second (inputs_of old) (inputs_of new) (CannotMake makes rows))

  -- the outcome where the record of one of two headers is kept
  abbrev pub KeepsRecord : {U : Type 0} → H → Option H → Streams → Streams → ℕ
      → (List R → Type 0) → (List R → Type 0) → Result U CopyFailure → Type 0
  KeepsRecord kept passed old new rows Before After result =
      MatchResult result (λ _. CopiesKept kept passed old new rows Before After)
      (PairFails (Some kept) passed (inputs_of old) (inputs_of new) (λ one _. HasTooManyRows rows one))

  -- both sections were read, each in its version, and a section was written and gathered of what is
  -- made of them
  pub record WritesCombined (version_1 version_2 : FormatVersion)
      (makes : Option R → Option R → Option R → Type 0) (old new : Streams)
      (Written : List R → Type 0) : Type 0 where
    -- the records of the first section, as reading returns them
    pub firsts : List R
    -- the records of the second section, as reading returns them
    pub seconds : List R
    -- the records that are made of both
    pub made : List R
    pub first : StreamsSection (in_version K version_1) old.first new.first firsts
    pub second : StreamsSection (in_version K version_2) old.second new.second seconds
    pub first_ascends : Ascends K firsts
    pub second_ascends : Ascends K seconds
    pub combined : Combines K makes firsts seconds made
    -- their rows fit a section
    pub few : total_rows K made ≤ MAX_ROWS
    -- they were gathered
    pub written : Written made
    pub bytes : Appends old.out new.out (section_bytes K made)

  -- why a section is not read as records whose hashes strictly ascend, if the device does not fail
  abbrev pub SectionRefusal : FormatVersion → List ℕ → CoreError → Type 0
  SectionRefusal version bytes e =
      (e ≡ OutOfMemory) ⊎ (IsEndOfInput e × IsTruncatedInOrder (in_version K version) bytes)
      ⊎ (IsInvalidShard e × IsMalformedSection (in_version K version) bytes)

  -- no section whose hashes strictly ascend was read from the source's position on
  pub record AscendingNotStreamed (version : FormatVersion) (old new : Source) (e : CoreError)
      : Type 0 where
    pub bytes : new.bytes ≡ old.bytes
    pub cause : FailedBy (SectionRefusal version (bytes_left old)) old new e

  -- the bytes go on with a bookend, or with a header whose hash is greater
  abbrev pub GoesOnAfter : DataHash → List ℕ → Type 0
  GoesOnAfter k bytes =
      BeginsWithBookend K bytes
      ⊎ ((h : H) × (rest : List ℕ) × BeginsWithHeader K bytes h rest
      × (hash_cmp k (K.hash_of h) ≡ Less))

  -- two sections, each in its version, begin with records of which nothing can be made: those with
  -- one hash, after all that have smaller ones
  pub record CannotCombine (version_1 version_2 : FormatVersion)
      (makes : Option R → Option R → Option R → Type 0) (x y : List ℕ) : Type 0 where
    -- records that the first section begins with
    pub stored_1 : List R
    -- records that the second section begins with
    pub stored_2 : List R
    -- the bytes after those of the first section
    pub rest_1 : List ℕ
    -- the bytes after those of the second section
    pub rest_2 : List ℕ
    pub holds_1 : HoldsRecords (in_version K version_1) x stored_1 rest_1
    pub holds_2 : HoldsRecords (in_version K version_2) y stored_2 rest_2
    -- the first section's records with smaller hashes, as reading returns them
    pub firsts : List R
    -- the second section's records with smaller hashes, as reading returns them
    pub seconds : List R
    -- what is made of the records with smaller hashes
    pub made : List R
    -- the first section's record with the hash, if it has one
    pub one : Option R
    -- the second section's record with the hash, if it has one
    pub other : Option R
    pub first_is : map K.as_read stored_1 ≡ firsts ++ option_to_list one
    pub second_is : map K.as_read stored_2 ≡ seconds ++ option_to_list other
    pub first_ascends : Ascends K firsts
    pub second_ascends : Ascends K seconds
    pub combined : Combines K makes firsts seconds made
    -- what is made has no more rows than both lists together
    pub rows : total_rows K made ≤ total_rows K firsts + total_rows K seconds
    -- the hash of the records of which nothing can be made
    pub hash : DataHash
    pub passed : ArePassed K firsts seconds made hash
    pub one_hash : IfSome one (λ r. key_of_record K r ≡ hash)
    pub other_hash : IfSome other (λ r. key_of_record K r ≡ hash)
    -- if the first section has no record with the hash, what comes next is its bookend or a greater
    -- hash
    pub next_1 : one ≡ None → GoesOnAfter hash rest_1
    -- if the second section has no record with the hash, what comes next is its bookend or a
    -- greater hash
    pub next_2 : other ≡ None → GoesOnAfter hash rest_2
    -- nothing can be made of the records with the hash, or something that has too many rows beside
    -- those before it
    pub cannot : CannotMake makes (total_rows K made) one other

  -- why no section was written of what is made of two: the output failed, or an input; or nothing
  -- can be made of records that both begin with
  pub data SectionsFail (version_1 version_2 : FormatVersion)
      (makes : Option R → Option R → Option R → Type 0) (old new : Sources)
      (failure : CopyFailure) : Type 0 where
    output_fails : (e : CoreError) → failure ≡ Output e → IsWriteError e
        → new.first.bytes ≡ old.first.bytes → new.second.bytes ≡ old.second.bytes
        → SectionsFail version_1 version_2 makes old new failure
    first_fails : (e : CoreError) → failure ≡ Input e
        → AscendingNotStreamed version_1 old.first new.first e → NoFailure old.second new.second
        → SectionsFail version_1 version_2 makes old new failure
    second_fails : (e : CoreError) → failure ≡ Input e
        → AscendingNotStreamed version_2 old.second new.second e → NoFailure old.first new.first
        → SectionsFail version_1 version_2 makes old new failure
    refused : (e : CoreError) → failure ≡ Input e → IsInvalidShard e
        → NoFailure old.first new.first → NoFailure old.second new.second
        → CannotCombine version_1 version_2 makes (bytes_left old.first) (bytes_left old.second)
        → SectionsFail version_1 version_2 makes old new failure

  -- the outcome for two sections: what is made of them was written and gathered, or why it was not
  abbrev pub CombinesSections : {U : Type 0} → FormatVersion → FormatVersion
      → (Option R → Option R → Option R → Type 0) → Streams → Streams → (U → List R → Type 0)
      → Result U CopyFailure → Type 0
  CombinesSections version_1 version_2 makes old new has_written result =
      MatchResult result
      (λ written. WritesCombined version_1 version_2 makes old new (has_written written))
      (SectionsFail version_1 version_2 makes (inputs_of old) (inputs_of new))
