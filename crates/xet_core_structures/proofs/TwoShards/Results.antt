-- What is made of the records of two inputs is the result of the shards that their bytes hold; or why there is none.
use Rattle.std.proofs.Common.{◌≡◌, ◌⊎◌, inl, inr, ℕ, ◌+◌, List, Option, None, Some, sym, ap, ◌∙◌, subst, arith}
use Rattle.std.specs.Io.KnownBytes.{Appends}
use Rattle.xet_base.specs.declared.error.CoreError.{CoreError}
use Rattle.xet_base.specs.Errors.{IsWriteError, IsInvalidShard}
use Rattle.xet_base.specs.Source.{Source, FailedBy, bytes_left, NoFailure}
use Rattle.xet_records.specs.declared.file_structs.MDBFileInfo.{MDBFileInfo}
use Rattle.xet_records.specs.declared.xorb_structs.MDBXorbInfo.{MDBXorbInfo}
use Rattle.xet_records.specs.declared.row_copier.CopyFailure.{CopyFailure}
use Rattle.xet_records.specs.declared.row_copier.CopyFailure.TheVariants.{Input, Output}
use Rattle.xet_records.specs.Steps.CopyingSteps.{error_of}
use Rattle.xet_records.specs.declared.record_reader.FormatVersion.{FormatVersion}
use Rattle.xet_records.specs.declared.record_reader.FormatVersion.TheVariants.{V3}
use Rattle.xet_records.specs.Version.{version_of}
use Rattle.xet_records.specs.RecordKind.{RecordKind}
use Rattle.xet_records.specs.FileRecord.{file_records}
use Rattle.xet_records.specs.XorbRecord.{xorb_records}
use Rattle.xet_records.proofs.RecordKinds.{file_laws, xorb_laws}
use Rattle.xet_shards.specs.declared.shard_format.ends.info.MDBShardInfo.{MDBShardInfo}
use Rattle.xet_shards.specs.Write.Layout.{layout_of, info_of}
use Rattle.xet_shards.specs.Write.Section.{total_rows}
use Rattle.xet_shards.specs.Read.SectionReading.{StreamsSection}
use Rattle.xet_shards.specs.Content.SetOperations.{IsDifference}
use Rattle.xet_shards.specs.Content.Shard.{Shard}
use Rattle.xet_core_structures.specs.Records.ByteUnion.{IsUnitedFile, IsEitherFile, IsEitherXorb, IsByteUnion}
use Rattle.xet_core_structures.specs.TwoShards.ByteResults.{keyed_options, key_of, InputRefusal, DifferenceRefusal, UnionRefusal, InputsFail, WritesResult}
use Rattle.xet_core_structures.specs.Steps.ByteResultsSteps.{FailsBy, Records, HaveInputs, AreCombined, WritesRecords}
use Rattle.xet_core_structures.specs.Steps.RecordPairsSteps.{IsRest}
use Rattle.xet_core_structures.specs.Records.ShardContents.{HasFiles, files_at, xorbs_at}
use Rattle.xet_core_structures.specs.Steps.SetOutcomesSteps.{OperationLaws}
use Rattle.xet_core_structures.specs.Steps.MergeJoin.{SectionRefusal, CannotCombine, SectionsFail}
use Rattle.xet_core_structures.specs.Steps.MergeJoin.SectionsFail.{output_fails, first_fails, second_fails, refused}
use Rattle.xet_core_structures.specs.Steps.StreamsSteps.{sources}
use Rattle.xet_core_structures.proofs.Records.ListMaps.{values-list_map, combined_maps, shard_of, lists_hold}
use Rattle.xet_core_structures.proofs.LawProofs.FileLookups.{union_with_options, difference_with_options}
use Rattle.xet_core_structures.proofs.TwoShards.Refusals.{no_union, always_rest}

-- at most one record is made of two
united_unique : (a b c d : MDBFileInfo) → IsUnitedFile a b c → IsUnitedFile a b d → c ≡ d
united_unique a b c d (inl (all, is)) (inl (_, also)) = is ∙ sym also
united_unique a b c d (inl (all, is)) (inr (inl (lacks, _, _))) = absurd (lacks all)
united_unique a b c d (inl (all, is)) (inr (inr (lacks, _, _, _))) = absurd (lacks all)
united_unique a b c d (inr (inl (lacks, all, is))) (inl (has, _)) = absurd (lacks has)
united_unique a b c d (inr (inl (lacks, all, is))) (inr (inl (_, _, also))) = is ∙ sym also
united_unique a b c d (inr (inl (lacks, all, is))) (inr (inr (_, wants, _, _))) = absurd (wants all)
united_unique a b c d (inr (inr (lacks, wants, counts, is))) (inl (has, _)) = absurd (lacks has)
united_unique a b c d (inr (inr (lacks, wants, counts, is))) (inr (inl (_, has, _))) = absurd (wants has)
united_unique a b c d (inr (inr (lacks, wants, counts, is))) (inr (inr (_, _, _, also))) = is ∙ sym also

pub files_unique : (o p a b : Option MDBFileInfo) → IsEitherFile o p a → IsEitherFile o p b → a ≡ b
files_unique None p a b is also = is ∙ sym also
files_unique (Some x) None a b is also = is ∙ sym also
files_unique (Some x) (Some y) a b (r, is, one) (s, also, other) = is ∙ ap Some (united_unique x y r s one other) ∙ sym also

pub xorbs_unique : (o p a b : Option MDBXorbInfo) → IsEitherXorb o p a → IsEitherXorb o p b → a ≡ b
xorbs_unique o p a b is also = is ∙ sym also

-- the error of a failure is the output's, or has the inputs' cause
pub failed_by : (Cause : CoreError → Type 0) (failure : CopyFailure) (e : CoreError) → e ≡ error_of failure → FailsBy Cause failure → IsWriteError e ⊎ Cause e
failed_by Cause (Input f) e is failed = inr (subst Cause (sym is) failed)
failed_by Cause (Output f) e is failed = inl (subst IsWriteError (sym is) failed)

-- why two sections were not combined, after calls that did not fail
module _ {H R : Type 0} (K : RecordKind H R) (v w : FormatVersion) (makes : Option R → Option R → Option R → Type 0) (mid_1 new_1 mid_2 new_2 : Source) where
  pub sections_failed : (old_1 old_2 : Source) (Cause : CoreError → Type 0) → mid_1.failures ≡ old_1.failures → mid_2.failures ≡ old_2.failures
      → ((e : CoreError) → SectionRefusal K v (bytes_left mid_1) e → Cause e) → ((e : CoreError) → SectionRefusal K w (bytes_left mid_2) e → Cause e)
      → ((e : CoreError) → IsInvalidShard e → CannotCombine K v w makes (bytes_left mid_1) (bytes_left mid_2) → Cause e)
      → (failure : CopyFailure) → SectionsFail K v w makes (sources mid_1 mid_2) (sources new_1 new_2) failure → FailsBy (InputsFail old_1 new_1 old_2 new_2 Cause) failure
  sections_failed old_1 old_2 Cause same_1 same_2 first second none failure (output_fails e is device _ _) = subst (FailsBy (InputsFail old_1 new_1 old_2 new_2 Cause)) (sym is) device
  sections_failed old_1 old_2 Cause same_1 same_2 first second none failure (first_fails e is fails no_failure) =
      subst (FailsBy (InputsFail old_1 new_1 old_2 new_2 Cause)) (sym is) (of_first fails.cause)
    where
      of_first : FailedBy (SectionRefusal K v (bytes_left mid_1)) mid_1 new_1 e → InputsFail old_1 new_1 old_2 new_2 Cause e
      of_first (inl failed) = inl (failed.0 ∙ ap (λ n. n + 1) same_1, failed.1, failed.2, failed.3)
      of_first (inr (still, refusal)) = inr (inr (still ∙ same_1, no_failure.failures ∙ same_2, first e refusal))
  sections_failed old_1 old_2 Cause same_1 same_2 first second none failure (second_fails e is fails no_failure) =
      subst (FailsBy (InputsFail old_1 new_1 old_2 new_2 Cause)) (sym is) (of_second fails.cause)
    where
      of_second : FailedBy (SectionRefusal K w (bytes_left mid_2)) mid_2 new_2 e → InputsFail old_1 new_1 old_2 new_2 Cause e
      of_second (inl failed) = inr (inl (failed.0 ∙ ap (λ n. n + 1) same_2, failed.1, failed.2, failed.3))
      of_second (inr (still, refusal)) = inr (inr (no_failure.failures ∙ same_1, still ∙ same_2, second e refusal))
  sections_failed old_1 old_2 Cause same_1 same_2 first second none failure (refused e is invalid serves_1 serves_2 nothing) =
      subst (FailsBy (InputsFail old_1 new_1 old_2 new_2 Cause)) (sym is) (inr (inr (serves_1.failures ∙ same_1, serves_2.failures ∙ same_2, none e invalid nothing)))

  pub sections_kept : (failure : CopyFailure) → SectionsFail K v w makes (sources mid_1 mid_2) (sources new_1 new_2) failure → (new_1.bytes ≡ mid_1.bytes) × (new_2.bytes ≡ mid_2.bytes)
  sections_kept failure (output_fails e is device first second) = (first, second)
  sections_kept failure (first_fails e is fails no_failure) = (fails.bytes, no_failure.bytes)
  sections_kept failure (second_fails e is fails no_failure) = (no_failure.bytes, fails.bytes)
  sections_kept failure (refused e is invalid serves_1 serves_2 nothing) = (serves_1.bytes, serves_2.bytes)

-- a section that was read whole did not fail
pub section_serves : {H R : Type 0} (K : RecordKind H R) (old new : Source) (found : List R) → StreamsSection K old new found → NoFailure old new
section_serves K old new found read = record {
  bytes = ap (λ (s : Source). s.bytes) read.after;
  failures = ap (λ (s : Source). s.failures) read.after;
  last_failure = ap (λ (s : Source). s.last_failure) read.after;
}

-- the causes of either section of either input
module _ (x : List ℕ) (i : MDBShardInfo) (y : List ℕ) (j : MDBShardInfo) (e : CoreError) where
  pub files_of_first : SectionRefusal file_records (version_of i.header.version) (files_at x i) e → InputRefusal x i y j e
  files_of_first (inl no_memory) = inl no_memory
  files_of_first (inr (inl (end, cut))) = inr (inl (end, inl (inl cut)))
  files_of_first (inr (inr (invalid, bad))) = inr (inr (invalid, inl (inl bad)))

  pub files_of_second : SectionRefusal file_records (version_of j.header.version) (files_at y j) e → InputRefusal x i y j e
  files_of_second (inl no_memory) = inl no_memory
  files_of_second (inr (inl (end, cut))) = inr (inl (end, inr (inl cut)))
  files_of_second (inr (inr (invalid, bad))) = inr (inr (invalid, inr (inl bad)))

  pub xorbs_of_first : HasFiles x i → SectionRefusal xorb_records V3 (xorbs_at x i) e → InputRefusal x i y j e
  xorbs_of_first files (inl no_memory) = inl no_memory
  xorbs_of_first files (inr (inl (end, cut))) = inr (inl (end, inl (inr (files, cut))))
  xorbs_of_first files (inr (inr (invalid, bad))) = inr (inr (invalid, inl (inr (files, bad))))

  pub xorbs_of_second : HasFiles y j → SectionRefusal xorb_records V3 (xorbs_at y j) e → InputRefusal x i y j e
  xorbs_of_second files (inl no_memory) = inl no_memory
  xorbs_of_second files (inr (inl (end, cut))) = inr (inl (end, inr (inr (files, cut))))
  xorbs_of_second files (inr (inr (invalid, bad))) = inr (inr (invalid, inr (inr (files, bad))))

-- why there is no union
not_read : (x : List ℕ) (i : MDBShardInfo) (y : List ℕ) (j : MDBShardInfo) (e : CoreError) → DifferenceRefusal x i y j e → UnionRefusal x i y j e
not_read x i y j e (inl keys) = inl keys
not_read x i y j e (inr (same, cause)) = inr (same, inl cause)

module _ (x : List ℕ) (i : MDBShardInfo) (y : List ℕ) (j : MDBShardInfo) (one other : Records) (have : HaveInputs x i y j one other) where
  -- what was written is the layout of the result
  module _ (result : Records) (old new : Option (List ℕ)) (info : MDBShardInfo) (written : WritesRecords result (key_of i) old new info)
      (IsFile : Option MDBFileInfo → Option MDBFileInfo → Option MDBFileInfo → Type 0) (IsXorb : Option MDBXorbInfo → Option MDBXorbInfo → Option MDBXorbInfo → Type 0)
      (made : AreCombined IsFile IsXorb one other result) where
    result_written : (IsResult : Shard → Shard → Shard → Type 0) → IsResult (shard_of one) (shard_of other) (shard_of result) → WritesResult IsResult x i y j old new info
    result_written IsResult is =
        let files = values-list_map file_records result.files made.files.ascends in
        let xorbs = values-list_map xorb_records result.xorbs made.xorbs.ascends in (
          shard_of result,
          record {
            first = shard_of one;
            second = shard_of other;
            holds_first = lists_hold x i one have.first;
            holds_second = lists_hold y j other have.second;
            same_key = have.same_key;
            result = is;
            rows = record {
              files = omega (arith, ap (total_rows file_records) files, made.few_files);
              xorbs = omega (arith, ap (total_rows xorb_records) xorbs, made.few_xorbs);
            };
          },
          written.0 ∙ (λ k. info_of (sym files k) (sym xorbs k) (keyed_options (key_of i))),
          subst (λ p. p) (λ k. Appends old new (layout_of (sym files k) (sym xorbs k) (keyed_options (key_of i)))) written.1,
        )

  union_written : (result : Records) (old new : Option (List ℕ)) (info : MDBShardInfo) → AreCombined IsEitherFile IsEitherXorb one other result → WritesRecords result (key_of i) old new info
      → WritesResult IsByteUnion x i y j old new info
  union_written result old new info made written = result_written result old new info written IsEitherFile IsEitherXorb made IsByteUnion (record {
    files = combined_maps file_records IsEitherFile _ _ _ have.first.files.writable.ascends have.second.files.writable.ascends made.files;
    xorbs = combined_maps xorb_records IsEitherXorb _ _ _ have.first.xorbs.writable.ascends have.second.xorbs.writable.ascends made.xorbs;
  })

  difference_written : (result : Records) (old new : Option (List ℕ)) (info : MDBShardInfo) → AreCombined IsRest IsRest one other result → WritesRecords result (key_of i) old new info
      → WritesResult IsDifference x i y j old new info
  difference_written result old new info made written = result_written result old new info written IsRest IsRest made IsDifference (record {
    files = combined_maps file_records IsRest _ _ _ have.first.files.writable.ascends have.second.files.writable.ascends made.files;
    xorbs = combined_maps xorb_records IsRest _ _ _ have.first.xorbs.writable.ascends have.second.xorbs.writable.ascends made.xorbs;
  })

pub union_laws : OperationLaws IsByteUnion IsEitherFile IsEitherXorb UnionRefusal
union_laws = record {
  written = λ x i y j one other result old new info have made written. union_written x i y j one other have result old new info made written;
  with_options = union_with_options;
  not_read = not_read;
  no_files = λ x i y j e same invalid none. inr (same, inr (invalid, inl (no_union file_records file_laws (version_of i.header.version) (version_of j.header.version) IsEitherFile files_unique (files_at x i) (files_at y j) none)));
  no_xorbs = λ x i y j e same invalid none. inr (same, inr (invalid, inr (no_union xorb_records xorb_laws V3 V3 IsEitherXorb xorbs_unique (xorbs_at x i) (xorbs_at y j) none)));
}

pub difference_laws : OperationLaws IsDifference IsRest IsRest DifferenceRefusal
difference_laws = record {
  written = λ x i y j one other result old new info have made written. difference_written x i y j one other have result old new info made written;
  with_options = difference_with_options;
  not_read = λ x i y j e refusal. refusal;
  no_files = λ x i y j e same invalid none. absurd (always_rest file_records file_laws (version_of i.header.version) (version_of j.header.version) (files_at x i) (files_at y j) none);
  no_xorbs = λ x i y j e same invalid none. absurd (always_rest xorb_records xorb_laws V3 V3 (xorbs_at x i) (xorbs_at y j) none);
}
