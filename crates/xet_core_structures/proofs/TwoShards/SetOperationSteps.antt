-- One union or difference of two inputs, section by section.
use Rattle.std.proofs.Common.{◌≡◌, inl, inr, ℕ, List, drop, Option, Ok, Err, refl, ◌∙◌, subst}
use Rattle.std.specs.Prelude.{IfOk, IfErr}
use Rattle.std.specs.declared.result.Result.{Result}
use Rattle.std.specs.Io.KnownBytes.{Appends}
use Rattle.xet_base.specs.declared.error.CoreError.{CoreError}
use Rattle.xet_base.specs.Source.{Source, DeviceFailure, after_seek, NoFailure}
use Rattle.xet_records.specs.declared.file_structs.MDBFileInfo.{MDBFileInfo}
use Rattle.xet_records.specs.declared.xorb_structs.MDBXorbInfo.{MDBXorbInfo}
use Rattle.xet_records.specs.declared.row_copier.CopyFailure.{CopyFailure}
use Rattle.xet_records.specs.declared.row_copier.CopyFailure.TheVariants.{Input, Output}
use Rattle.xet_records.specs.Copying.{IsOutputFailure}
use Rattle.xet_records.specs.Steps.CopyingSteps.{error_of}
use Rattle.xet_records.specs.declared.record_reader.FormatVersion.{FormatVersion}
use Rattle.xet_records.specs.declared.record_reader.FormatVersion.TheVariants.{V3}
use Rattle.xet_records.specs.Version.{version_of}
use Rattle.xet_records.specs.RecordKind.{RecordKind}
use Rattle.xet_records.specs.FileRecord.{file_records, file_records_in}
use Rattle.xet_records.specs.XorbRecord.{xorb_records}
use Rattle.xet_records.proofs.RecordKinds.{file_laws}
use Rattle.xet_shards.specs.declared.shard_format.ends.info.MDBShardInfo.{MDBShardInfo}
use Rattle.xet_shards.specs.declared.shard_format.write.written.WrittenFiles.{WrittenFiles}
use Rattle.xet_shards.specs.declared.shard_format.write.written.WrittenXorbs.{WrittenXorbs}
use Rattle.xet_shards.specs.Ends.Ends.{FitsFooter}
use Rattle.xet_shards.specs.Write.WithOptions.{Ascends}
use Rattle.xet_shards.specs.Write.Layout.{shard_header_bytes, header_value}
use Rattle.xet_shards.specs.Read.SectionReading.{files_of, IsSection, StreamsSection}
use Rattle.xet_shards.specs.Content.Shard.{Shard}
use Rattle.xet_shards.specs.Write.Written.{HasWritten, HasWrittenXorbs}
use Rattle.xet_shards.proofs.Write.Written.{whole_layout}
use Rattle.xet_core_structures.specs.TwoShards.ByteResults.{keyed_options, key_of}
use Rattle.xet_core_structures.specs.Steps.ByteResultsSteps.{FailsBy, Records, HaveInputs, AreCombined, WritesEnd}
use Rattle.xet_core_structures.specs.Records.ShardContents.{HasFiles, xorbs_at}
use Rattle.xet_core_structures.specs.TwoShards.SetOutcomes.{Operates, OperationFails}
use Rattle.xet_core_structures.specs.Steps.SetOutcomesSteps.{OperatesOn, OperationLaws}
use Rattle.xet_core_structures.specs.Steps.MergeJoin.{SectionRefusal, CannotCombine, WritesCombined, SectionsFail}
use Rattle.xet_core_structures.specs.Steps.MergeJoin.SectionsFail.{first_fails, second_fails}
use Rattle.xet_core_structures.specs.TwoShards.Streams.{Streams, streams}
use Rattle.xet_core_structures.specs.Steps.StreamsSteps.{sources}
use Rattle.xet_core_structures.proofs.Records.ShardContents.{stored_ascend}
use Rattle.xet_core_structures.proofs.Records.Lists.{sections_read, lists_read}
use Rattle.xet_core_structures.proofs.TwoShards.Results.{failed_by, sections_failed, sections_kept, section_serves, files_of_first, files_of_second, xorbs_of_first, xorbs_of_second}
use Rattle.xet_core_structures.proofs.TwoShards.OneSection.{serves_on, serves_same}

output_fails_by : (Cause : CoreError → Type 0) (failure : CopyFailure) → IsOutputFailure failure → FailsBy Cause failure
output_fails_by Cause (Input e) none = absurd none
output_fails_by Cause (Output e) is = is

-- an operation that failed
not_operated : {E : Type 0} (IsResult : Shard → Shard → Shard → Type 0) (Fails : E → Type 0) (i j : MDBShardInfo) (old new : Streams) (e : E) → Fails e
    → (new.first.bytes ≡ old.first.bytes) × (new.second.bytes ≡ old.second.bytes) → Operates IsResult Fails i j old new (Err e)
not_operated IsResult Fails i j old new e fails same = record { written = fails; with_options = tt; costs = tt; no_failure = tt; sources = same; widths = tt }

-- what a caller returns whose error does not say which side failed
module _ (IsResult : Shard → Shard → Shard → Type 0) (Refusal : List ℕ → MDBShardInfo → List ℕ → MDBShardInfo → CoreError → Type 0) (i j : MDBShardInfo) (old new : Streams) where
  abbrev Fails : CoreError → Type 0
  Fails = OperationFails (Refusal old.first.bytes i old.second.bytes j) old new

  pub operates : (info : MDBShardInfo) → OperatesOn IsResult Refusal i j old new (Ok info) → Operates IsResult Fails i j old new (Ok info)
  operates info is = record { written = is.written; with_options = is.with_options; costs = is.costs; no_failure = is.no_failure; sources = is.sources; widths = is.widths }

  pub operation_failed : (failure : CopyFailure) (e : CoreError) → e ≡ error_of failure → OperatesOn IsResult Refusal i j old new (Err failure) → Operates IsResult Fails i j old new (Err e)
  operation_failed failure e same is = not_operated IsResult Fails i j old new e (failed_by _ failure e same is.written) is.sources

-- what holds of a source after a seek holds without it
NoFailure-before_seek : (one new : Source) (at : ℕ) → NoFailure (after_seek one at) new → NoFailure one new
NoFailure-before_seek one new at no_failure = record { bytes = no_failure.bytes; failures = no_failure.failures; last_failure = no_failure.last_failure }

-- a source was not moved to its section
module _ {H R : Type 0} (K : RecordKind H R) (v w : FormatVersion) (makes : Option R → Option R → Option R → Type 0) (one two new : Source) (at_1 at_2 : ℕ) (e : CoreError) where
  pub first_not_moved : new.bytes ≡ one.bytes → DeviceFailure one new e → SectionsFail K v w makes (sources (after_seek one at_1) (after_seek two at_2)) (sources new two) (Input e)
  first_not_moved bytes failed = first_fails e refl (record { bytes = bytes; cause = inl failed }) (record { bytes = refl; failures = refl; last_failure = refl })

  pub second_not_moved : (there : Source) → there ≡ after_seek one at_1 → new.bytes ≡ two.bytes → DeviceFailure two new e → SectionsFail K v w makes (sources (after_seek one at_1) (after_seek two at_2)) (sources there new) (Input e)
  second_not_moved there is bytes failed = second_fails e refl (record { bytes = bytes; cause = inl failed }) (serves_same (after_seek one at_1) there is)

module _ (old_1 old_2 : Source) (i j : MDBShardInfo) (same : key_of i ≡ key_of j) (IsResult : Shard → Shard → Shard → Type 0)
    (IsFile : Option MDBFileInfo → Option MDBFileInfo → Option MDBFileInfo → Type 0) (IsXorb : Option MDBXorbInfo → Option MDBXorbInfo → Option MDBXorbInfo → Type 0)
    (Refusal : List ℕ → MDBShardInfo → List ℕ → MDBShardInfo → CoreError → Type 0) (laws : OperationLaws IsResult IsFile IsXorb Refusal) where
  abbrev Cause : CoreError → Type 0
  Cause = Refusal old_1.bytes i old_2.bytes j

  pub files_failed : (new_1 new_2 : Source) (start end : Option (List ℕ)) (failure : CopyFailure)
      → SectionsFail file_records (version_of i.header.version) (version_of j.header.version) IsFile (sources (after_seek old_1 i.metadata.file_info_offset) (after_seek old_2 j.metadata.file_info_offset)) (sources new_1 new_2) failure
      → OperatesOn IsResult Refusal i j (streams old_1 old_2 start) (streams new_1 new_2 end) (Err failure)
  files_failed new_1 new_2 start end failure fails =
      let v = version_of i.header.version in
      let w = version_of j.header.version in
      let at_1 = after_seek old_1 i.metadata.file_info_offset in
      let at_2 = after_seek old_2 j.metadata.file_info_offset in
      not_operated IsResult _ i j _ _ failure
      (sections_failed file_records v w IsFile at_1 new_1 at_2 new_2 old_1 old_2 Cause refl refl
      (λ e refusal. laws.not_read old_1.bytes i old_2.bytes j e (inr (same, files_of_first old_1.bytes i old_2.bytes j e refusal)))
      (λ e refusal. laws.not_read old_1.bytes i old_2.bytes j e (inr (same, files_of_second old_1.bytes i old_2.bytes j e refusal)))
      (λ e invalid none. laws.no_files old_1.bytes i old_2.bytes j e same invalid none) failure fails)
      (sections_kept file_records v w IsFile at_1 new_1 at_2 new_2 failure fails)

  module _ (mid_1 mid_2 : Source) (files : WrittenFiles) (after_header after_files : Option (List ℕ))
      (combined : WritesCombined file_records (version_of i.header.version) (version_of j.header.version) IsFile (streams (after_seek old_1 i.metadata.file_info_offset) (after_seek old_2 j.metadata.file_info_offset) after_header)
      (streams mid_1 mid_2 after_files) (HasWritten files)) where
    served_1 : NoFailure old_1 mid_1
    served_1 = NoFailure-before_seek old_1 mid_1 i.metadata.file_info_offset (section_serves (files_of i) (after_seek old_1 i.metadata.file_info_offset) mid_1 combined.firsts combined.first)

    served_2 : NoFailure old_2 mid_2
    served_2 = NoFailure-before_seek old_2 mid_2 j.metadata.file_info_offset (section_serves (files_of j) (after_seek old_2 j.metadata.file_info_offset) mid_2 combined.seconds combined.second)

    -- the file sections that were read
    files_read : (version : FormatVersion) (old new : Source) (at : ℕ) (found : List MDBFileInfo) → StreamsSection (file_records_in version) (after_seek old at) new found → Ascends file_records found
        → (files : List MDBFileInfo) × IsSection (file_records_in version) (drop at old.bytes) files × Ascends file_records files
    files_read version old new at found read ascends = (read.stored, read.section, stored_ascend file_records file_laws read.stored found read.returned ascends)

    files_1 : HasFiles old_1.bytes i
    files_1 = files_read (version_of i.header.version) old_1 mid_1 i.metadata.file_info_offset combined.firsts combined.first combined.first_ascends

    files_2 : HasFiles old_2.bytes j
    files_2 = files_read (version_of j.header.version) old_2 mid_2 j.metadata.file_info_offset combined.seconds combined.second combined.second_ascends

    pub xorbs_failed : (new_1 new_2 : Source) (start end : Option (List ℕ)) (failure : CopyFailure)
        → SectionsFail xorb_records V3 V3 IsXorb (sources (after_seek mid_1 i.metadata.xorb_info_offset) (after_seek mid_2 j.metadata.xorb_info_offset)) (sources new_1 new_2) failure
        → OperatesOn IsResult Refusal i j (streams old_1 old_2 start) (streams new_1 new_2 end) (Err failure)
    xorbs_failed new_1 new_2 start end failure fails =
        let at_1 = after_seek mid_1 i.metadata.xorb_info_offset in
        let at_2 = after_seek mid_2 j.metadata.xorb_info_offset in
        let kept = sections_kept xorb_records V3 V3 IsXorb at_1 new_1 at_2 new_2 failure fails in
        not_operated IsResult _ i j _ _ failure
        (sections_failed xorb_records V3 V3 IsXorb at_1 new_1 at_2 new_2 old_1 old_2 Cause served_1.failures served_2.failures
        (λ e refusal. laws.not_read old_1.bytes i old_2.bytes j e (inr (same, xorbs_of_first old_1.bytes i old_2.bytes j e files_1 (subst (λ bytes. SectionRefusal xorb_records V3 (xorbs_at bytes i) e) served_1.bytes refusal))))
        (λ e refusal. laws.not_read old_1.bytes i old_2.bytes j e (inr (same, xorbs_of_second old_1.bytes i old_2.bytes j e files_2 (subst (λ bytes. SectionRefusal xorb_records V3 (xorbs_at bytes j) e) served_2.bytes refusal))))
        (λ e invalid none. laws.no_xorbs old_1.bytes i old_2.bytes j e same invalid
        (subst (λ p. p) (λ k. CannotCombine xorb_records V3 V3 IsXorb (xorbs_at (served_1.bytes k) i) (xorbs_at (served_2.bytes k) j)) none)) failure fails)
        (kept.0 ∙ served_1.bytes, kept.1 ∙ served_2.bytes)

    module _ (new_1 new_2 : Source) (xorbs : WrittenXorbs) (after_xorbs : Option (List ℕ))
        (further : WritesCombined xorb_records V3 V3 IsXorb (streams (after_seek mid_1 i.metadata.xorb_info_offset) (after_seek mid_2 j.metadata.xorb_info_offset) after_files) (streams new_1 new_2 after_xorbs) (HasWrittenXorbs xorbs)) where
      abbrev one : Records
      one = record { files = combined.firsts; xorbs = further.firsts }

      abbrev other : Records
      other = record { files = combined.seconds; xorbs = further.seconds }

      abbrev both_made : Records
      both_made = record { files = combined.made; xorbs = further.made }

      inputs : HaveInputs old_1.bytes i old_2.bytes j one other
      inputs = record {
        same_key = same;
        first = lists_read old_1 mid_1 new_1 i combined.firsts further.firsts combined.first further.first combined.first_ascends further.first_ascends;
        second = lists_read old_2 mid_2 new_2 j combined.seconds further.seconds combined.second further.second combined.second_ascends further.second_ascends;
      }

      are_combined : AreCombined IsFile IsXorb one other both_made
      are_combined = record { files = combined.combined; xorbs = further.combined; few_files = combined.few; few_xorbs = further.few }

      whole_1 : NoFailure old_1 new_1
      whole_1 = serves_on old_1 mid_1 new_1 served_1 (NoFailure-before_seek mid_1 new_1 i.metadata.xorb_info_offset (section_serves xorb_records (after_seek mid_1 i.metadata.xorb_info_offset) new_1 further.firsts further.first))

      whole_2 : NoFailure old_2 new_2
      whole_2 = serves_on old_2 mid_2 new_2 served_2 (NoFailure-before_seek mid_2 new_2 j.metadata.xorb_info_offset (section_serves xorb_records (after_seek mid_2 j.metadata.xorb_info_offset) new_2 further.seconds further.second))

      -- both sections are combined, and the tables and the footer written, unless the output fails
      pub tables_written : (start end : Option (List ℕ)) (r : Result MDBShardInfo CopyFailure) → Appends start after_header (shard_header_bytes (header_value V3))
          → IfOk r (WritesEnd files xorbs (keyed_options (key_of i)) after_xorbs end) → IfOk r (λ info. FitsFooter info.metadata) → IfErr r IsOutputFailure
          → OperatesOn IsResult Refusal i j (streams old_1 old_2 start) (streams new_1 new_2 end) r
      tables_written start end (Ok info) header ends fits none =
          let rest = ends combined.made further.made (λ k r below. (combined.combined.stored k r below).widths) combined.written further.written in
          let written = laws.written old_1.bytes i old_2.bytes j one other both_made start end info inputs are_combined
          (rest.0, whole_layout start after_header after_files after_xorbs end combined.made further.made (keyed_options (key_of i)) header combined.bytes further.bytes rest.1) in
          record {
            written = written;
            with_options = laws.with_options old_1.bytes i old_2.bytes j start end info fits written;
            costs = (
              sections_read old_1 mid_1 new_1 i combined.firsts further.firsts combined.first further.first,
              sections_read old_2 mid_2 new_2 j combined.seconds further.seconds combined.second further.second,
            );
            no_failure = (whole_1, whole_2);
            sources = (whole_1.bytes, whole_2.bytes);
            widths = fits;
          }
      tables_written start end (Err failure) header ends fits causes = not_operated IsResult _ i j _ _ failure (output_fails_by _ failure causes) (whole_1.bytes, whole_2.bytes)
