-- The ranges of the files of a shard, read from its layout.
use Rattle.std.proofs.Common.{◌≡◌, ◌⊎◌, inl, inr, Ok, Err, drop, subst, ◌+◌, List, map, refl, sym, ap, ◌∙◌, rules}
use Rattle.std.specs.Prelude.{MatchResult}
use Rattle.std.specs.FinMap.{entries, values}
use Rattle.std.specs.declared.result.Result.{Result}
use Rattle.std.specs.declared.vec.Vec.{Vec}
use Rattle.xet_base.specs.declared.error.CoreError.{CoreError}
use Rattle.xet_base.specs.declared.error.CoreError.TheVariants.{OutOfMemory}
use Rattle.xet_base.specs.Source.{Source, ReadsBytes, DeviceFailure, bytes_left}
use Rattle.xet_base.proofs.Lists.{rest_is}
use Rattle.xet_base.proofs.Reading.{ReadsBytes-consumes}
use Rattle.xet_records.specs.declared.file_structs.MDBFileInfo.{MDBFileInfo}
use Rattle.xet_records.specs.declared.xorb_structs.MDBXorbInfo.{MDBXorbInfo}
use Rattle.xet_records.specs.FileRecord.{file_records, file_records_in}
use Rattle.xet_shards.specs.declared.shard_format.ends.header.MDBShardFileHeader.{MDBShardFileHeader}
use Rattle.xet_shards.specs.Content.Shard.{Shard}
use Rattle.xet_shards.specs.Write.WrittenShard.{IsBytesOf}
use Rattle.xet_shards.specs.Write.Layout.{layout_of, LayoutOptions, shard_header_bytes, header_value, plain_options_in}
use Rattle.xet_shards.specs.Ends.Ends.{HasHeader}
use Rattle.xet_shards.specs.Read.SectionReading.{IsSection}
use Rattle.xet_shards.specs.Read.FileRanges.{FileRanges, ranges_at, file_ranges, ReadsFileRanges, FileRangesFail}
use Rattle.xet_shards.proofs.ShardInMemory.Files.{well_formed_values}
use Rattle.xet_shards.proofs.Write.Layouts.{length-shard_header_bytes}
use Rattle.xet_shards.proofs.Ends.Loading.{header_of, one_version}
use Rattle.xet_records.specs.Version.{IsVersion, version_of}
use Rattle.xet_records.proofs.RecordKinds.{version_known}
use Rattle.xet_shards.proofs.Read.Readback.{layout_from_48, file_section_in, all_as_read, why_not}
use Rattle.xet_shards.proofs.Write.Sections.{FitsSection, files_fit_in, files_laws}
use Rattle.xet_shards.proofs.Read.SectionWalks.{keeps_known}

-- such a layout from the source's offset on
module _ (old new : Source) (files : List MDBFileInfo) (xorbs : List MDBXorbInfo) (options : LayoutOptions) (fits : FitsSection (file_records_in options.version) files) (are : bytes_left old ≡ layout_of files xorbs options) where
  has_header : HasHeader (bytes_left old)
  has_header = header_of (bytes_left old) _ (header_value options.version) (are ∙ layout_from_48 files xorbs options) (options.version, refl)

  section_there : (header : MDBShardFileHeader) (mid : Source) → ReadsBytes old mid (shard_header_bytes header) → IsSection (file_records_in options.version) (bytes_left mid) files
  section_there header mid taken =
      let rest : drop 48 (bytes_left old) ≡ bytes_left mid =
      rest_is 48 (bytes_left old) (shard_header_bytes header) (bytes_left mid) (length-shard_header_bytes header) (ReadsBytes-consumes old mid (shard_header_bytes header) taken) in
      subst (λ bytes. IsSection (file_records_in options.version) bytes files) (sym (ap (drop 48) are) ∙ rest) (file_section_in files xorbs options fits)

  section : (header : MDBShardFileHeader) (mid : Source) → IsVersion header.version → ReadsBytes old mid (shard_header_bytes header)
      → IsSection (file_records_in (version_of header.version)) (bytes_left mid) files
  unfolding has_header
  section header mid known taken =
      let read = header_of (bytes_left old) (bytes_left mid) header (ReadsBytes-consumes old mid (shard_header_bytes header) taken) known in
      subst (λ v. IsSection (file_records_in v) (bytes_left mid) files) (sym (one_version (bytes_left old) read has_header ∙ version_known options.version)) (section_there header mid taken)

  why_no_ranges : (e : CoreError) → FileRangesFail old new e → DeviceFailure old new e ⊎ (e ≡ OutOfMemory)
  why_no_ranges e (inl part) = search (rules, has_header)
  why_no_ranges e (inr (header, mid, known, taken, fails)) =
      search (rules, taken.after, why_not (file_records_in (version_of header.version)) (files_laws (version_of header.version)) mid new files (section header mid known taken) e fails.cause)

  -- is read so, unless the device fails or an allocation does
  ranges_in_layout : {Z : Type 0} (r : Result (Vec FileRanges Z) CoreError) → map file_records.as_read files ≡ files → MatchResult r (λ found. ReadsFileRanges old new found.items) (FileRangesFail old new)
      → MatchResult r (λ found. found.items ≡ file_ranges (old.at + 48) files) (λ e. DeviceFailure old new e ⊎ (e ≡ OutOfMemory))
  ranges_in_layout (Ok found) same read =
      let mid = read.after_header in
      let at : mid.at ≡ old.at + 48 = ap (λ (s : Source). s.at) read.header_taken.after ∙ ap (λ n. old.at + n) (length-shard_header_bytes read.header) in
      keeps_known (file_records_in (version_of read.header.version)) (files_laws (version_of read.header.version)) ranges_at mid new files (Ok found)
      (section read.header mid read.version read.header_taken) same read.ranges ∙ ap (λ n. file_ranges n files) at
  ranges_in_layout (Err e) same fails = why_no_ranges e fails

pub ranges_written : (old new : Source) (s : Shard) → IsBytesOf s (bytes_left old) → {Z : Type 0} (r : Result (Vec FileRanges Z) CoreError)
    → MatchResult r (λ found. ReadsFileRanges old new found.items) (FileRangesFail old new)
    → MatchResult r (λ found. found.items ≡ file_ranges (old.at + 48) (values s.files)) (λ e. DeviceFailure old new e ⊎ (e ≡ OutOfMemory))
ranges_written old new s is r read =
    ranges_in_layout old new (values s.files) (values s.xorbs) (plain_options_in is.version is.expiry) (files_fit_in is.version s is.shard is.files) is.bytes_are r
    (all_as_read (values s.files) (well_formed_values (entries s.files) is.shard.files)) read
