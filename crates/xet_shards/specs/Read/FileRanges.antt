-- Where the rows of each file are in a source.
use Rattle.std.specs.Prelude.{◌≡◌, ◌⊎◌, ℕ, ◌+◌, ◌*◌, ◌^◌, ◌<◌, List, Option, None, Some, option_map, if◌then◌else◌}
use Rattle.xet_base.specs.declared.error.CoreError.{CoreError}
use Rattle.xet_base.specs.declared.merklehash.DataHash.{DataHash}
use Rattle.xet_base.specs.Source.{Source, ReadsBytes}
use Rattle.xet_records.specs.declared.file_structs.header.FileDataSequenceHeader.{FileDataSequenceHeader}
use Rattle.xet_records.specs.declared.file_structs.rows.HashRow.{HashRow}
use Rattle.xet_records.specs.declared.file_structs.MDBFileInfo.{MDBFileInfo}
use Rattle.xet_records.specs.FileRecord.{has_verification, file_records, file_records_in}
use Rattle.xet_records.specs.declared.record_reader.FormatVersion.{FormatVersion}
use Rattle.xet_records.specs.Version.{IsVersion, version_of}
use Rattle.xet_shards.specs.declared.shard_format.ends.header.MDBShardFileHeader.{MDBShardFileHeader}
use Rattle.xet_shards.specs.Write.Layout.{header_tag, shard_header_bytes}
use Rattle.xet_shards.specs.Ends.Ends.{HasUnsupportedHeader, EndsInHeader, PartFails}
use Rattle.xet_shards.specs.Read.SectionReading.{SectionNotStreamed}
use Rattle.xet_shards.specs.Read.SectionWalk.{kept_of, KeepsSection}

-- a file's hash, the offset of its first segment and the one after its last, those of its
-- verification rows, and its SHA-256
abbrev pub FileRanges : Type 0
FileRanges = DataHash × (ℕ × ℕ) × Option (ℕ × ℕ) × Option DataHash

-- the ranges of a record whose rows after the header start at an offset
abbrev pub ranges_after : ℕ → FileDataSequenceHeader → Option HashRow → FileRanges
ranges_after start h metadata_ext =
    let end = start + 48 * h.num_entries in (
      h.file_hash,
      (start, end),
      (if has_verification h.file_flags then Some (end, end + 48 * h.num_entries) else None),
      option_map (λ row. row.hash) metadata_ext,
    )

-- the ranges of a record at an offset
abbrev pub ranges_at : ℕ → MDBFileInfo → FileRanges
ranges_at offset r = ranges_after (offset + 48) r.metadata r.metadata_ext

-- the ranges of records whose section is at an offset
abbrev pub file_ranges : ℕ → List MDBFileInfo → List FileRanges
file_ranges at files = kept_of file_records ranges_at at files

-- the file section was read through from the source's position on, and these are the ranges of its
-- files
abbrev pub StreamsRanges : FormatVersion → Source → Source → List FileRanges → Type 0
StreamsRanges version old new found = KeepsSection (file_records_in version) ranges_at old new found

-- a shard's header, and after it the file section, were read from the source's position on
pub record ReadsFileRanges (old new : Source) (found : List FileRanges) : Type 0 where
  pub header : MDBShardFileHeader
  pub tag : header.tag ≡ header_tag
  pub version : IsVersion header.version
  -- the footer size in the header may be any number of 64 bits
  pub footer_size : header.footer_size < 2 ^ 64
  -- the source after the header
  pub after_header : Source
  pub header_taken : ReadsBytes old after_header (shard_header_bytes header)
  -- the file section after the header was read through
  pub ranges : StreamsRanges (version_of header.version) after_header new found

-- the header was not read, or the section after it was not
abbrev pub FileRangesFail : Source → Source → CoreError → Type 0
FileRangesFail old new e =
    PartFails HasUnsupportedHeader EndsInHeader 48 old new e
    ⊎ ((header : MDBShardFileHeader) × (after_header : Source) × IsVersion header.version
    × ReadsBytes old after_header (shard_header_bytes header)
    × SectionNotStreamed (file_records_in (version_of header.version)) after_header new e)
