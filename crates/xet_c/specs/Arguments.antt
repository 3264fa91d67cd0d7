-- What the structs say that are passed.
use Rattle.std.specs.Prelude.{◌≡◌, ◌⊎◌, ⊤, ℕ, Bool, true, false, not, is_some, List, [], ◌∷◌, length, map, Option, None, Some, option_map}
use Rattle.std.specs.FinMap.{values}
use Rattle.xet_core_structures.specs.declared.error.CoreError.{CoreError}
use Rattle.xet_core_structures.specs.declared.error.CoreError.TheVariants.{OutOfMemory}
use Rattle.xet_core_structures.specs.declared.file_structs.FileDataSequenceEntry.{FileDataSequenceEntry}
use Rattle.xet_core_structures.specs.declared.file_structs.HashRow.{HashRow}
use Rattle.xet_core_structures.specs.declared.file_structs.KeptParts.{KeptParts}
use Rattle.xet_core_structures.specs.declared.file_structs.MDBFileInfo.{MDBFileInfo}
use Rattle.xet_core_structures.specs.declared.merklehash.DataHash.{DataHash}
use Rattle.xet_core_structures.specs.declared.shard_format.MDBShardInfo.{MDBShardInfo}
use Rattle.placed_shards.specs.declared.selection.Access.{Access}
use Rattle.placed_shards.specs.declared.selection.Access.TheVariants.{Scan, Tables}
use Rattle.placed_shards.specs.declared.selection.Selection.{Selection}
use Rattle.xet_core_structures.specs.declared.xorb_structs.MDBXorbInfo.{MDBXorbInfo}
use Rattle.xet_core_structures.specs.Errors.{variant_number}
use Rattle.xet_core_structures.specs.FileRecord.{has_verification}
use Rattle.xet_core_structures.specs.Hash.{words_of}
use Rattle.xet_core_structures.specs.KeyedHash.{no_key}
use Rattle.xet_core_structures.specs.Shard.{Shard}
use Rattle.xet_core_structures.specs.WrittenQueries.{RunAmong, RunInXorb}
use Rattle.xet_core_structures.specs.WrittenShard.{IsBytesOf}
use Rattle.xet_core_structures.specs.XorbRecord.{xorb_records}
use Rattle.shard_bytes.specs.Section.{StartsAt}
use Rattle.shard_bytes.specs.declared.export.Export.{Export}
use Rattle.shard_bytes.specs.declared.minimal.KeptXorbs.{KeptXorbs}
use Rattle.shard_bytes.specs.declared.minimal.KeptXorbs.TheVariants.{All as all_xorbs, Listed}
use Rattle.shard_bytes.specs.declared.minimal.Subset.{Subset}
use Rattle.shard_bytes.specs.Minimal.{SubsetBytes}
use Rattle.shard_bytes.specs.Query.{AnswersQuery, RefusesQuery, AnswersQueryAt, RefusesQueryAt, HasNoChunkAt}
use Rattle.xet_c.specs.declared.export.XetExportOptions.{XetExportOptions}
use Rattle.xet_c.specs.declared.find.XetFile.{XetFile}
use Rattle.xet_c.specs.declared.hash.XetHash.{XetHash}
use Rattle.xet_c.specs.declared.load.XetInfo.{XetInfo}
use Rattle.xet_c.specs.declared.merge.XetMergeOptions.{XetMergeOptions}
use Rattle.xet_c.specs.declared.minimal.XetMinimalOptions.{XetMinimalOptions}
use Rattle.xet_c.specs.declared.segment.XetFileSegment.{XetFileSegment}
use Rattle.xet_c.specs.declared.segment.XetSegment.{XetSegment}
use Rattle.xet_c.specs.declared.subset.XetSubsetOptions.{XetSubsetOptions}

-- an export has the key, the times and the parts that are asked for
pub record AsksFor (options : XetExportOptions) (x : Export) : Type 0 where
  pub key : words_of x.key ≡ options.key
  -- the creation time, in seconds
  pub now : x.now ≡ options.now
  -- the seconds from the creation to the expiry
  pub valid_seconds : x.valid_seconds ≡ options.valid_seconds
  pub files : x.parts.files ≡ not options.without_files
  pub aux_rows : x.parts.aux_ext ≡ not options.without_aux_rows
  pub xorb_table : x.parts.xorb_table ≡ not options.without_xorb_table
  pub chunk_table : x.parts.chunk_table ≡ not options.without_chunk_table

-- the parts that the files of a minimal shard keep
abbrev pub kept_parts : XetMinimalOptions → KeptParts
kept_parts options =
    record { verification = options.verification; aux_ext = not options.without_aux_rows }

-- the numbers of a header and a footer
abbrev pub c_info : MDBShardInfo → XetInfo
c_info info = record {
  version = info.header.version;
  files = info.metadata.file_lookup_num_entry;
  xorbs = info.metadata.xorb_lookup_num_entry;
  chunks = info.metadata.chunk_lookup_num_entry;
  key = words_of info.metadata.chunk_hash_hmac_key;
  creation = info.metadata.shard_creation_timestamp;
  expiry = info.metadata.shard_key_expiry;
  stored_bytes_on_disk = info.metadata.stored_bytes_on_disk;
  materialized_bytes = info.metadata.materialized_bytes;
  stored_bytes = info.metadata.stored_bytes;
  file_section = info.metadata.file_info_offset;
  xorb_section = info.metadata.xorb_info_offset;
  file_table = info.metadata.file_lookup_offset;
  xorb_table = info.metadata.xorb_lookup_offset;
  chunk_table = info.metadata.chunk_lookup_offset;
  footer = info.metadata.footer_offset;
  footer_size = info.header.footer_size;
  footer_version = info.metadata.version;
  reserved = info.metadata._buffer;
}

-- a hash by its words
abbrev pub c_hash : DataHash → XetHash
c_hash hash = record { words = words_of hash }

-- all xorbs are kept, or those with these hashes
abbrev pub KeepsXorbs : Bool → List XetHash → KeptXorbs → Type 0
KeepsXorbs true cs all_xorbs = ⊤
KeepsXorbs false cs (Listed hashes) = map c_hash hashes.items ≡ cs
KeepsXorbs _ cs _ = ⊥

-- a subset has the times and keeps the xorbs that are asked for
pub record AsksForSubset (options : XetSubsetOptions) (xorbs : List XetHash) (subset : Subset) : Type 0
  where
    pub now : subset.now ≡ options.now
    pub expiry : subset.expiry ≡ Some options.expiry
    pub kept : KeepsXorbs options.all xorbs subset.kept

-- the bytes of the subset that is asked for
abbrev pub WritesSubset : XetSubsetOptions → List XetHash → List ℕ → List ℕ → Type 0
WritesSubset options xorbs bytes out =
    (subset : Subset) × AsksForSubset options xorbs subset × SubsetBytes subset bytes out

-- the numbers of a segment
abbrev pub c_segment : FileDataSequenceEntry → XetSegment
c_segment s = record {
  xorb = words_of s.xorb_hash;
  flags = s.xorb_flags;
  bytes = s.unpacked_segment_bytes;
  start = s.chunk_index_start;
  end = s.chunk_index_end;
}

-- the words of a hash, or zeros if there is none
abbrev pub words_or_zero : Option DataHash → List ℕ
words_or_zero (Some hash) = words_of hash
words_or_zero None = 0 ∷ 0 ∷ 0 ∷ 0 ∷ []

-- a segment of a file, with its verification hash if it has one
abbrev pub c_file_segment : FileDataSequenceEntry → Option DataHash → XetFileSegment
c_file_segment s hash = record { segment = c_segment s; verification = words_or_zero hash }

-- segments, each with the hash of its verification row, or zeros if it has none
abbrev pub c_segments : List FileDataSequenceEntry → List HashRow
    → List XetFileSegment
c_segments [] rows = []
c_segments (s ∷ ss) [] = c_file_segment s None ∷ c_segments ss []
c_segments (s ∷ ss) (row ∷ rows) = c_file_segment s (Some row.hash) ∷ c_segments ss rows

-- the segments of a file, each with the hash of its verification row or zeros; none without a file
abbrev pub segments_in : Option MDBFileInfo → List XetFileSegment
segments_in (Some file) = c_segments file.segments file.verification
segments_in None = []

-- what a record has, or that there is none
abbrev pub c_file : Option MDBFileInfo → XetFile
c_file (Some file) = record {
  found = true;
  has_verification = has_verification file.metadata.file_flags;
  has_sha256 = is_some file.metadata_ext;
  has_aux = is_some file.aux_ext;
  flags = file.metadata.file_flags;
  segments = length file.segments;
  sha256 = words_or_zero (option_map (λ row. row.hash) file.metadata_ext);
  aux_hash = words_or_zero (option_map (λ row. row.hash) file.aux_ext);
  reserved = file.metadata._unused;
}
c_file None = record {
  found = false;
  has_verification = false;
  has_sha256 = false;
  has_aux = false;
  flags = 0;
  segments = 0;
  sha256 = words_or_zero None;
  aux_hash = words_or_zero None;
  reserved = 0;
}

-- a count and a segment show the answer of a query: of none the count is 0, and the segment stays
abbrev pub IsRun : Option (ℕ × FileDataSequenceEntry) → (old new : XetSegment) → ℕ → Type 0
IsRun None old new count = (count ≡ 0) × (new ≡ old)
IsRun (Some run) old new count = (count ≡ run.0) × (new ≡ c_segment run.1)

-- what a query for these hashes answers, on any bytes and on those of a shard
abbrev pub AnswersRun : List ℕ → List XetHash → Option (ℕ × FileDataSequenceEntry) → Type 0
AnswersRun bytes cs answer =
    (hashes : List DataHash) × (map c_hash hashes ≡ cs) × AnswersQuery bytes hashes answer
    × ((s : Shard) → IsBytesOf s bytes → RunAmong no_key hashes (values s.xorbs) answer)

-- why a query for these hashes is refused: an allocation failed, or the query is refused on these
-- bytes, which are not a shard's
abbrev pub RefusesRun : List ℕ → List XetHash → CoreError → Type 0
RefusesRun bytes cs e =
    (e ≡ OutOfMemory)
    ⊎ ((hashes : List DataHash) × (map c_hash hashes ≡ cs) × RefusesQuery bytes hashes e
    × ((s : Shard) → ¬ IsBytesOf s bytes))

-- these bytes are a shard's, and at a row starts this xorb of it
abbrev pub HasXorbStart : List ℕ → ℕ → Shard → MDBXorbInfo → Type 0
HasXorbStart bytes row s xorb = IsBytesOf s bytes × StartsAt xorb_records (values s.xorbs) row xorb

-- the answer of a query for these hashes at a row and an index, on any bytes and at a shard's xorb
abbrev pub AnswersRunAt : List ℕ → List XetHash → (row index : ℕ)
    → Option (ℕ × FileDataSequenceEntry) → Type 0
AnswersRunAt bytes cs row index answer =
    (hashes : List DataHash) × (map c_hash hashes ≡ cs)
    × AnswersQueryAt bytes hashes row index answer
    × ((s : Shard) → (xorb : MDBXorbInfo) → HasXorbStart bytes row s xorb
    → RunInXorb no_key hashes xorb index answer)

-- why a query for these hashes at a row and an index is refused, on any bytes and at a shard's xorb
abbrev pub RefusesRunAt : List ℕ → List XetHash → (row index : ℕ) → CoreError → Type 0
RefusesRunAt bytes cs row index e =
    (e ≡ OutOfMemory)
    ⊎ ((hashes : List DataHash) × (map c_hash hashes ≡ cs)
    × RefusesQueryAt bytes hashes row index e
    × ((s : Shard) → (xorb : MDBXorbInfo) → HasXorbStart bytes row s xorb
    → HasNoChunkAt hashes xorb index e))

-- an answer is shown, or why there is none: then the count is 0, and the segment stays
abbrev pub ShowsRun : (Option (ℕ × FileDataSequenceEntry) → Type 0) → (CoreError → Type 0)
    → (old new : XetSegment) → (count result : ℕ) → Type 0
ShowsRun Answers Refuses old new count result =
    ((answer : Option (ℕ × FileDataSequenceEntry)) × Answers answer × IsRun answer old new count
    × (result ≡ 0))
    ⊎ ((e : CoreError) × Refuses e × (new ≡ old) × (count ≡ 0) × (result ≡ variant_number e))

-- a bound is the hash with these words if one is asked for, and else there is none
abbrev pub IsBound : Bool → List ℕ → Option DataHash → Type 0
IsBound false words bound = bound ≡ None
IsBound true words bound = (hash : DataHash) × (bound ≡ Some hash) × (words_of hash ≡ words)

-- records are found by the tables if that is asked for, else by a scan
abbrev pub IsAccess : Bool → Access → Type 0
IsAccess true access = access ≡ Tables
IsAccess false access = access ≡ Scan

-- the records are selected that are asked for: those in the range with these bounds
pub record AsksForRecords (options : XetMergeOptions) (selection : Selection) : Type 0 where
  pub from : IsBound options.has_from options.from selection.range.from
  pub to : IsBound options.has_to options.to selection.range.to
  pub access : IsAccess options.by_tables selection.access
