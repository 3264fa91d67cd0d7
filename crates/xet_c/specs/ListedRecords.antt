-- Records in lists: files and their segments, xorbs and their chunks.
use Rattle.std.specs.Prelude.{◌≡◌, ◌⊎◌, ℕ, ◌≤◌, ◌<◌, Bool, List, [], ◌∷◌, ◌++◌, length, map, flat_map, sum_by, take, drop, All, Some, Ok, Err, option_map, option_to_list, if◌then◌else◌}
use Rattle.xet_core_structures.specs.declared.error.CoreError.{CoreError}
use Rattle.xet_core_structures.specs.declared.error.CoreError.TheVariants.{InvalidArguments, OutOfMemory}
use Rattle.xet_core_structures.specs.declared.file_structs.HashRow.{HashRow}
use Rattle.xet_core_structures.specs.declared.file_structs.MDBFileInfo.{MDBFileInfo}
use Rattle.xet_core_structures.specs.declared.xorb_structs.MDBXorbInfo.{MDBXorbInfo}
use Rattle.xet_core_structures.specs.Errors.{CoreResult, variant_number}
use Rattle.xet_core_structures.specs.FileRecord.{has_verification, has_metadata_ext, has_aux_ext}
use Rattle.xet_core_structures.specs.Hash.{words_of}
use Rattle.xet_core_structures.specs.declared.record_reader.FormatVersion.{FormatVersion}
use Rattle.xet_core_structures.specs.Layout.{layout_in}
use Rattle.xet_core_structures.specs.WrittenShard.{HasFilesIn}
use Rattle.shard_bytes.specs.declared.records.Records.{Records}
use Rattle.shard_bytes.specs.Recording.{shard_of, CanAddRecords}
use Rattle.xet_c.specs.declared.listed.XetListedFile.{XetListedFile}
use Rattle.xet_c.specs.declared.listed.XetListedXorb.{XetListedXorb}
use Rattle.xet_c.specs.declared.records.XetCounts.{XetCounts}
use Rattle.xet_c.specs.declared.segment.XetFileSegment.{XetFileSegment}
use Rattle.xet_c.specs.declared.walk.XetChunk.{XetChunk}
use Rattle.xet_c.specs.Arguments.{c_segment, c_segments, words_or_zero}
use Rattle.xet_c.specs.ShownRecords.{c_chunk}

-- the item of a list for a file: its hash and flags, the hashes of its optional rows or zeros, and
-- how many segments its header announces
abbrev pub c_listed_file : MDBFileInfo → XetListedFile
c_listed_file r = record {
  hash = words_of r.metadata.file_hash;
  sha256 = words_or_zero (option_map (λ row. row.hash) r.metadata_ext);
  aux_hash = words_or_zero (option_map (λ row. row.hash) r.aux_ext);
  flags = r.metadata.file_flags;
  segments = r.metadata.num_entries;
}

-- the item of a list for a xorb: its hash and the numbers of its header
abbrev pub c_listed_xorb : MDBXorbInfo → XetListedXorb
c_listed_xorb r = record {
  hash = words_of r.metadata.xorb_hash;
  flags = r.metadata.xorb_flags;
  chunks = r.metadata.num_entries;
  bytes = r.metadata.num_bytes_in_xorb;
  bytes_on_disk = r.metadata.num_bytes_on_disk;
}

-- the segments of files, one file after another
abbrev pub all_segments : List MDBFileInfo → List XetFileSegment
all_segments files = flat_map (λ r. c_segments r.segments r.verification) files

-- the chunks of xorbs, one xorb after another
abbrev pub all_chunks : List MDBXorbInfo → List XetChunk
all_chunks xorbs = flat_map (λ r. map c_chunk r.chunks) xorbs

-- a list where a flag is set, or none
abbrev pub if_flagged : {X : Type 0} → Bool → List X → List X
if_flagged is_set xs = if is_set then xs else []

-- hash rows have these words, and zeros as reserved words
abbrev pub AreHashRows : List (List ℕ) → List HashRow → Type 0
AreHashRows words rows =
    (map (λ row. words_of row.hash) rows ≡ words) × All (λ row. row._unused ≡ 0 ∷ 0 ∷ []) rows

-- the record of a file of a list that has these segments: it has the parts that the flags name, and
-- reserved words are zeros
pub record IsListedFile (f : XetListedFile) (segments : List XetFileSegment) (r : MDBFileInfo) : Type 0 where
  pub hash : words_of r.metadata.file_hash ≡ f.hash
  pub flags : r.metadata.file_flags ≡ f.flags
  pub count : r.metadata.num_entries ≡ f.segments
  pub reserved : r.metadata._unused ≡ 0
  pub segments_are : map c_segment r.segments ≡ map (λ s. s.segment) segments
  pub verification : AreHashRows (if_flagged (has_verification f.flags) (map (λ s. s.verification) segments))
      r.verification
  pub sha256 : AreHashRows (if_flagged (has_metadata_ext f.flags) (f.sha256 ∷ [])) (option_to_list r.metadata_ext)
  pub aux_hash : AreHashRows (if_flagged (has_aux_ext f.flags) (f.aux_hash ∷ [])) (option_to_list r.aux_ext)

-- the record of a xorb of a list that has these chunks
pub record IsListedXorb (x : XetListedXorb) (chunks : List XetChunk) (r : MDBXorbInfo) : Type 0 where
  pub header : c_listed_xorb r ≡ x
  pub chunks_are : map c_chunk r.chunks ≡ chunks

-- the records of a list, each with as many of the items of another list as it says, one after
-- another, and all of them
module _ {L I R : Type 0} (count : L → ℕ) (IsListed : L → List I → R → Type 0) where
  abbrev pub AreListed : List L → List I → List R → Type 0
  AreListed [] items [] = items ≡ []
  AreListed (l ∷ ls) items (r ∷ rs) =
      (count l ≤ length items) × IsListed l (take (count l) items) r × AreListed ls (drop (count l) items) rs
  AreListed _ items _ = ⊥

-- the files of a list with the segments of another
abbrev pub AreListedFiles : List XetListedFile → List XetFileSegment → List MDBFileInfo → Type 0
AreListedFiles = AreListed (λ f. f.segments) IsListedFile

-- the xorbs of a list with the chunks of another
abbrev pub AreListedXorbs : List XetListedXorb → List XetChunk → List MDBXorbInfo → Type 0
AreListedXorbs = AreListed (λ x. x.chunks) IsListedXorb

-- the counts of a list add up to the number of items
abbrev pub AddUp : {L I : Type 0} → (L → ℕ) → List L → List I → Type 0
AddUp count ls items = sum_by count ls ≡ length items

-- these bytes are the shard of the records in the lists, in this version and with this expiry
pub record WritesListed (fs : List XetListedFile) (segments : List XetFileSegment) (xs : List XetListedXorb)
    (chunks : List XetChunk) (expiry : ℕ) (version : FormatVersion) (bytes : List ℕ) : Type 0 where
  pub files : List MDBFileInfo
  pub xorbs : List MDBXorbInfo
  pub files_are : AreListedFiles fs segments files
  pub xorbs_are : AreListedXorbs xs chunks xorbs
  pub can : CanAddRecords files xorbs
  pub has_files : HasFilesIn version (shard_of files xorbs)
  pub bytes_are : bytes ≡ layout_in version (shard_of files xorbs) (Some expiry)

-- why lists are not written: an allocation failed, counts do not add up, or no shard has the records
-- in them, or none of this version
abbrev pub RefusesListed : List XetListedFile → List XetFileSegment → List XetListedXorb → List XetChunk
    → FormatVersion → CoreError → Type 0
RefusesListed fs segments xs chunks version e =
    (e ≡ OutOfMemory)
    ⊎ ((e ≡ InvalidArguments)
    × ((¬ AddUp (λ f. f.segments) fs segments) ⊎ (¬ AddUp (λ x. x.chunks) xs chunks)
    ⊎ ((files : List MDBFileInfo) × (xorbs : List MDBXorbInfo) × AreListedFiles fs segments files
    × AreListedXorbs xs chunks xorbs
    × (¬ (CanAddRecords files xorbs × HasFilesIn version (shard_of files xorbs))))))

-- items were written to the front of an output that has room for them, and what is behind stays
abbrev pub IsPut : {X : Type 0} → List X → (old new : List X) → Type 0
IsPut items old new = (length items ≤ length old) × (new ≡ items ++ drop (length items) old)

-- how many records there are, and items of them
abbrev pub c_counts : Records → XetCounts
c_counts r = record {
  files = length r.files.items;
  segments = length (all_segments r.files.items);
  xorbs = length r.xorbs.items;
  chunks = length (all_chunks r.xorbs.items);
}

-- no records
abbrev pub no_counts : XetCounts
no_counts = record { files = 0; segments = 0; xorbs = 0; chunks = 0 }

-- four outputs of one call
pub record Outputs : Type 0 where
  pub files : List XetListedFile
  pub segments : List XetFileSegment
  pub xorbs : List XetListedXorb
  pub chunks : List XetChunk

-- one of the four outputs has no room
abbrev pub IsShort : Records → Outputs → Type 0
IsShort r old =
    (length old.files < length r.files.items)
    ⊎ (length old.segments < length (all_segments r.files.items))
    ⊎ (length old.xorbs < length r.xorbs.items)
    ⊎ (length old.chunks < length (all_chunks r.xorbs.items))

-- records are shown in four outputs, if each has room, else these stay; the counts are those of the
-- records. After an error the outputs stay, and the counts are 0
abbrev pub ShowsRecords : CoreResult Records → (old new : Outputs) → XetCounts → ℕ → Type 0
ShowsRecords (Ok r) old new counts answer =
    (counts ≡ c_counts r)
    × (((answer ≡ 0) × IsPut (map c_listed_file r.files.items) old.files new.files
    × IsPut (all_segments r.files.items) old.segments new.segments
    × IsPut (map c_listed_xorb r.xorbs.items) old.xorbs new.xorbs
    × IsPut (all_chunks r.xorbs.items) old.chunks new.chunks)
    ⊎ ((answer ≡ 19) × IsShort r old × (new ≡ old)))
ShowsRecords (Err e) old new counts answer =
    (answer ≡ variant_number e) × (counts ≡ no_counts) × (new ≡ old)
