-- The shard that is written from lists of records, and the records that are read of a shard.
use Rattle.std.specs.Prelude.{◌≡◌, ◌⊎◌, ⊤, ℕ, List, [], ◌∷◌, map, drop, MatchResult}
use Rattle.xet_core_structures.specs.declared.error.CoreError.{CoreError}
use Rattle.xet_core_structures.specs.declared.error.CoreError.TheVariants.{InvalidArguments, OutOfMemory}
use Rattle.xet_core_structures.specs.declared.file_structs.MDBFileInfo.{MDBFileInfo}
use Rattle.xet_core_structures.specs.declared.xorb_structs.MDBXorbInfo.{MDBXorbInfo}
use Rattle.xet_core_structures.specs.declared.shard_format.MDBShardInfo.{MDBShardInfo}
use Rattle.xet_core_structures.specs.Ends.{HasHeaderAndFooter}
use Rattle.xet_core_structures.specs.Errors.{CoreResult}
use Rattle.xet_core_structures.specs.FileRecord.{as_read}
use Rattle.xet_core_structures.specs.KeyedExport.{BadSection}
use Rattle.xet_core_structures.specs.SectionReading.{IsSection, files_of}
use Rattle.xet_core_structures.specs.Shard.{Shard, empty_shard, add_file, add_xorb, CanAddFile, CanAddXorb}
use Rattle.xet_core_structures.specs.TwoShards.ByteResults.{LoadRefusal}
use Rattle.xet_core_structures.specs.XorbRecord.{xorb_records}
use Rattle.shard_bytes.specs.declared.records.Records.{Records}

-- a shard into which files are inserted one after another; of two with one hash the later counts
abbrev pub with_files : Shard → List MDBFileInfo → Shard
with_files s [] = s
with_files s (r ∷ rs) = with_files (add_file s r) rs

-- a shard into which xorbs are inserted one after another; of two with one hash the later counts
abbrev pub with_xorbs : Shard → List MDBXorbInfo → Shard
with_xorbs s [] = s
with_xorbs s (r ∷ rs) = with_xorbs (add_xorb s r) rs

-- the shard that has these records, of two with one hash the later
abbrev pub shard_of : List MDBFileInfo → List MDBXorbInfo → Shard
shard_of files xorbs = with_xorbs (with_files empty_shard files) xorbs

-- files that can be inserted one after another: each is well-formed, and the rows fit `u32` after
-- each
abbrev pub CanAddFiles : Shard → List MDBFileInfo → Type 0
CanAddFiles s [] = ⊤
CanAddFiles s (r ∷ rs) = CanAddFile s r × CanAddFiles (add_file s r) rs

-- xorbs that can be inserted one after another: each is one that a shard may have, and the rows fit
-- `u32` after each
abbrev pub CanAddXorbs : Shard → List MDBXorbInfo → Type 0
CanAddXorbs s [] = ⊤
CanAddXorbs s (r ∷ rs) = CanAddXorb s r × CanAddXorbs (add_xorb s r) rs

-- files, and then xorbs, that can be inserted one after another into the empty shard
abbrev pub CanAddRecords : List MDBFileInfo → List MDBXorbInfo → Type 0
CanAddRecords files xorbs =
    CanAddFiles empty_shard files × CanAddXorbs (with_files empty_shard files) xorbs

-- the result of a call that inserts records one after another: a value only if they can be
-- inserted, `InvalidArguments` only if not, or `OutOfMemory`, if an allocation fails before that is
-- known
abbrev pub AdmitsAll : {T : Type 0} → Type 0 → CoreResult T → Type 0
AdmitsAll Can result =
    MatchResult result (λ _. Can) (λ e. ((e ≡ InvalidArguments) × (¬ Can)) ⊎ (e ≡ OutOfMemory))

-- the bytes have a header and a footer, and these are the records of the sections to which the
-- footer leads, files as reading returns them
pub record HasRecords (bytes : List ℕ) (found : Records) : Type 0 where
  pub info : MDBShardInfo
  pub ends : HasHeaderAndFooter bytes info
  pub stored : List MDBFileInfo
  pub file_section : IsSection (files_of info) (drop info.metadata.file_info_offset bytes) stored
  pub files : map as_read stored ≡ found.files.items
  pub xorb_section : IsSection xorb_records (drop info.metadata.xorb_info_offset bytes)
      found.xorbs.items

-- why the records are not read: header and footer are not read, or a section is not
abbrev pub RefusesRecords : List ℕ → CoreError → Type 0
RefusesRecords bytes e =
    LoadRefusal bytes e
    ⊎ ((info : MDBShardInfo) × HasHeaderAndFooter bytes info
    × (BadSection (files_of info) (drop info.metadata.file_info_offset bytes) e
    ⊎ BadSection xorb_records (drop info.metadata.xorb_info_offset bytes) e))
