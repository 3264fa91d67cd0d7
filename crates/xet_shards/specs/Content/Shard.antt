-- A shard: two finite maps, from file hash to file record and from xorb hash to xorb record.
use Rattle.std.specs.Prelude.{◌≡◌, ◌≤◌, Bool, List, All, refl}
use Rattle.std.specs.List.{list_any}
use Rattle.std.specs.FinMap.{FinMap, empty, insert, entries, values}
use Rattle.std.specs.FinMap as finite
use Rattle.std.specs.Coded.{Coded, code_by, coded×}
use Rattle.xet_base.specs.declared.merklehash.DataHash.{DataHash}
use Rattle.xet_base.specs.contracts.merklehash.DataHash as hash
use Rattle.xet_base.specs.Hash.{hash_cmp}
use Rattle.xet_records.specs.declared.file_structs.MDBFileInfo.{MDBFileInfo}
use Rattle.xet_records.specs.contracts.file_structs.MDBFileInfo as file
use Rattle.xet_records.specs.declared.xorb_structs.MDBXorbInfo.{MDBXorbInfo}
use Rattle.xet_records.specs.contracts.xorb_structs.MDBXorbInfo as xorb
use Rattle.xet_records.specs.FileRecord.{file_records, IsWellFormed, has_aux_ext}
use Rattle.xet_records.specs.XorbRecord.{xorb_records, IsXorb}
use Rattle.xet_shards.specs.Write.Section.{total_rows}
use Rattle.xet_records.specs.Limits.{MAX_ROWS}

-- a finite map from file hashes to file records
abbrev pub FileMap : Type 0
FileMap = FinMap hash_cmp MDBFileInfo

-- a finite map from xorb hashes to xorb records
abbrev pub XorbMap : Type 0
XorbMap = FinMap hash_cmp MDBXorbInfo

-- the files and the xorbs of a shard
pub record Shard : Type 0 where
  pub files : FileMap
  pub xorbs : XorbMap

-- the encoding by which proofs distinguish maps of files
abbrev pub coded_files : Coded FileMap
coded_files = finite.code hash.the_row.coded file.the_row.coded

-- the encoding by which proofs distinguish maps of xorbs
abbrev pub coded_xorbs : Coded XorbMap
coded_xorbs = finite.code hash.the_row.coded xorb.the_row.coded

-- the encoding by which proofs distinguish shards
abbrev pub coded_shard : Coded Shard
coded_shard =
    code_by (FileMap × XorbMap) (coded× coded_files coded_xorbs) (λ s. (s.files, s.xorbs))
    (λ p. record { files = p.0; xorbs = p.1 }) (λ _. refl)

-- the hash of a file record
abbrev pub file_hash_of : MDBFileInfo → DataHash
file_hash_of r = r.metadata.file_hash

-- the hash of a xorb record
abbrev pub xorb_hash_of : MDBXorbInfo → DataHash
xorb_hash_of r = r.metadata.xorb_hash

-- each key is the hash of its file record, and each file record is well-formed
pub record AreFiles (es : List (DataHash × MDBFileInfo)) : Type 0 where
  pub keyed : All (λ e. e.0 ≡ file_hash_of e.1) es
  pub well_formed : All (λ e. IsWellFormed e.1) es

-- each key is the hash of its xorb record, and each xorb record may be put into a shard
pub record AreXorbs (es : List (DataHash × MDBXorbInfo)) : Type 0 where
  pub keyed : All (λ e. e.0 ≡ xorb_hash_of e.1) es
  pub well_formed : All (λ e. IsXorb e.1) es

-- maps whose keys are the hashes of their well-formed records, the rows of each of which fit `u32`
pub record IsShard (s : Shard) : Type 0 where
  pub files : AreFiles (entries s.files)
  pub file_rows : total_rows file_records (values s.files) ≤ MAX_ROWS
  pub xorbs : AreXorbs (entries s.xorbs)
  pub xorb_rows : total_rows xorb_records (values s.xorbs) ≤ MAX_ROWS

-- the shard without files and xorbs
abbrev pub empty_shard : Shard
empty_shard = record { files = empty; xorbs = empty }

-- a shard with a file record inserted or replaced
abbrev pub add_file : Shard → MDBFileInfo → Shard
add_file s r = record s { files = insert s.files (file_hash_of r) r }

-- a shard with a xorb record inserted or replaced
abbrev pub add_xorb : Shard → MDBXorbInfo → Shard
add_xorb s r = record s { xorbs = insert s.xorbs (xorb_hash_of r) r }

-- a file record that can be inserted: it is well-formed, and then the rows of all files fit `u32`
pub record CanAddFile (s : Shard) (r : MDBFileInfo) : Type 0 where
  pub well_formed : IsWellFormed r
  pub rows : total_rows file_records (values (add_file s r).files) ≤ MAX_ROWS

-- a xorb record that can be inserted: it may be put into a shard, and then the rows of all xorbs
-- fit `u32`
pub record CanAddXorb (s : Shard) (r : MDBXorbInfo) : Type 0 where
  pub well_formed : IsXorb r
  pub rows : total_rows xorb_records (values (add_xorb s r).xorbs) ≤ MAX_ROWS

-- a file of the shard has an auxiliary row, which version 2 does not have
abbrev pub has_aux_rows : Shard → Bool
has_aux_rows s = list_any (λ r. has_aux_ext r.metadata.file_flags) (values s.files)
