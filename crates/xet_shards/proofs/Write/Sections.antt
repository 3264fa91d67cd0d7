-- Records that a section may hold, the section that their bytes are, and those of a shard.
use Rattle.std.proofs.Common.{◌≡◌, ℕ, Bool, false, List, [], ◌∷◌, ◌++◌, flat_map, refl}
use Rattle.std.specs.Prelude.{All}
use Rattle.std.specs.List.{list_any}
use Rattle.std.proofs.lemmas.Bool.{or_parts}
use Rattle.std.proofs.lemmas.List.Elements.{All-nil, All-cons}
use Rattle.std.specs.FinMap.{entries, values}
use Rattle.xet_records.specs.declared.record_reader.FormatVersion.{FormatVersion}
use Rattle.xet_records.specs.declared.record_reader.FormatVersion.TheVariants.{V2, V3}
use Rattle.xet_records.specs.RecordKind.{RecordKind, in_version}
use Rattle.xet_records.specs.declared.file_structs.MDBFileInfo.{MDBFileInfo}
use Rattle.xet_records.specs.FileRecord.{file_records, file_records_in, has_aux_ext}
use Rattle.xet_records.specs.XorbRecord.{xorb_records}
use Rattle.xet_records.proofs.RecordKinds.{KindLaws, file_laws, laws_in, stored_ever}
use Rattle.xet_shards.specs.Write.Section.{section_bytes}
use Rattle.xet_shards.specs.Content.Shard.{Shard, IsShard}
pub use Rattle.xet_shards.specs.Write.WithOptions.{FitsSection}
use Rattle.xet_shards.specs.Write.WrittenShard.{HasFilesIn}
use Rattle.xet_shards.specs.Read.SectionReading.{IsSection}
use Rattle.xet_shards.proofs.ShardInMemory.Files.{well_formed_values}
use Rattle.xet_shards.proofs.ShardInMemory.Xorbs.{xorb_values}

-- their bytes and a bookend are a section, whatever follows
pub section_there : {H R : Type 0} (K : RecordKind H R) → KindLaws K → (records : List R) → FitsSection K records → (bytes rest : List ℕ)
    → bytes ≡ flat_map K.record_bytes records ++ (K.header_bytes K.bookend ++ rest) → IsSection K bytes records
section_there K laws records fits bytes rest are = record {
  rest = K.header_bytes K.bookend ++ rest;
  records = record { are_stored = fits.stored; rows = fits.rows; bytes_are = are };
  bookend = record { header = K.bookend; rest = rest; widths = laws.bookend_fits; is_bookend = laws.bookend_hash; bytes_are = refl };
}

-- in each version
pub files_laws : (version : FormatVersion) → KindLaws (file_records_in version)
files_laws version = laws_in file_records file_laws version

pub fits_ever : {H R : Type 0} (K : RecordKind H R) (version : FormatVersion) (records : List R) → FitsSection (in_version K version) records → FitsSection K records
fits_ever K version records fits = record { stored = λ k r below. stored_ever K version _ (fits.stored k r below); rows = fits.rows }

pub section_bytes_in : {H R : Type 0} (K : RecordKind H R) (version : FormatVersion) (records : List R) → section_bytes (in_version K version) records ≡ section_bytes K records
unfolding section_bytes
section_bytes_in K version records = refl

-- no element passes a test that none of them is said to pass
none_passes : {X : Type 0} (test : X → Bool) (xs : List X) → list_any test xs ≡ false → All (λ x. test x ≡ false) xs
none_passes test [] none = All-nil (λ x. test x ≡ false)
none_passes test (x ∷ xs) none =
    let parts = or_parts (test x) (list_any test xs) none in
    All-cons (λ x. test x ≡ false) x xs parts.0 (none_passes test xs parts.1)

-- the records of a shard
pub files_fit : (s : Shard) → IsShard s → FitsSection file_records (values s.files)
files_fit s shard = record {
  stored = λ k r below. let here = well_formed_values (entries s.files) shard.files k r below in record { is_file = here.is_file; whole = here.whole; widths = here.widths };
  rows = shard.file_rows;
}

-- in a version that has them
pub files_fit_in : (version : FormatVersion) (s : Shard) → IsShard s → HasFilesIn version s → FitsSection (file_records_in version) (values s.files)
files_fit_in V2 s shard has =
    let fits = files_fit s shard in
    record { stored = λ k r below. (fits.stored k r below, none_passes (λ (r : MDBFileInfo). has_aux_ext r.metadata.file_flags) (values s.files) has k r below); rows = fits.rows }
files_fit_in V3 s shard has = files_fit s shard

pub xorbs_fit : (s : Shard) → IsShard s → FitsSection xorb_records (values s.xorbs)
xorbs_fit s shard = record {
  stored = λ k r below. let here = xorb_values (entries s.xorbs) shard.xorbs k r below in record { is_xorb = here.is_xorb; count = here.count; widths = here.widths };
  rows = shard.xorb_rows;
}
