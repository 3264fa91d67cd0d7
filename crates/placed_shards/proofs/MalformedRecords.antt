-- Records that no shard may have.
use Rattle.std.proofs.Common.{◌≡◌, ℕ, ◌≤◌, List, [], ◌∷◌, drop, true, Some, None, refl, sym, ap, ◌∙◌, subst, arith}
use Rattle.std.specs.Prelude.{◌↔◌, All, Contains, slice_get, sum_by}
use Rattle.std.proofs.lemmas.List.{drop_at}
use Rattle.std.proofs.lemmas.List.Elements.{All-map}
use Rattle.std.proofs.lemmas.List.Sums.{get_or-le-sum_by}
use Rattle.xet_base.specs.declared.merklehash.DataHash.{DataHash}
use Rattle.xet_records.specs.declared.file_structs.MDBFileInfo.{MDBFileInfo}
use Rattle.xet_records.specs.declared.file_structs.part.OptionalPart.{OptionalPart}
use Rattle.xet_records.specs.declared.file_structs.rows.HashRow.{HashRow}
use Rattle.xet_records.specs.declared.xorb_structs.MDBXorbInfo.{MDBXorbInfo}
use Rattle.xet_records.specs.FileRecord.{file_records, row_count, IsPlainHeader, IsStored, IsWellFormed, as_read}
use Rattle.xet_records.specs.FileRow.{clear}
use Rattle.xet_records.specs.Limits.{MAX_ROWS}
use Rattle.xet_records.specs.Part.{rows_of, optional_rows}
use Rattle.xet_records.specs.RecordKind.{RecordKind, KindLaws}
use Rattle.xet_records.specs.XorbRecord.{xorb_records, xorb_row_count, size_of_chunks, IsStoredXorb, IsXorb}
use Rattle.xet_records.proofs.Parts.{rows_of-returned}
use Rattle.xet_records.proofs.RecordKinds.{file_laws}
use Rattle.xet_shards.specs.Steps.FileStore.{AreClear}
use Rattle.xet_shards.specs.Write.WithOptions.{Ascends}
use Rattle.xet_shards.proofs.Write.StoredParts.{clear_parts}
use Rattle.xet_shards.proofs.Content.MappedShards.{mapped_member}
use Rattle.xet_core_structures.specs.Records.RecordPairs.{key_of_record, with_hash}
use Rattle.xet_core_structures.proofs.Records.ListMaps.{with_hash_of}
use Rattle.placed_shards.specs.declared.findings.RecordHash.TheVariants.{File, Xorb}
use Rattle.placed_shards.specs.declared.placed_shard.PlacedShard.{PlacedShard}
use Rattle.placed_shards.specs.Content.{content, AscendBoth}
use Rattle.placed_shards.specs.Findings.{HasFormedRecords, HasMalformed}
use Rattle.placed_shards.specs.Steps.Malformed.{FindsMalformed}
use Rattle.placed_shards.proofs.Contents.{files_read, xorbs_read}
use Rattle.placed_shards.proofs.Items.{has_at}

-- a file that was read has no reserved words in the rows of its parts
pub file_clear : (r : MDBFileInfo) → AreClear (optional_rows (as_read r))
file_clear r = (clear_parts (as_read r) true ((λ so. each), (λ all. refl))).0 refl where
  each : (part : OptionalPart) → AreClear (rows_of part (as_read r))
  each part = subst AreClear (sym (rows_of-returned r part)) (All-map (λ (row : HashRow). row._unused ≡ 0 ∷ 0 ∷ []) clear (rows_of part r) (λ k row below. refl))

-- a file that was read is one that a shard may have if its header is plain
pub file_formed : (r : MDBFileInfo) → IsStored r → row_count r ≤ MAX_ROWS → IsPlainHeader r.metadata ↔ IsWellFormed (as_read r)
file_formed r is few = (to, λ formed. (formed.known_flags, formed.reserved)) where
  stored : IsStored (as_read r)
  stored = file_laws.as_read_stored r is

  to : IsPlainHeader r.metadata → IsWellFormed (as_read r)
  to plain = record {
    is_file = stored.is_file;
    known_flags = plain.0;
    reserved = plain.1;
    whole = stored.whole;
    clear = file_clear r;
    rows = omega (arith, few, file_laws.same_rows r);
    widths = stored.widths;
  }

-- a xorb is one that a shard may have if its chunks have few bytes
pub xorb_formed : (r : MDBXorbInfo) → IsStoredXorb r → xorb_row_count r ≤ MAX_ROWS → (size_of_chunks r ≤ 4294967295) ↔ IsXorb r
xorb_formed r is few = (
  λ fits. record {
    is_xorb = is.is_xorb;
    count = is.count;
    rows = few;
    bytes = fits;
    widths = is.widths;
  },
  λ formed. formed.bytes,
)

-- the bytes of a record behind its header are those of its rows
pub bytes_behind : {H R : Type 0} (K : RecordKind H R) → KindLaws K → (r : R) (bytes : List ℕ) → bytes ≡ K.record_bytes r → drop 48 bytes ≡ K.bytes_after r
bytes_behind K laws r bytes are =
    ap (drop 48) (are ∙ laws.record_bytes_are r)
    ∙ drop_at (K.header_bytes (K.header_of r)) (K.bytes_after r) 48 (laws.header_size (K.header_of r))

module _ {H R : Type 0} (K : RecordKind H R) (IsFormed : R → Type 0) (rs : List R) where
  -- a record has no more rows than all together
  pub few_rows : (i : ℕ) (r : R) → slice_get rs i ≡ Some r → sum_by K.row_count rs ≤ MAX_ROWS → K.row_count r ≤ MAX_ROWS
  few_rows i r at few = let has = has_at rs i r at in omega (arith, few, get_or-le-sum_by K.row_count rs has.0 r has.1, ap K.row_count has.2)

  pub malformed_found : (i : ℕ) (r : R) (q : DataHash) → slice_get rs i ≡ Some r → q ≡ key_of_record K (K.as_read r) → ¬ IsFormed (K.as_read r) → FindsMalformed K IsFormed rs (Some q)
  malformed_found i r q at hash bad = (K.as_read r, mapped_member K.as_read rs r (has_at rs i r at), sym hash, bad)

  pub all_formed : All (λ r. IsFormed (K.as_read r)) rs → FindsMalformed K IsFormed rs None
  all_formed all = All-map IsFormed K.as_read rs all

-- what was found in both lists is so of the shard
module _ (s : PlacedShard) (is_read : s.as_read ≡ true) (ascend : AscendBoth (content s)) where
  under_hash : {H R : Type 0} (K : RecordKind H R) (rs : List R) → Ascends K rs → (q : DataHash) (r : R) → Contains rs r → key_of_record K r ≡ q → with_hash K rs q ≡ Some r
  under_hash K rs ascends q r has hash = subst (λ h. with_hash K rs h ≡ Some r) hash (with_hash_of K rs r ascends has)

  pub malformed_file : (q : DataHash) → FindsMalformed file_records IsWellFormed s.files.items (Some q) → HasMalformed (content s) (File q)
  malformed_file q bad =
      (bad.0, under_hash file_records (content s).files ascend.files q bad.0 (subst (λ l. Contains l bad.0) (files_read s is_read) bad.1) bad.2, bad.3)

  pub malformed_xorb : (q : DataHash) → FindsMalformed xorb_records IsXorb s.xorbs.items (Some q) → HasMalformed (content s) (Xorb q)
  malformed_xorb q bad =
      (bad.0, under_hash xorb_records (content s).xorbs ascend.xorbs q bad.0 (subst (λ l. Contains l bad.0) (xorbs_read s) bad.1) bad.2, bad.3)

  pub both_formed : FindsMalformed file_records IsWellFormed s.files.items None → FindsMalformed xorb_records IsXorb s.xorbs.items None → HasFormedRecords (content s)
  both_formed files xorbs = record { files = subst (All IsWellFormed) (files_read s is_read) files; xorbs = subst (All IsXorb) (xorbs_read s) xorbs }
