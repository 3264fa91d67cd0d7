-- The results of union and difference are shards whose bytes lookups find their records in.
use Rattle.std.proofs.Common.{◌≡◌, inl, inr, ℕ, ◌≤◌, Bool, true, false, if◌then◌else◌, List, [], ◌∷◌, map, get_or, Option, None, Some, refl, sym, ap, ◌∙◌, subst, arith}
use Rattle.xet_shards.proofs.Write.Sections.{files_laws}
use Rattle.xet_shards.specs.Read.SectionReading.{files_of}
use Rattle.xet_records.specs.Version.{version_of}
use Rattle.xet_records.specs.declared.record_reader.FormatVersion.{FormatVersion}
use Rattle.std.specs.Prelude.{All}
use Rattle.std.specs.FinMap.{FinMap, entries, values, get, get-entries}
use Rattle.std.proofs.lemmas.List.{get_or-map, length-map}
use Rattle.std.proofs.lemmas.List.Elements.{All-map}
use Rattle.std.proofs.lemmas.Option.{same_Some, none-some}
use Rattle.xet_base.specs.declared.merklehash.DataHash.{DataHash}
use Rattle.xet_base.specs.Hash.{hash_cmp}
use Rattle.xet_base.proofs.HashOrder.{hash_cmp-IsTotalOrder, hash_cmp-IsAntisymmetric}
use Rattle.xet_records.specs.declared.file_structs.MDBFileInfo.{MDBFileInfo}
use Rattle.xet_records.specs.declared.xorb_structs.MDBXorbInfo.{MDBXorbInfo}
use Rattle.xet_records.specs.RecordKind.{RecordKind, KindLaws, in_version}
use Rattle.xet_records.proofs.RecordKinds.{xorb_laws, stored_ever}
use Rattle.xet_records.specs.declared.file_structs.part.OptionalPart.{OptionalPart}
use Rattle.xet_records.specs.declared.file_structs.rows.HashRow.{HashRow}
use Rattle.xet_records.specs.FileRow.{clear}
use Rattle.xet_records.specs.Part.{rows_of, with_parts}
use Rattle.xet_records.proofs.Parts.{rows_of-returned, with_parts-rows_of}
use Rattle.xet_records.proofs.Merging.{rows_of-joined_file}
use Rattle.xet_records.specs.FileRecord.{file_records, as_read}
use Rattle.xet_records.specs.XorbRecord.{xorb_records, IsXorb}
use Rattle.xet_records.specs.Merging.{has_part}
use Rattle.xet_shards.specs.declared.shard_format.ends.info.MDBShardInfo.{MDBShardInfo}
use Rattle.xet_shards.specs.Content.SetOperations.{IsDifference}
use Rattle.xet_shards.specs.Content.Shard.{Shard}
use Rattle.xet_shards.specs.Write.Section.{total_rows}
use Rattle.xet_shards.specs.Write.Tables.{hash_in}
use Rattle.xet_shards.proofs.ShardInMemory.FileUnions.{entry-holds}
use Rattle.xet_shards.proofs.ShardInMemory.Sums.{all_of_map}
use Rattle.xet_core_structures.specs.TwoShards.ByteResults.{HaveResult}
use Rattle.xet_core_structures.specs.Records.ByteUnion.{mixed_file, IsUnitedFile, IsEitherFile, IsEitherXorb, IsByteUnion}
use Rattle.xet_core_structures.specs.Steps.RecordPairsSteps.{IsRest}
use Rattle.xet_core_structures.specs.Records.ShardContents.{IsSectionOf}
use Rattle.xet_core_structures.specs.TwoShards.Readable.{AreReadable}
use Rattle.xet_core_structures.proofs.Records.RecordsAsRead.{all_handed}
use Rattle.xet_core_structures.proofs.TwoShards.Mixing.{mixed_stored, rows_of-mixed_file}

-- reading returns again what it returned
cleared_twice : (rows : List HashRow) → map clear (map clear rows) ≡ map clear rows
cleared_twice [] = refl
cleared_twice (row ∷ rows) = ap (λ xs. clear row ∷ xs) (cleared_twice rows)

pub handed_twice : (r : MDBFileInfo) → as_read (as_read r) ≡ as_read r
handed_twice r = λ i. with_parts r.metadata r.segments (λ part. (ap (map clear) (rows_of-returned r part) ∙ cleared_twice (rows_of part r)) i)

-- a record is returned as it is if its rows are
rows_unchanged : (r : MDBFileInfo) → as_read r ≡ r → (part : OptionalPart) → map clear (rows_of part r) ≡ rows_of part r
rows_unchanged r same part = sym (rows_of-returned r part) ∙ ap (rows_of part) same

unchanged_if : (r : MDBFileInfo) → ((part : OptionalPart) → map clear (rows_of part r) ≡ rows_of part r) → as_read r ≡ r
unchanged_if r each = (λ i. with_parts r.metadata r.segments (λ part. each part i)) ∙ with_parts-rows_of r

module _ {H R : Type 0} (K : RecordKind H R) where
  -- a record under its hash that may be stored, and that reading returns as it is
  pub record IsReadableAs (q : DataHash) (r : R) : Type 0 where
    pub keyed : q ≡ hash_in K r
    pub stored : K.IsStored r
    pub unchanged : K.as_read r ≡ r

  All-unmap : (P : R → Type 0) (es : List (DataHash × R)) → All P (map (λ e. e.1) es) → All (λ e. P e.1) es
  All-unmap P es all = λ k e below.
      subst P (get_or-map (λ (d : DataHash × R). d.1) es k e e.1 below) (all k e.1 (omega (arith, below, length-map es (λ (d : DataHash × R). d.1))))

  each_value : (P : R → Type 0) (m : FinMap hash_cmp R) → All P (values m) → (q : DataHash) (r : R) → get m q ≡ Some r → P r
  each_value P m all q r at = entry-holds (λ e. P e.1) (entries m) q r (All-unmap P (entries m) all) (sym (get-entries m q) ∙ at)

  all_values : (P : R → Type 0) (m : FinMap hash_cmp R) → ((q : DataHash) (r : R) → get m q ≡ Some r → P r) → All P (values m)
  all_values P m each = All-map P (λ e. e.1) (entries m) (all_of_map hash_cmp-IsTotalOrder hash_cmp-IsAntisymmetric (λ e. P e.1) m each)

  -- the records of a section are such
  module _ (laws : KindLaws K) (twice : (r : R) → K.as_read (K.as_read r) ≡ K.as_read r)
      (bytes : List ℕ) (m : FinMap hash_cmp R) (is : IsSectionOf K bytes m) where
    pub section_readable : (q : DataHash) (r : R) → get m q ≡ Some r → IsReadableAs q r
    section_readable q r at =
        let all_stored = all_handed K laws is.stored (values m) is.section.records.are_stored is.returned in
        let all_unchanged = subst (All (λ s. K.as_read s ≡ s)) is.returned (All-map (λ s. K.as_read s ≡ s) K.as_read is.stored (λ k s below. twice (get_or is.stored k s))) in
        record {
          keyed = entry-holds (λ e. e.0 ≡ hash_in K e.1) (entries m) q r is.keyed (sym (get-entries m q) ∙ at);
          stored = each_value K.IsStored m all_stored q r at;
          unchanged = each_value (λ s. K.as_read s ≡ s) m all_unchanged q r at;
        }

  pub readable_if_each : (m : FinMap hash_cmp R) → ((q : DataHash) (r : R) → get m q ≡ Some r → IsReadableAs q r) → total_rows K (values m) ≤ 4294967295 → AreReadable K m
  readable_if_each m each rows = record {
    keyed = all_of_map hash_cmp-IsTotalOrder hash_cmp-IsAntisymmetric (λ e. e.0 ≡ hash_in K e.1) m (λ q r at. (each q r at).keyed);
    fits = record {
      stored = all_values K.IsStored m (λ q r at. (each q r at).stored);
      rows = rows;
    };
    unchanged = all_values (λ r. K.as_read r ≡ r) m (λ q r at. (each q r at).unchanged);
  }

  -- what is made of such records, where there are any
  abbrev pub Keeps : (Option R → Option R → Option R → Type 0) → Type 0
  Keeps IsEither = (q : DataHash) (o p c : Option R) (t : R) → ((r : R) → o ≡ Some r → IsReadableAs q r) → ((r : R) → p ≡ Some r → IsReadableAs q r) → IsEither o p c → c ≡ Some t
      → IsReadableAs q t

  rest_readable : Keeps IsRest
  rest_readable q None p c t first second is at = second t (sym is ∙ at)
  rest_readable q (Some a) p c t first second is at = absurd (none-some t (sym is ∙ at))

xorb_readable : Keeps xorb_records IsEitherXorb
xorb_readable q None p c t first second is at = second t (sym is ∙ at)
xorb_readable q (Some a) p c t first second is at = first t (sym is ∙ at)

-- a record of a version is one of the kind
pub readable_ever : {H R : Type 0} (K : RecordKind H R) (version : FormatVersion) (q : DataHash) (r : R) → IsReadableAs (in_version K version) q r → IsReadableAs K q r
readable_ever K version q r is = record { keyed = is.keyed; stored = stored_ever K version r is.stored; unchanged = is.unchanged }

-- a mix of two files has rows of either
pub mixed_readable : (q : DataHash) (a b : MDBFileInfo) → IsReadableAs file_records q a → IsReadableAs file_records q b → a.metadata.num_entries ≡ b.metadata.num_entries → IsReadableAs file_records q (mixed_file a b)
mixed_readable q a b one other counts =
    record {
      keyed = one.keyed;
      stored = mixed_stored a b one.stored other.stored (sym one.keyed ∙ other.keyed) counts;
      unchanged = unchanged_if (mixed_file a b) (λ part. subst (λ rows. map clear rows ≡ rows) (sym (rows_of-mixed_file a b part ∙ rows_of-joined_file a b part))
          (either_part (has_part a part) (rows_of part a) (rows_of part b) (rows_unchanged a one.unchanged part) (rows_unchanged b other.unchanged part)));
    } where
      either_part : (v : Bool) (xs ys : List HashRow) → map clear xs ≡ xs → map clear ys ≡ ys → map clear (if v then xs else ys) ≡ (if v then xs else ys)
      either_part true xs ys first second = first
      either_part false xs ys first second = second

united_readable : (q : DataHash) (a b t : MDBFileInfo) → IsReadableAs file_records q a → IsReadableAs file_records q b → IsUnitedFile a b t → IsReadableAs file_records q t
united_readable q a b t one other (inl (all, is)) = subst (IsReadableAs file_records q) (sym is) one
united_readable q a b t one other (inr (inl (lacks, all, is))) = subst (IsReadableAs file_records q) (sym is) other
united_readable q a b t one other (inr (inr (lacks, wants, counts, is))) = subst (IsReadableAs file_records q) (sym is) (mixed_readable q a b one other counts)

file_readable : Keeps file_records IsEitherFile
file_readable q None p c t first second is at = second t (sym is ∙ at)
file_readable q (Some a) None c t first second is at = first t (sym is ∙ at)
file_readable q (Some a) (Some b) c t first second (r, is, united) at =
    united_readable q a b t (first a refl) (second b refl) (subst (IsUnitedFile a b) (same_Some r t (sym is ∙ at)) united)

-- so are the records of a union, and of a difference
pub record IsReadable (s : Shard) : Type 0 where
  pub files : AreReadable file_records s.files
  pub xorbs : AreReadable xorb_records s.xorbs

module _ (x : List ℕ) (i : MDBShardInfo) (y : List ℕ) (j : MDBShardInfo) (c : Shard) where
  made_readable : (IsFile : Option MDBFileInfo → Option MDBFileInfo → Option MDBFileInfo → Type 0) (IsXorb : Option MDBXorbInfo → Option MDBXorbInfo → Option MDBXorbInfo → Type 0)
      (IsResult : Shard → Shard → Shard → Type 0) (have : HaveResult IsResult x i y j c) → Keeps file_records IsFile → Keeps xorb_records IsXorb
      → ((q : DataHash) → IsFile (get have.first.files q) (get have.second.files q) (get c.files q)) → ((q : DataHash) → IsXorb (get have.first.xorbs q) (get have.second.xorbs q) (get c.xorbs q))
      → IsReadable c
  made_readable IsFile IsXorb IsResult have keeps_files keeps_xorbs files xorbs = record {
    files = readable_if_each file_records c.files (λ q r at. keeps_files q _ _ _ r
        (λ r at. readable_ever file_records (version_of i.header.version) q r (section_readable (files_of i) (files_laws (version_of i.header.version)) handed_twice _ have.first.files have.holds_first.files q r at))
        (λ r at. readable_ever file_records (version_of j.header.version) q r (section_readable (files_of j) (files_laws (version_of j.header.version)) handed_twice _ have.second.files have.holds_second.files q r at)) (files q) at) have.rows.files;
    xorbs = readable_if_each xorb_records c.xorbs (λ q r at. keeps_xorbs q _ _ _ r
        (section_readable xorb_records xorb_laws (λ r. refl) _ have.first.xorbs have.holds_first.xorbs q)
        (section_readable xorb_records xorb_laws (λ r. refl) _ have.second.xorbs have.holds_second.xorbs q) (xorbs q) at) have.rows.xorbs;
  }

  pub union_readable : HaveResult IsByteUnion x i y j c → IsReadable c
  union_readable have = made_readable IsEitherFile IsEitherXorb IsByteUnion have file_readable xorb_readable have.result.files have.result.xorbs

  pub difference_readable : HaveResult IsDifference x i y j c → IsReadable c
  difference_readable have = made_readable IsRest IsRest IsDifference have (rest_readable file_records) (rest_readable xorb_records) have.result.files have.result.xorbs

  -- if all xorbs of the inputs are well-formed, those of the result are
  pub united_xorbs : (have : HaveResult IsByteUnion x i y j c) → All IsXorb (values have.first.xorbs) → All IsXorb (values have.second.xorbs) → All IsXorb (values c.xorbs)
  united_xorbs have first second = all_values xorb_records IsXorb c.xorbs (λ q t at. either (get have.first.xorbs q) (get have.second.xorbs q) (get c.xorbs q) t
      (each_value xorb_records IsXorb have.first.xorbs first q) (each_value xorb_records IsXorb have.second.xorbs second q) (have.result.xorbs q) at) where
        either : (o p r : Option MDBXorbInfo) (t : MDBXorbInfo) → ((s : MDBXorbInfo) → o ≡ Some s → IsXorb s) → ((s : MDBXorbInfo) → p ≡ Some s → IsXorb s) → IsEitherXorb o p r → r ≡ Some t → IsXorb t
        either None p r t first second is at = second t (sym is ∙ at)
        either (Some s) p r t first second is at = first t (sym is ∙ at)

  pub left_xorbs : (have : HaveResult IsDifference x i y j c) → All IsXorb (values have.second.xorbs) → All IsXorb (values c.xorbs)
  left_xorbs have second = all_values xorb_records IsXorb c.xorbs (λ q t at. rest (get have.first.xorbs q) (get have.second.xorbs q) (get c.xorbs q) t
      (each_value xorb_records IsXorb have.second.xorbs second q) (have.result.xorbs q) at) where
        rest : (o p r : Option MDBXorbInfo) (t : MDBXorbInfo) → ((s : MDBXorbInfo) → p ≡ Some s → IsXorb s) → IsRest o p r → r ≡ Some t → IsXorb t
        rest None p r t second is at = second t (sym is ∙ at)
        rest (Some s) p r t second is at = absurd (none-some t (sym is ∙ at))
