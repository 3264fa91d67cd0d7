-- A shard in memory, opened by its footer.
use Rattle.std.proofs.Common.{◌≡◌, ℕ, List, inl, inr, refl, sym, ap, ◌∙◌, subst, arith}
use Rattle.std.specs.Prelude.{map}
use Rattle.std.specs.FinMap.{values}
use Rattle.std.specs.List.Sorted.{IsStrictlySortedBy}
use Rattle.std.proofs.lemmas.List.{map-id}
use Rattle.xet_base.specs.declared.error.CoreError.{CoreError}
use Rattle.xet_base.specs.declared.error.CoreError.TheVariants.{OutOfMemory}
use Rattle.xet_base.specs.Hash.{hash_cmp}
use Rattle.xet_records.specs.declared.file_structs.MDBFileInfo.{MDBFileInfo}
use Rattle.xet_records.specs.declared.xorb_structs.MDBXorbInfo.{MDBXorbInfo}
use Rattle.xet_records.specs.declared.record_reader.FormatVersion.{FormatVersion}
use Rattle.xet_records.specs.declared.record_reader.FormatVersion.TheVariants.{V3}
use Rattle.xet_records.specs.FileRecord.{as_read, file_records}
use Rattle.xet_records.specs.RecordKind.{RecordKind, KindLaws, in_version}
use Rattle.xet_records.specs.Version.{version_of}
use Rattle.xet_records.specs.XorbRecord.{xorb_records}
use Rattle.xet_records.proofs.RecordKinds.{file_laws, laws_in, xorb_laws}
use Rattle.xet_shards.specs.declared.shard_format.ends.info.MDBShardInfo.{MDBShardInfo}
use Rattle.xet_shards.specs.declared.shard_format.ends.options.LayoutOptions.{LayoutOptions}
use Rattle.xet_shards.specs.Content.Shard.{Shard}
use Rattle.xet_shards.specs.Ends.Ends.{HasHeaderAndFooter}
use Rattle.xet_shards.specs.Read.SectionsBehindHeader.{options_of}
use Rattle.xet_shards.specs.Read.SectionReading.{files_of, IsSection}
use Rattle.xet_shards.specs.Write.WithOptions.{Ascends}
use Rattle.xet_shards.proofs.Ends.EndsUnique.{not_too_short, not_unsupported, only_info}
use Rattle.xet_core_structures.specs.Records.ShardContents.{HasShard, IsMalformed, IsTruncated, files_at, xorbs_at}
use Rattle.xet_core_structures.specs.Steps.MergeJoin.{SectionRefusal}
use Rattle.xet_core_structures.specs.Steps.ShardContentsSteps.{IsListOf}
use Rattle.xet_core_structures.proofs.Records.RecordsAsRead.{all_handed}
use Rattle.xet_core_structures.proofs.Records.ListMaps.{lists_hold, shard_of, values-list_map}
use Rattle.xet_core_structures.proofs.Records.ShardContents.{hashes_handed, held_well, held_whole, only_shard, rows_handed}
use Rattle.placed_shards.specs.Content.{Content, AscendBoth}
use Rattle.placed_shards.specs.Opening.{Opens, SectionsRefusal, ShardRefusal}

-- a section whose hashes ascend is a list of records, as reading returns them
pub list_opened : {H R : Type 0} (K : RecordKind H R) → KindLaws K → (bytes : List ℕ) (stored : List R) → IsSection K bytes stored → Ascends K stored → IsListOf K bytes (map K.as_read stored)
list_opened K laws bytes stored section ascends = record {
  stored = stored;
  section = section;
  returned = refl;
  writable = record {
    stored = all_handed K laws stored (map K.as_read stored) section.records.are_stored refl;
    ascends = subst (IsStrictlySortedBy hash_cmp) (sym (hashes_handed K laws stored)) ascends;
    rows = omega (arith, section.records.rows, rows_handed K laws stored);
  };
}

module _ (bytes : List ℕ) (info : MDBShardInfo) (version : FormatVersion) (from : List ℕ) (version_is : version ≡ version_of info.header.version) (from_is : from ≡ files_at bytes info) where
  -- the files are not read
  pub files_refused : (e : CoreError) → SectionRefusal file_records version from e → SectionsRefusal bytes info e
  files_refused e refusal = at (subst (λ v. SectionRefusal file_records v (files_at bytes info) e) version_is (subst (λ b. SectionRefusal file_records version b e) from_is refusal)) where
    at : SectionRefusal file_records (version_of info.header.version) (files_at bytes info) e → SectionsRefusal bytes info e
    at (inl is) = inl is
    at (inr (inl (is, cut))) = inr (inl (is, inl cut))
    at (inr (inr (is, malformed))) = inr (inr (is, inl malformed))

  module _ (files : List MDBFileInfo) (section : IsSection (in_version file_records version) from files) (ascends : Ascends file_records files) where
    files_are : IsSection (files_of info) (files_at bytes info) files
    files_are = subst (λ v. IsSection (in_version file_records v) (files_at bytes info) files) version_is (subst (λ b. IsSection (in_version file_records version) b files) from_is section)

    -- they are, and the xorbs are not
    pub xorbs_refused : (from_2 : List ℕ) (e : CoreError) → from_2 ≡ xorbs_at bytes info → SectionRefusal xorb_records V3 from_2 e → SectionsRefusal bytes info e
    xorbs_refused from_2 e is refusal = at (subst (λ b. SectionRefusal xorb_records V3 b e) is refusal) where
      at : SectionRefusal xorb_records V3 (xorbs_at bytes info) e → SectionsRefusal bytes info e
      at (inl is) = inl is
      at (inr (inl (is, cut))) = inr (inl (is, inr ((files, files_are, ascends), cut)))
      at (inr (inr (is, malformed))) = inr (inr (is, inr ((files, files_are, ascends), malformed)))

    -- both are
    pub shard_opened : (from_2 : List ℕ) (xorbs : List MDBXorbInfo) → from_2 ≡ xorbs_at bytes info → IsSection (in_version xorb_records V3) from_2 xorbs → Ascends xorb_records xorbs → HasHeaderAndFooter bytes info
        → (options : LayoutOptions) → options ≡ options_of info → Opens bytes (record { files = map as_read files; xorbs = xorbs; options = options })
    shard_opened from_2 xorbs is others others_ascend ends options options_are = record {
      info = info;
      ends = ends;
      lists = record {
        files = list_opened (files_of info) (laws_in file_records file_laws (version_of info.header.version)) (files_at bytes info) files files_are ascends;
        xorbs = subst (IsListOf xorb_records (xorbs_at bytes info)) (map-id xorbs)
            (list_opened xorb_records xorb_laws (xorbs_at bytes info) xorbs (subst (λ b. IsSection xorb_records b xorbs) is others) others_ascend);
      };
      options_are = options_are;
    }

-- hashes ascend in what was opened
pub opened_ascend : (bytes : List ℕ) (c : Content) → Opens bytes c → AscendBoth c
opened_ascend bytes c opens = record { files = opens.lists.files.writable.ascends; xorbs = opens.lists.xorbs.writable.ascends }

-- bytes hold the shard that is opened
abbrev pub opened_shard : (bytes : List ℕ) (c : Content) → Opens bytes c → HasShard (shard_of (record { files = c.files; xorbs = c.xorbs })) bytes
opened_shard bytes c opens = record { info = opens.info; ends = opens.ends; holds = lists_hold bytes opens.info (record { files = c.files; xorbs = c.xorbs }) opens.lists }

-- it is read, unless an allocation fails
pub read_well : (bytes : List ℕ) (c : Content) (e : CoreError) → Opens bytes c → ShardRefusal bytes e → e ≡ OutOfMemory
read_well bytes c e opens (inl (inl (is, unsupported))) = absurd (not_unsupported bytes opens.info opens.ends unsupported)
read_well bytes c e opens (inl (inr (is, short))) = absurd (not_too_short bytes opens.info opens.ends short)
read_well bytes c e opens (inr (info, ends, inl none)) = none
read_well bytes c e opens (inr (info, ends, inr (inl (end, cut)))) =
    absurd (held_whole bytes opens.info _ (opened_shard bytes c opens).holds (subst (IsTruncated bytes) (only_info bytes info opens.info ends opens.ends) cut))
read_well bytes c e opens (inr (info, ends, inr (inr (invalid, bad)))) =
    absurd (held_well bytes opens.info _ (opened_shard bytes c opens).holds (subst (IsMalformed bytes) (only_info bytes info opens.info ends opens.ends) bad))

-- bytes hold one shard
pub opens_once : (bytes : List ℕ) (c d : Content) → Opens bytes c → Opens bytes d → c ≡ d
opens_once bytes c d one other =
    let shard_1 = shard_of (record { files = c.files; xorbs = c.xorbs }) in
    let shard_2 = shard_of (record { files = d.files; xorbs = d.xorbs }) in
    let same : shard_1 ≡ shard_2 = only_shard bytes shard_2 shard_1 (opened_shard bytes d other) (opened_shard bytes c one) in
    let files = sym (values-list_map file_records c.files one.lists.files.writable.ascends) ∙ ap (λ (s : Shard). values s.files) same ∙ values-list_map file_records d.files other.lists.files.writable.ascends in
    let xorbs = sym (values-list_map xorb_records c.xorbs one.lists.xorbs.writable.ascends) ∙ ap (λ (s : Shard). values s.xorbs) same ∙ values-list_map xorb_records d.xorbs other.lists.xorbs.writable.ascends in
    let options = one.options_are ∙ ap options_of (only_info bytes one.info other.info one.ends other.ends) ∙ sym other.options_are in
    λ i. record { files = files i; xorbs = xorbs i; options = options i }
