-- Records that are written with layout options with their table are looked up.
use Rattle.std.proofs.Common.{◌≡◌, refl, Bool, true, false, ℕ, ◌^◌, ◌<◌, ◌≤◌, [], ◌++◌, length, drop, map, flat_map, get_or, None, sym, ap, ◌∙◌, subst, arith, List}
use Rattle.std.specs.Prelude.{All}
use Rattle.std.specs.FinMap.{values}
use Rattle.std.specs.declared.cmp.Ordering.TheVariants.{Less}
use Rattle.std.proofs.lemmas.List.{get_or-map, length-map}
use Rattle.std.proofs.lemmas.Map.Keys.{Less-from_sorted}
use Rattle.xet_base.specs.Hash.{hash_cmp}
use Rattle.xet_base.specs.Source.{Source}
use Rattle.xet_records.specs.declared.file_structs.MDBFileInfo.{MDBFileInfo}
use Rattle.xet_records.specs.declared.xorb_structs.MDBXorbInfo.{MDBXorbInfo}
use Rattle.xet_records.specs.RecordKind.{RecordKind}
use Rattle.xet_records.specs.FileRecord.{file_records, file_records_in, file_bookend, FitsRecord}
use Rattle.xet_records.specs.Version.{version_of}
use Rattle.xet_records.proofs.RecordKinds.{stored_ever, version_known}
use Rattle.xet_records.specs.XorbRecord.{xorb_records, xorb_bookend}
use Rattle.xet_shards.specs.declared.shard_format.ends.footer.MDBShardFileFooter.{MDBShardFileFooter}
use Rattle.xet_shards.specs.declared.shard_format.ends.info.MDBShardInfo.{MDBShardInfo}
use Rattle.xet_shards.specs.Content.Shard.{Shard, IsShard}
use Rattle.xet_shards.specs.Write.Tables.{hash_in, starts, start_row, table_bytes}
use Rattle.xet_shards.specs.Write.Layout.{LayoutOptions, if_included, footer_value, plain_options_in}
use Rattle.xet_shards.specs.Write.WithOptions.{Ascends, IsBytesWithOptions, IsBytesWithFileTable}
use Rattle.xet_shards.specs.Write.WrittenShard.{IsBytesWithInfo}
use Rattle.xet_shards.proofs.Ends.EndsUnique.{info_of_bytes}
use Rattle.xet_shards.proofs.ShardInMemory.Files.{length-le-rows}
use Rattle.xet_shards.proofs.Content.Found.{first_words_ascend}
use Rattle.xet_shards.proofs.Write.Layouts.{length-file_section, length-xorb_section}
use Rattle.xet_shards.proofs.Read.Readback.{after_section, section_at_48, after_xorbs, xorbs_at}
use Rattle.xet_shards.proofs.Write.Sections.{files_fit_in, xorbs_fit}
use Rattle.xet_shards.proofs.Lookup.StoredRecords.{AreStoredAt}
use Rattle.xet_shards.proofs.Lookup.TableLookups.{IsLookedUp}
use Rattle.xet_shards.proofs.Write.TableOrder.{hashes_ascend}
use Rattle.xet_shards.proofs.Write.Tables.{length-starts, length-table_bytes}
use Rattle.xet_shards.proofs.Write.WrittenTables.{after_file_table, file_table_there, file_table_is_at, after_xorb_table, xorb_table_there, xorb_table_is_at}
use Rattle.xet_shards.proofs.Write.XorbLayouts.{xorb_rows-chunks}

-- records for where a list has none
abbrev pub no_file : MDBFileInfo
no_file = record { metadata = file_bookend; segments = []; verification = []; metadata_ext = None; aux_ext = None }

abbrev pub no_xorb : MDBXorbInfo
no_xorb = record { metadata = xorb_bookend; chunks = [] }

-- ascending hashes have ascending first words
words_ascend : {H R : Type 0} (K : RecordKind H R) (d : R) (records : List R) → Ascends K records → (i j : ℕ) → i < j → j < length records
    → (hash_in K (get_or records i d)).word0 ≤ (hash_in K (get_or records j d)).word0
words_ascend K d records ascends i j less within =
    let hashes = map (hash_in K) records in
    let hash : (k : ℕ) → k < length records → get_or hashes k (hash_in K d) ≡ hash_in K (get_or records k d) = λ k below. get_or-map (hash_in K) records k d (hash_in K d) below in
    let before : hash_cmp (get_or hashes i (hash_in K d)) (get_or hashes j (hash_in K d)) ≡ Less =
    Less-from_sorted hash_cmp hashes i j (hash_in K d) ascends less (omega (arith, within, length-map records (hash_in K))) in
    first_words_ascend (hash_in K (get_or records i d)) (hash_in K (get_or records j d))
    ((λ k. hash_cmp (sym (hash i (omega (arith, less, within))) k) (sym (hash j within) k)) ∙ before)

-- a table that may be in has no more bytes than if it is
in_size : (b : Bool) (bytes : List ℕ) → length (if_included b bytes) ≤ length bytes
in_size true bytes = omega arith
in_size false bytes = omega arith

module _ (files : List MDBFileInfo) (xorbs : List MDBXorbInfo) (options : LayoutOptions) (old : Source) (footer : MDBShardFileFooter) (is : IsBytesWithOptions files xorbs options old.bytes footer) where
  abbrev known_footer : MDBShardFileFooter
  known_footer = footer_value files xorbs options

  file_widths : All FitsRecord files
  file_widths = λ k r below. (stored_ever file_records options.version _ (is.files_fit.stored k r below)).widths

  -- the tables start within 48 bits
  file_table_fits : known_footer.file_lookup_offset ≤ 2 ^ 44
  file_table_fits = omega (arith, length-file_section files file_widths, length-xorb_section xorbs, is.files_fit.rows, is.xorbs_fit.rows)

  xorb_table_fits : known_footer.xorb_lookup_offset ≤ 2 ^ 45
  xorb_table_fits =
      omega (arith, file_table_fits, in_size options.file_table (table_bytes file_records files), length-table_bytes file_records files, length-le-rows files, is.files_fit.rows)

  pub chunk_table_starts : known_footer.chunk_lookup_offset ≤ 2 ^ 46
  chunk_table_starts =
      omega (arith, xorb_table_fits, in_size options.xorb_table (table_bytes xorb_records xorbs), length-table_bytes xorb_records xorbs, xorb_rows-chunks xorbs, is.xorbs_fit.rows)

  -- the sections are there, whatever tables are in
  files_stored : AreStoredAt (file_records_in options.version) files footer.file_info_offset old.bytes
  files_stored =
      subst (λ (f : MDBShardFileFooter). AreStoredAt (file_records_in options.version) files f.file_info_offset old.bytes) (sym is.footer_is) (record {
        fits = is.files_fit;
        offset_fits = omega arith;
        rest = after_section files xorbs options;
        records_are = ap (drop 48) is.bytes_are ∙ section_at_48 files xorbs options;
      })

  pub xorbs_stored : AreStoredAt xorb_records xorbs footer.xorb_info_offset old.bytes
  xorbs_stored =
      subst (λ (f : MDBShardFileFooter). AreStoredAt xorb_records xorbs f.xorb_info_offset old.bytes) (sym is.footer_is) (record {
        fits = is.xorbs_fit;
        offset_fits = omega (arith, length-file_section files file_widths, is.files_fit.rows);
        rest = after_xorbs files xorbs options;
        records_are = ap (drop known_footer.xorb_info_offset) is.bytes_are ∙ xorbs_at files xorbs options;
      })

  pub files_in : Ascends file_records files → options.file_table ≡ true → IsLookedUp (file_records_in options.version) no_file files footer.file_info_offset footer.file_lookup_offset footer.file_lookup_num_entry old
  files_in ascends with_table =
      subst (λ (f : MDBShardFileFooter). IsLookedUp (file_records_in options.version) no_file files f.file_info_offset f.file_lookup_offset f.file_lookup_num_entry old) (sym is.footer_is) (record {
        section = subst (λ (f : MDBShardFileFooter). AreStoredAt (file_records_in options.version) files f.file_info_offset old.bytes) is.footer_is files_stored;
        few = length-le-rows files;
        words = λ k r below. (file_widths k r below).metadata.file_hash.word0;
        ascend = words_ascend file_records no_file files ascends;
        count_is = ap (λ b. length (if_included b (starts file_records files))) with_table ∙ length-starts file_records files;
        start_fits = omega (arith, file_table_fits);
        start_there = omega (arith, file_table_there files xorbs options, ap length is.bytes_are);
        after = after_file_table files xorbs options;
        table_is = ap (drop known_footer.file_lookup_offset) is.bytes_are ∙ file_table_is_at files xorbs options
            ∙ ap (λ b. flat_map start_row (if_included b (starts file_records files)) ++ after_file_table files xorbs options) with_table;
      })

  pub xorbs_in : Ascends xorb_records xorbs → options.xorb_table ≡ true → IsLookedUp xorb_records no_xorb xorbs footer.xorb_info_offset footer.xorb_lookup_offset footer.xorb_lookup_num_entry old
  xorbs_in ascends with_table =
      subst (λ (f : MDBShardFileFooter). IsLookedUp xorb_records no_xorb xorbs f.xorb_info_offset f.xorb_lookup_offset f.xorb_lookup_num_entry old) (sym is.footer_is) (record {
        section = subst (λ (f : MDBShardFileFooter). AreStoredAt xorb_records xorbs f.xorb_info_offset old.bytes) is.footer_is xorbs_stored;
        few = omega (arith, xorb_rows-chunks xorbs);
        words = λ k r below. (is.xorbs_fit.stored k r below).widths.metadata.xorb_hash.word0;
        ascend = words_ascend xorb_records no_xorb xorbs ascends;
        count_is = ap (λ b. length (if_included b (starts xorb_records xorbs))) with_table ∙ length-starts xorb_records xorbs;
        start_fits = omega (arith, xorb_table_fits);
        start_there = omega (arith, xorb_table_there files xorbs options, ap length is.bytes_are);
        after = after_xorb_table files xorbs options;
        table_is = ap (drop known_footer.xorb_lookup_offset) is.bytes_are ∙ xorb_table_is_at files xorbs options
            ∙ ap (λ b. flat_map start_row (if_included b (starts xorb_records xorbs)) ++ after_xorb_table files xorbs options) with_table;
      })

-- the bytes of a shard
pub shard_with_options : {s : Shard} {bytes : List ℕ} {info : MDBShardInfo}
    → (is : IsBytesWithInfo s bytes info) → IsBytesWithOptions (values s.files) (values s.xorbs) (plain_options_in is.is_bytes.version is.is_bytes.expiry) bytes info.metadata
shard_with_options {s} is = record {
  files_fit = files_fit_in is.is_bytes.version s is.is_bytes.shard is.is_bytes.files;
  xorbs_fit = xorbs_fit s is.is_bytes.shard;
  bytes_are = is.is_bytes.bytes_are;
  footer_is = ap (λ (i : MDBShardInfo). i.metadata) (info_of_bytes is);
}

module _ (s : Shard) (shard : IsShard s) where
  pub files_ascend : Ascends file_records (values s.files)
  files_ascend = hashes_ascend (hash_in file_records) s.files shard.files.keyed

  pub xorbs_ascend : Ascends xorb_records (values s.xorbs)
  xorbs_ascend = hashes_ascend (hash_in xorb_records) s.xorbs shard.xorbs.keyed

pub files_of_shard : {s : Shard} {bytes : List ℕ} {info : MDBShardInfo}
    → (is : IsBytesWithInfo s bytes info) → IsBytesWithFileTable (values s.files) (values s.xorbs) (plain_options_in is.is_bytes.version is.is_bytes.expiry) bytes info
files_of_shard {s} is = record {
  with_options = shard_with_options is;
  version = ap (λ (i : MDBShardInfo). version_of i.header.version) (info_of_bytes is) ∙ version_known is.is_bytes.version;
  ascends = files_ascend s is.is_bytes.shard;
  table = refl;
}
