-- Trees of unions over exports of shards write the export of their join, and keep runs of chunks.
use Rattle.std.proofs.Common.{◌≡◌, inl, inr, ℕ, ◌<◌, ◌≤◌, Bool, true, List, [], ◌∷◌, ◌++◌, ◌+◌, length, map, flat_map, get_or, drop, Option, Some, refl, sym, ap, ◌∙◌, subst, arith, append-nil}
use Rattle.xet_shards.proofs.Ends.Loading.{header_of, one_version}
use Rattle.xet_shards.specs.Ends.Ends.{HasHeader}
use Rattle.xet_records.specs.declared.record_reader.FormatVersion.{FormatVersion}
use Rattle.xet_records.specs.declared.record_reader.FormatVersion.TheVariants.{V2, V3}
use Rattle.std.specs.Prelude.{◌↔◌, Contains, option_map}
use Rattle.std.specs.FinMap.{FinMap, get, entries, values, get-entries}
use Rattle.std.specs.Io.KnownBytes.{Appends}
use Rattle.std.specs.List.{drop-map}
use Rattle.std.proofs.lemmas.List.{length-append, append_assoc, length-map, get_or-map}
use Rattle.std.proofs.lemmas.Option.{none-some}
use Rattle.xet_base.specs.declared.error.CoreError.{CoreError}
use Rattle.xet_base.specs.declared.merklehash.DataHash.{DataHash}
use Rattle.xet_base.specs.Bytes.{u64_bytes}
use Rattle.xet_base.specs.Hash.{hash_bytes, hash_cmp}
use Rattle.xet_base.specs.KeyedHash.{no_key, under_key}
use Rattle.xet_base.specs.Source.{Source, bytes_left}
use Rattle.xet_base.proofs.Bytes.{length-u64_bytes}
use Rattle.xet_base.proofs.HashOrder.{hash_cmp-IsTotalOrder, hash_cmp-IsAntisymmetric}
use Rattle.xet_records.specs.declared.file_structs.rows.FileDataSequenceEntry.{FileDataSequenceEntry}
use Rattle.xet_records.specs.declared.file_structs.MDBFileInfo.{MDBFileInfo}
use Rattle.xet_records.specs.declared.xorb_structs.MDBXorbInfo.{MDBXorbInfo}
use Rattle.xet_records.specs.FileRecord.{file_records, file_records_in}
use Rattle.xet_records.specs.View.{all_with_aux_if}
use Rattle.xet_records.specs.XorbRecord.{xorb_records}
use Rattle.xet_records.proofs.RecordKinds.{xorb_laws, version_known}
use Rattle.xet_shards.specs.declared.shard_format.ends.footer.MDBShardFileFooter.{MDBShardFileFooter}
use Rattle.xet_shards.specs.declared.shard_format.ends.options.LayoutOptions.{LayoutOptions}
use Rattle.xet_shards.specs.ShardInMemory.ChunkLookup.{ChunkLocation}
use Rattle.xet_shards.specs.ShardInMemory.ChunkQuery.{run_at, run_length}
use Rattle.xet_shards.specs.Write.Layout.{if_included, layout_of, header_value, shard_header_bytes, shard_footer_bytes, offsets_of, sums_of, footer_value, plain_options_in, layout_in as layout_in_version}
use Rattle.xet_shards.specs.Write.WrittenShard.{HasFilesIn, IsBytesOf}
use Rattle.xet_shards.specs.Content.Joins.{IsJoinOf, AgreePairwise}
use Rattle.xet_shards.specs.Export.KeyedExport.{exported_bytes, Exports, ExportsWith, export_options, xorbs_after, keyed_chunk, keyed_xorb, keyed_xorbs}
use Rattle.xet_shards.specs.Content.KeyedShards.{keyed_shard}
use Rattle.xet_shards.specs.Write.Section.{section_bytes, total_rows}
use Rattle.xet_shards.specs.Read.SectionReading.{IsSection}
use Rattle.xet_shards.specs.Content.SetOperations.{RowsFitU32}
use Rattle.xet_shards.specs.Content.Shard.{Shard, IsShard}
use Rattle.xet_shards.specs.Write.Tables.{table_bytes, chunk_table_bytes}
use Rattle.xet_shards.specs.Lookup.WrittenQueries.{HasChunkAt, RunAmong}
use Rattle.xet_shards.proofs.ShardInMemory.FileUnions.{entry-holds}
use Rattle.xet_shards.proofs.Content.KeyedHashes.{keyed_total}
use Rattle.xet_shards.proofs.Content.KeyedShards.{keyed_is_shard, keyed_agree, keyed_join, exported_is, values-keyed, get-keyed, run_no_shorter}
use Rattle.xet_shards.proofs.Write.Layouts.{length-file_section}
use Rattle.xet_shards.proofs.Content.MappedMaps.{mapped_some}
use Rattle.xet_shards.proofs.Read.Readback.{section_of_shard, xorb_section_of_shard, layout_from_48}
use Rattle.xet_shards.proofs.Write.Sections.{files_laws, files_fit, files_fit_in}
use Rattle.xet_shards.proofs.Read.SectionUnique.{only_list}
use Rattle.xet_shards.proofs.ShardInMemory.Sums.{all_of_map}
use Rattle.xet_core_structures.specs.declared.set_operations.MergePlan.{MergePlan}
use Rattle.xet_core_structures.specs.TwoShards.ByteResults.{keyed_options, keyed_layout}
use Rattle.xet_core_structures.specs.Trees.ExportTrees.{IsExportOf, IsMergeOfExports, run_under}
use Rattle.xet_core_structures.specs.Records.ShardContents.{HoldsShard}
use Rattle.xet_core_structures.specs.Trees.MergeTrees.{TreeWrites, TreeRefusal, IsMergeUnder, MergeRefused}
use Rattle.xet_core_structures.proofs.Records.ByteUnions.{form_held}
use Rattle.xet_core_structures.proofs.Trees.MappedJoins.{PreservesJoins, mapped_agree, mapped_merge}
use Rattle.xet_core_structures.proofs.Trees.MergeTrees.{keyed_tree, tree_refused}

-- the values of a map are what it has under its keys
at_value : {X : Type 0} (m : FinMap hash_cmp X) (q : DataHash) (x : X) → get m q ≡ Some x → Contains (values m) x
at_value {X} m q x at =
    entry-holds (λ (e : DataHash × X). Contains (values m) e.1) (entries m) q x
    (λ k e below. (
      k,
      omega (arith, below, length-map (entries m) (λ (d : DataHash × X). d.1)),
      get_or-map (λ (d : DataHash × X). d.1) (entries m) k e (get_or (entries m) k e).1 below,
    ))
    (sym (get-entries m q) ∙ at)

value_at : {X : Type 0} (m : FinMap hash_cmp X) (q : DataHash) (x : X) → Contains (values m) x → (p : DataHash) × (get m p ≡ Some x)
value_at {X} m q x (k, within, is) =
    let below : k < length (entries m) = omega (arith, within, length-map (entries m) (λ (d : DataHash × X). d.1)) in
    let found = all_of_map hash_cmp-IsTotalOrder hash_cmp-IsAntisymmetric (λ (e : DataHash × X). get m e.0 ≡ Some e.1) m (λ p v at. at) k (q, x) below in
    let same = sym (get_or-map (λ (d : DataHash × X). d.1) (entries m) k (q, x) x below) ∙ is in
    ((get_or (entries m) k (q, x)).0, found ∙ ap Some same)

-- exports with auxiliary rows of shards that agree, under one key
keys_pass : (key : DataHash) → PreservesJoins (keyed_shard key)
keys_pass key = record { shards = keyed_is_shard key; agree = keyed_agree key; join = keyed_join key }

pub keyed_leaves : (key : DataHash) (shards : List Shard) (join : Shard) → AgreePairwise (Contains shards) → IsJoinOf (Contains shards) join
    → AgreePairwise (Contains (map (keyed_shard key) shards)) × IsJoinOf (Contains (map (keyed_shard key) shards)) (keyed_shard key join)
keyed_leaves key shards join agree is_join = (mapped_agree (keyed_shard key) (keys_pass key) shards agree, keyed_join key shards join is_join)

keyed_files : (key : DataHash) (s : Shard) (version : FormatVersion) → HasFilesIn version s → HasFilesIn version (keyed_shard key s)
keyed_files key s V2 has = has
keyed_files key s V3 has = tt

pub export_held : (key : DataHash) (s : Shard) (bytes : List ℕ) → IsShard s → IsExportOf true key s bytes → HoldsShard key (keyed_shard key s) bytes
export_held key s bytes shard export =
    let options = export.options in
    let here = export.is_form.under in
    let keyed = keyed_is_shard options.key s shard in
    let held = form_held (keyed_shard options.key s) options keyed (keyed_files options.key s options.version export.files) export.is_form.fits in
    let bytes_are = export.bytes_are ∙ exported_is s options export.is_form.files in
    subst (λ k. HoldsShard k (keyed_shard k s) bytes) here (subst (HoldsShard options.key (keyed_shard options.key s)) (sym bytes_are) held)

module _ (key : DataHash) (inputs : List (List ℕ)) (plan : MergePlan) (shards : List Shard) (join : Shard) (merge : IsMergeOfExports true key inputs plan shards join) where
  few_keyed : RowsFitU32 join → RowsFitU32 (keyed_shard key join)
  few_keyed few = record {
    files = few.files;
    xorbs = omega (arith, ap (total_rows xorb_records) (values-keyed key join), keyed_total key (values join.xorbs), few.xorbs);
  }

  is_merge : IsMergeUnder key inputs plan (map (keyed_shard key) shards) (keyed_shard key join)
  is_merge = mapped_merge (keyed_shard key) (keys_pass key) (IsExportOf true key) (HoldsShard key) (export_held key) inputs plan shards join merge

  pub tree_of_exports : (out : List ℕ) → TreeWrites inputs plan out → out ≡ keyed_layout (keyed_shard key join) key
  tree_of_exports out writes = (keyed_tree inputs key plan (map (keyed_shard key) shards) (keyed_shard key join) out is_merge writes).0

  pub export_of_join : (out : List ℕ) → TreeWrites inputs plan out → out ≡ exported_bytes (values join.files) (values join.xorbs) (export_options key 0 18446744073709551615 true true true)
  export_of_join out writes = tree_of_exports out writes ∙ sym (exported_is join (keyed_options key) refl)

  pub exports_refused : (e : CoreError) → TreeRefusal inputs plan e → MergeRefused join e
  exports_refused e refusal = elim (tree_refused inputs key plan (map (keyed_shard key) shards) (keyed_shard key join) e is_merge.inputs_are is_merge.agree is_merge.is_join refusal) [
    | inl no_memory ↦ inl no_memory
    | inr many ↦ inr (many.0, λ few. many.1 (few_keyed few))
  ]

-- an export of a shard is the layout of the shard under the key, without files where they are not asked for
exported_in : (s : Shard) (options : LayoutOptions) → exported_bytes (values s.files) (values s.xorbs) options ≡ layout_of (if_included options.file_table (values s.files)) (values (keyed_shard options.key s).xorbs) options
exported_in s options = λ i. layout_of (if_included options.file_table (values s.files)) (sym (values-keyed options.key s) i) options

-- what an export of the shard's bytes writes, in whichever version they are, with auxiliary rows or without
module _ (aux : Bool) (s : Shard) (options : LayoutOptions) (old new : Source) (before after : Option (List ℕ)) (n : ℕ) (is : IsBytesOf s (bytes_left old)) (exports : ExportsWith aux options old new before after n) where
  abbrev own_header : HasHeader (bytes_left old)
  own_header = header_of (bytes_left old) _ (header_value is.version) (is.bytes_are ∙ layout_from_48 (values s.files) (values s.xorbs) (plain_options_in is.version is.expiry)) (is.version, refl)

  section_in : IsSection (file_records_in is.version) (drop 48 (bytes_left old)) exports.files
  section_in =
      subst (λ v. IsSection (file_records_in v) (drop 48 (bytes_left old)) exports.files)
      (one_version (bytes_left old) exports.header own_header ∙ version_known is.version) exports.file_section

  files_read : exports.files ≡ values s.files
  files_read =
      only_list (file_records_in is.version) (files_laws is.version) (drop 48 (layout_in_version is.version s is.expiry)) exports.files (values s.files)
      (subst (λ bytes. IsSection (file_records_in is.version) (drop 48 bytes) exports.files) is.bytes_are section_in)
      (section_of_shard is.version s is.expiry (files_fit_in is.version s is.shard is.files))

  after_files : xorbs_after exports.files ≡ 48 + length (section_bytes file_records (values s.files))
  after_files = ap xorbs_after files_read ∙ omega (arith, length-file_section (values s.files) (λ k r below. ((files_fit s is.shard).stored k r below).widths))

  xorbs_read : exports.xorbs ≡ values s.xorbs
  xorbs_read =
      only_list xorb_records xorb_laws (drop (48 + length (section_bytes file_records (values s.files))) (layout_in_version is.version s is.expiry)) exports.xorbs (values s.xorbs)
      (subst (λ bytes. IsSection xorb_records bytes exports.xorbs) (λ i. drop (after_files i) (is.bytes_are i)) exports.xorb_section) (xorb_section_of_shard is.version s is.expiry is.shard)

  pub export_of_bytes : Appends before after (exported_bytes (all_with_aux_if aux (values s.files)) (values s.xorbs) options)
  export_of_bytes = subst (Appends before after) (λ i. exported_bytes (all_with_aux_if aux (files_read i)) (xorbs_read i) options) exports.written

pub export_written : (s : Shard) (options : LayoutOptions) (old new : Source) (before after : Option (List ℕ)) (n : ℕ) → IsBytesOf s (bytes_left old)
    → Exports options old new before after n → Appends before after (layout_of (if_included options.file_table (values s.files)) (values (keyed_shard options.key s).xorbs) options)
export_written s options old new before after n is exports =
    subst (Appends before after) (exported_in s options) (export_of_bytes true s options old new before after n is exports)

-- under a key a run is at least as long
pub longer_under : (key : DataHash) (s : Shard) (q : DataHash) (index : ℕ) (qs : List DataHash) (run : ℕ × FileDataSequenceEntry) → run_under no_key s q index qs ≡ Some run
    → (longer : ℕ × FileDataSequenceEntry) × (run_under key (keyed_shard key s) q index qs ≡ Some longer) × (run.0 ≤ longer.0)
longer_under key s q index qs run is =
    let mine = mapped_some (λ (xorb : MDBXorbInfo). run_at no_key (xorb, index) qs) (get s.xorbs q) run is in
    let xorb = mine.0 in
    let kept = get-keyed key s q ∙ ap (option_map (keyed_xorb key)) mine.1 in
    let chunks = drop-map (keyed_chunk key) index xorb.chunks in (
      run_at key (keyed_xorb key xorb, index) qs,
      ap (option_map (λ (x : MDBXorbInfo). run_at key (x, index) qs)) kept,
      omega (arith, run_no_shorter key qs (drop index xorb.chunks), ap (run_length key qs) chunks, ap (λ (r : ℕ × FileDataSequenceEntry). r.0) mine.2),
    )

module _ (shards : List Shard) (join : Shard) (is_join : IsJoinOf (Contains shards) join) where
  -- the join has the xorbs of the shards, and no others
  xorb_kept : (s : Shard) (q : DataHash) (xorb : MDBXorbInfo) → Contains shards s → get s.xorbs q ≡ Some xorb → get join.xorbs q ≡ Some xorb
  xorb_kept s q xorb member has = (is_join.xorbs q xorb).1 (s, member, has)

  pub run_kept : (key : DataHash) (s : Shard) (q : DataHash) (index : ℕ) (qs : List DataHash) (run : ℕ × FileDataSequenceEntry) → Contains shards s
      → run_under key s q index qs ≡ Some run → run_under key join q index qs ≡ Some run
  run_kept key s q index qs run member is =
      let mine = mapped_some (λ (xorb : MDBXorbInfo). run_at key (xorb, index) qs) (get s.xorbs q) run is in
      ap (option_map (λ (xorb : MDBXorbInfo). run_at key (xorb, index) qs)) (xorb_kept s q mine.0 member mine.1) ∙ ap Some mine.2

  pub run_from : (key q : DataHash) (index : ℕ) (qs : List DataHash) (run : ℕ × FileDataSequenceEntry) → run_under key join q index qs ≡ Some run
      → (s : Shard) × Contains shards s × (run_under key s q index qs ≡ Some run)
  run_from key q index qs run is =
      let mine = mapped_some (λ (xorb : MDBXorbInfo). run_at key (xorb, index) qs) (get join.xorbs q) run is in
      let from = (is_join.xorbs q mine.0).0 mine.1 in
      (from.0, from.1, ap (option_map (λ (xorb : MDBXorbInfo). run_at key (xorb, index) qs)) from.2 ∙ ap Some mine.2)

  chunk_from : (q : DataHash) (p : ChunkLocation) → HasChunkAt (values join.xorbs) q p → (s : Shard) × Contains shards s × HasChunkAt (values s.xorbs) q p
  chunk_from q p has =
      let own = value_at join.xorbs q p.0 has.xorb in
      let from = (is_join.xorbs own.0 p.0).0 own.1 in
      (from.0, from.1, record { xorb = at_value (from.0).xorbs own.0 p.0 from.2; chunk = has.chunk })

  pub same_chunks : (q : DataHash) (p : ChunkLocation) → HasChunkAt (values join.xorbs) q p ↔ ((s : Shard) × Contains shards s × HasChunkAt (values s.xorbs) q p)
  same_chunks q p = (
    chunk_from q p,
    λ found.
        let own = value_at (found.0).xorbs q p.0 found.2.xorb in
        record { xorb = at_value join.xorbs own.0 p.0 (xorb_kept found.0 own.0 p.0 found.1 own.1); chunk = found.2.chunk },
  )

  -- an answer to a query on the join is one on one of the shards
  pub answer_from : (key : DataHash) (qs : List DataHash) (run : ℕ × FileDataSequenceEntry) → RunAmong key qs (values join.xorbs) (Some run)
      → (s : Shard) × Contains shards s × RunAmong key qs (values s.xorbs) (Some run)
  answer_from key [] run is = absurd (none-some run (sym is))
  answer_from key (q ∷ qs) run (p, has, is) =
      let from = chunk_from (under_key key q) p has in
      (from.0, from.1, (p, from.2, is))

  -- under a key it has one at least as long
  pub longer_run : (key : DataHash) (s : Shard) (q : DataHash) (index : ℕ) (qs : List DataHash) (run : ℕ × FileDataSequenceEntry) → Contains shards s
      → run_under no_key s q index qs ≡ Some run
      → (longer : ℕ × FileDataSequenceEntry) × (run_under key (keyed_shard key join) q index qs ≡ Some longer) × (run.0 ≤ longer.0)
  longer_run key s q index qs run member is = longer_under key join q index qs run (run_kept no_key s q index qs run member is)

-- two exports of the same records differ in the two timestamps of the footer alone
module _ (files : List MDBFileInfo) (xorbs : List MDBXorbInfo) (key : DataHash) where
  abbrev full_form : ℕ → ℕ → LayoutOptions
  full_form now valid = export_options key now valid true true true

  abbrev front_of : MDBShardFileFooter → List ℕ
  front_of f = flat_map u64_bytes (offsets_of f) ++ hash_bytes f.chunk_hash_hmac_key

  abbrev rest_of : MDBShardFileFooter → List ℕ
  rest_of f = flat_map u64_bytes f._buffer ++ flat_map u64_bytes (sums_of f)

  append_regroups : (b o t u m n : List ℕ) → b ++ (((o ++ (t ++ (u ++ []))) ++ m) ++ n) ≡ (((b ++ o) ++ t) ++ u) ++ (m ++ n)
  append_regroups b o t u m n = simp (append_assoc, append-nil)

  abbrev export_footer : ℕ → ℕ → MDBShardFileFooter
  export_footer now valid = footer_value files (keyed_xorbs key xorbs) (full_form now valid)

  abbrev before_footer : List ℕ
  before_footer =
      let keyed = keyed_xorbs key xorbs in
      ((((shard_header_bytes (header_value V3) ++ section_bytes file_records files) ++ section_bytes xorb_records keyed) ++ table_bytes file_records files)
      ++ table_bytes xorb_records keyed)
      ++ chunk_table_bytes keyed

  abbrev pub before_timestamps : List ℕ
  before_timestamps = before_footer ++ front_of (export_footer 0 0)

  abbrev pub after_timestamps : List ℕ
  after_timestamps = rest_of (export_footer 0 0)

  pub split_at_timestamps : (now valid : ℕ)
      → exported_bytes files xorbs (full_form now valid) ≡ before_timestamps ++ u64_bytes now ++ u64_bytes (now + valid) ++ after_timestamps
  unfolding layout_of shard_footer_bytes
  split_at_timestamps now valid =
      let f = export_footer now valid in
      append_regroups before_footer (front_of f) (u64_bytes now) (u64_bytes (now + valid)) (flat_map u64_bytes f._buffer) (flat_map u64_bytes (sums_of f))

  pub after_timestamps_size : length after_timestamps ≡ 80
  after_timestamps_size = simp (length-append, length-u64_bytes)
