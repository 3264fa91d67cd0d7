-- What is found in parts of a shard's bytes is what the shard has.
use Rattle.std.proofs.Common.{◌≡◌, inl, inr, refl, ℕ, zero, suc, ◌≤◌, ◌<◌, List, [], ◌∷◌, ◌++◌, length, map, take, drop, get_or, Ok, Err, Option, Some, sym, ap, ◌∙◌, subst, append_assoc, append-nil, arith}
use Rattle.std.specs.Prelude.{Contains, MatchResult}
use Rattle.std.specs.FinMap.{entries, get, values}
use Rattle.std.proofs.lemmas.List.{take-append-drop, take-append-le}
use Rattle.std.proofs.lemmas.List.Elements.{All-contains}
use Rattle.xet_base.proofs.Lists.{front_is}
use Rattle.xet_core_structures.specs.declared.error.CoreError.TheVariants.{OutOfMemory}
use Rattle.xet_core_structures.specs.declared.file_structs.MDBFileInfo.{MDBFileInfo}
use Rattle.xet_core_structures.specs.declared.merklehash.DataHash.{DataHash}
use Rattle.xet_core_structures.specs.declared.shard_format.MDBShardFileFooter.{MDBShardFileFooter}
use Rattle.xet_core_structures.specs.declared.shard_format.MDBShardInfo.{MDBShardInfo}
use Rattle.xet_core_structures.specs.declared.xorb_structs.MDBXorbInfo.{MDBXorbInfo}
use Rattle.xet_core_structures.specs.ChunkQuery.{Run}
use Rattle.xet_core_structures.specs.Errors.{CoreResult}
use Rattle.xet_core_structures.specs.FileRecord.{file_record_bytes, file_records, file_records_in, IsWellFormed}
use Rattle.xet_core_structures.specs.KeyedHash.{no_key}
use Rattle.xet_core_structures.specs.Lookup.{FoundInShard, HasAt, row_at, with_first_word}
use Rattle.xet_core_structures.specs.SectionReading.{files_of}
use Rattle.xet_core_structures.specs.Shard.{Shard}
use Rattle.xet_core_structures.specs.Source.{Source}
use Rattle.xet_core_structures.specs.Table.{FitsTable, IsSorted}
use Rattle.xet_core_structures.specs.Version.{version_of}
use Rattle.xet_core_structures.specs.WrittenQueries.{RunAmong}
use Rattle.xet_core_structures.specs.WrittenShard.{IsBytesWithInfo}
use Rattle.xet_core_structures.specs.XorbRecord.{xorb_record_bytes, xorb_records}
use Rattle.xet_records.specs.RecordKind.{RecordKind}
use Rattle.xet_records.specs.declared.record_reader.FormatVersion.{FormatVersion}
use Rattle.xet_records.proofs.RecordKinds.{KindLaws, version_known, xorb_laws}
use Rattle.xet_shards.specs.Write.Layout.{plain_options_in}
use Rattle.xet_shards.specs.declared.shard_format.ends.options.LayoutOptions.{LayoutOptions}
use Rattle.xet_shards.specs.Write.Section.{StartsAt, total_rows, with_fronts}
use Rattle.xet_shards.specs.Write.Tables.{chunk_table, hash_in, start_of, starts}
use Rattle.xet_shards.proofs.Lookup.ChunkTables.{no_table_row, numbers_of, rows_known, word_of}
use Rattle.xet_shards.proofs.Lookup.ChunkTables as chunk
use Rattle.xet_shards.proofs.Lookup.KnownRows.{rows_fit}
use Rattle.xet_shards.proofs.Lookup.MapAnswers.{map_answers}
use Rattle.xet_shards.proofs.Lookup.ShardLookups.{lookup_written}
use Rattle.xet_shards.proofs.Lookup.StoredRecords.{AreStoredAt, end_bound, in_records, is_stored, record_there}
use Rattle.xet_shards.proofs.Lookup.TableLookups.{IsLookedUp, lookup_answers, table_sorted}
use Rattle.xet_shards.proofs.Lookup.WrittenQueries.{query_with_options}
use Rattle.xet_shards.proofs.Read.Readback.{one_as_read}
use Rattle.xet_shards.proofs.ShardInMemory.Files.{well_formed_values}
use Rattle.xet_shards.proofs.ShardInMemory.Xorbs.{xorb_values}
use Rattle.xet_shards.proofs.Write.Sections.{files_laws}
use Rattle.xet_shards.proofs.Write.WithOptions.{no_file, no_xorb, files_in, files_of_shard, shard_with_options, xorbs_ascend, xorbs_in}
use Rattle.shard_bytes.specs.PartLookups.{HasFileIn, HasXorbIn, RefusesFileIn, RefusesXorbIn}
use Rattle.shard_bytes.specs.RangeReads.{FindsFileInParts, FindsXorbInParts, QueriesInParts, chunk_table_in, file_table_in, xorb_table_in}
use Rattle.shard_bytes.specs.Walking.{IsAtRow, NotAtRow}
use Rattle.shard_bytes.proofs.CutTables.{starts_fit}
use Rattle.shard_bytes.proofs.RangeReads.{answer_of, looked_up, query_answers}
use Rattle.shard_bytes.proofs.Reading.{source_of}
use Rattle.shard_bytes.proofs.Walks.{memory_alone, one_at}

-- a row of a table of starts is that of a record
module _ {H R : Type 0} (K : RecordKind H R) where
  starts_record : (front records : List R) (i : ℕ) (p e : ℕ × ℕ) → i < length (map (start_of K) (with_fronts front records)) → get_or (map (start_of K) (with_fronts front records)) i e ≡ p
      → (before : List R) × (r : R) × (after : List R) × (records ≡ before ++ r ∷ after) × (p.1 ≡ total_rows K (front ++ before)) × ((hash_in K r).word0 ≡ p.0)
  starts_record front [] i p e below is = absurd (omega (arith, below))
  starts_record front (r ∷ records) zero p e below is =
      ([], r, records, refl, sym (ap (λ (q : ℕ × ℕ). q.1) is) ∙ ap (total_rows K) (sym (append-nil front)), ap (λ (q : ℕ × ℕ). q.0) is)
  starts_record front (r ∷ records) (suc i) p e below is =
      let later = starts_record (front ++ r ∷ []) records i p e (omega (arith, below)) is in
      (r ∷ later.0, later.1, later.2, ap (λ rs. r ∷ rs) later.3, later.4 ∙ ap (total_rows K) (append_assoc front (r ∷ []) later.0), later.5)

  pub start_is : (records : List R) (word row : ℕ) → Contains (starts K records) (word, row) → (r : R) × StartsAt K records row r × ((hash_in K r).word0 ≡ word)
  start_is records word row (i, below, is) =
      let at = starts_record [] records i (word, row) (word, row) below is in
      (at.1, record { before = at.0; after = at.2; records_are = at.3; row_is = at.4 }, at.5)

-- bytes that begin where a stored record starts, and reach as far as it does, give it
module _ {H R : Type 0} (K : RecordKind H R) (laws : KindLaws K) (records : List R) (offset : ℕ) (all : Source) (stored : AreStoredAt K records offset all.bytes)
    (row : ℕ) (r : R) (at : StartsAt K records row r) (bytes : List ℕ) (there : HasAt all.bytes (row_at offset row) bytes) (enough : length (K.record_bytes r) ≤ length bytes) where
  abbrev size : ℕ
  size = length (K.record_bytes r)

  front : take size bytes ≡ K.record_bytes r
  front =
      let is = record_there K laws records offset all stored row r at in
      sym (take-append-le size bytes there.0 enough) ∙ ap (take size) (sym there.1)
      ∙ front_is size _ (K.record_bytes r) is.0 refl is.1

  in_front : IsAtRow K bytes 0 0 (Some (K.as_read r))
  in_front =
      let stored_r = is_stored K laws records offset all stored row r at in
      record {
        stored = r;
        is_stored = stored_r;
        rows = omega (arith, end_bound K laws records offset all stored row r at, laws.rows r stored_r);
        taken = (drop size bytes, sym (take-append-drop size bytes) ∙ ap (λ bs. bs ++ drop size bytes) front);
        returned = refl;
      }

  pub read_there : (found : CoreResult (Option R)) → MatchResult found (IsAtRow K bytes 0 0) (NotAtRow K bytes 0 0) → MatchResult found (λ o. o ≡ Some (K.as_read r)) (λ e. e ≡ OutOfMemory)
  read_there (Ok o) is = one_at K laws bytes 0 0 o (Some (K.as_read r)) is in_front
  read_there (Err e) (inl (bare, past)) = absurd (omega (arith, past))
  read_there (Err e) (inr case) = memory_alone K laws bytes 0 0 (Some (K.as_read r)) e in_front case

module _ {s : Shard} {shard : List ℕ} {info : MDBShardInfo} (is : IsBytesWithInfo s shard info) where
  abbrev f : MDBShardFileFooter
  f = info.metadata

  abbrev v : FormatVersion
  v = version_of info.header.version

  abbrev src : Source
  src = source_of shard

  abbrev options : LayoutOptions
  options = plain_options_in is.is_bytes.version is.is_bytes.expiry

  pub looked_files : IsLookedUp (files_of info) no_file (values s.files) f.file_info_offset f.file_lookup_offset f.file_lookup_num_entry src
  looked_files =
      let form = files_of_shard is in
      subst (λ n. IsLookedUp (file_records_in n) no_file (values s.files) f.file_info_offset f.file_lookup_offset f.file_lookup_num_entry src) (sym form.version)
      (files_in (values s.files) (values s.xorbs) options src f form.with_options form.ascends form.table)

  pub looked_xorbs : IsLookedUp xorb_records no_xorb (values s.xorbs) f.xorb_info_offset f.xorb_lookup_offset f.xorb_lookup_num_entry src
  looked_xorbs = xorbs_in (values s.files) (values s.xorbs) options src f (shard_with_options is) (xorbs_ascend s is.is_bytes.shard) refl

  pub file_found : (hash : DataHash) (answer : Option MDBFileInfo) → FindsFileInParts f shard hash answer → FoundInShard s hash answer
  file_found hash answer parts =
      lookup_written s is.is_bytes.shard v f.file_info_offset f.file_lookup_offset f.file_lookup_num_entry src looked_files src hash (Ok answer)
      (looked_up (files_of info) shard parts.table f.file_info_offset f.file_lookup_offset f.file_lookup_num_entry hash parts.has_rows
      (starts_fit (files_of info) (files_laws v) no_file (values s.files) f.file_info_offset f.file_lookup_offset f.file_lookup_num_entry shard looked_files)
      parts.count parts.old parts.rows answer parts.found
      (answer_of shard info is.ends files_of (λ i. i.metadata.file_info_offset) hash (take parts.count parts.rows) answer parts.answers))

  pub xorb_found : (hash : DataHash) (answer : Option MDBXorbInfo) → FindsXorbInParts f shard hash answer
      → (length (with_first_word xorb_records hash.word0 (values s.xorbs)) < 8) × (answer ≡ get s.xorbs hash)
  xorb_found hash answer parts =
      let lookup = looked_up xorb_records shard parts.table f.xorb_info_offset f.xorb_lookup_offset f.xorb_lookup_num_entry hash parts.has_rows
      (starts_fit xorb_records xorb_laws no_xorb (values s.xorbs) f.xorb_info_offset f.xorb_lookup_offset f.xorb_lookup_num_entry shard looked_xorbs)
      parts.count parts.old parts.rows answer parts.found
      (answer_of shard info is.ends (λ i. xorb_records) (λ i. i.metadata.xorb_info_offset) hash (take parts.count parts.rows) answer parts.answers) in
      let among = lookup_answers xorb_records xorb_laws no_xorb (values s.xorbs) f.xorb_info_offset f.xorb_lookup_offset f.xorb_lookup_num_entry src looked_xorbs hash src answer lookup.read in
      (among.0, map_answers xorb_records no_xorb s.xorbs is.is_bytes.shard.xorbs.keyed (λ i d within. refl) hash answer among.1)

  chunks_fit : FitsTable (chunk_table_in f shard)
  chunks_fit =
      rows_fit word_of numbers_of 8 no_table_row (chunk_table (values s.xorbs)) f.chunk_lookup_offset f.chunk_lookup_num_entry src (rows_known (values s.files) (values s.xorbs) options src f (shard_with_options is) refl)

  pub run_found : (q : DataHash) (qs : List DataHash) (answer : Option Run) → QueriesInParts f shard q qs answer → RunAmong no_key (q ∷ qs) (values s.xorbs) answer
  run_found q qs answer parts =
      query_with_options src (shard_with_options is) refl (xorb_values (entries s.xorbs) is.is_bytes.shard.xorbs) (q ∷ qs) src (Ok answer) (query_answers shard info is.ends q qs answer parts chunks_fit)

  pub tables_sorted : IsSorted (file_table_in f shard) × IsSorted (xorb_table_in f shard) × IsSorted (chunk_table_in f shard)
  tables_sorted = (
    table_sorted (files_of info) (files_laws v) no_file (values s.files) f.file_info_offset f.file_lookup_offset f.file_lookup_num_entry src looked_files,
    table_sorted xorb_records xorb_laws no_xorb (values s.xorbs) f.xorb_info_offset f.xorb_lookup_offset f.xorb_lookup_num_entry src looked_xorbs,
    chunk.table_sorted (values s.files) (values s.xorbs) options src f (shard_with_options is) refl,
  )

  pub file_read : (row : ℕ) (file : MDBFileInfo) (bytes : List ℕ) (found : CoreResult (Option MDBFileInfo)) → StartsAt file_records (values s.files) row file
      → HasAt shard (row_at f.file_info_offset row) bytes → length (file_record_bytes file) ≤ length bytes
      → MatchResult found (HasFileIn info.header.version bytes) (RefusesFileIn info.header.version bytes) → MatchResult found (λ o. o ≡ Some file) (λ e. e ≡ OutOfMemory)
  file_read row file bytes found starts there enough reads =
      let at : StartsAt (files_of info) (values s.files) row file = record { before = starts.before; after = starts.after; records_are = starts.records_are; row_is = starts.row_is } in
      let good = All-contains IsWellFormed (values s.files) file (well_formed_values (entries s.files) is.is_bytes.shard.files)
      (in_records (files_of info) (files_laws v) (values s.files) f.file_info_offset src looked_files.section row file at) in
      subst (λ r. MatchResult found (λ o. o ≡ Some r) (λ e. e ≡ OutOfMemory)) (one_as_read file good)
      (read_there (files_of info) (files_laws v) (values s.files) f.file_info_offset src looked_files.section row file at bytes there enough found (in_version found reads))
    where
      in_version : (found : CoreResult (Option MDBFileInfo)) → MatchResult found (HasFileIn info.header.version bytes) (RefusesFileIn info.header.version bytes)
          → MatchResult found (IsAtRow (files_of info) bytes 0 0) (NotAtRow (files_of info) bytes 0 0)
      in_version (Ok o) (version, number, reads) = subst (λ n. IsAtRow (file_records_in n) bytes 0 0 o) (sym (ap version_of number ∙ version_known version)) reads
      in_version (Err e) (inl (bad, unknown)) = absurd (unknown is.ends.header_version)
      in_version (Err e) (inr (version, number, fails)) = subst (λ n. NotAtRow (file_records_in n) bytes 0 0 e) (sym (ap version_of number ∙ version_known version)) fails

  pub xorb_read : (row : ℕ) (xorb : MDBXorbInfo) (bytes : List ℕ) (found : CoreResult (Option MDBXorbInfo)) → StartsAt xorb_records (values s.xorbs) row xorb
      → HasAt shard (row_at f.xorb_info_offset row) bytes → length (xorb_record_bytes xorb) ≤ length bytes
      → MatchResult found (HasXorbIn bytes) (RefusesXorbIn bytes) → MatchResult found (λ o. o ≡ Some xorb) (λ e. e ≡ OutOfMemory)
  xorb_read row xorb bytes found at there enough reads = read_there xorb_records xorb_laws (values s.xorbs) f.xorb_info_offset src looked_xorbs.section row xorb at bytes there enough found reads
