-- What bytes have of ranges that follow one another, each in the rows that their tables name for it, is
-- all that they have.
use Rattle.std.proofs.Common.{◌≡◌, ℕ, ◌+◌, ◌*◌, ◌≤◌, false, List, [], ◌∷◌, ◌++◌, map, flat_map, drop, Option, None, Some, refl, sym, ap, ◌∙◌, subst, arith, append-nil, append_assoc}
use Rattle.std.specs.Prelude.{All}
use Rattle.std.specs.List.{AllByRecursion, AllZip}
use Rattle.std.proofs.lemmas.List.{map-append}
use Rattle.std.proofs.lemmas.List.Concat.{flat_map-append}
use Rattle.std.proofs.lemmas.List.Elements.{All-nil, All-append}
use Rattle.std.proofs.lemmas.List.Sums.{sum_by-append}
use Rattle.xet_base.specs.declared.merklehash.DataHash.{DataHash}
use Rattle.xet_records.specs.RecordKind.{RecordKind, KindLaws}
use Rattle.xet_records.specs.declared.file_structs.MDBFileInfo.{MDBFileInfo}
use Rattle.xet_records.specs.declared.xorb_structs.MDBXorbInfo.{MDBXorbInfo}
use Rattle.xet_records.specs.FileRecord.{file_records}
use Rattle.xet_records.specs.Reading.{BeginsWithBookend}
use Rattle.xet_records.specs.Version.{version_of}
use Rattle.xet_records.specs.XorbRecord.{xorb_records}
use Rattle.xet_records.proofs.RecordKinds.{xorb_laws}
use Rattle.xet_shards.specs.declared.shard_format.ends.info.MDBShardInfo.{MDBShardInfo}
use Rattle.xet_shards.specs.Ends.Ends.{HasHeaderAndFooter}
use Rattle.xet_shards.specs.Read.SectionsBehindHeader.{options_of}
use Rattle.xet_shards.specs.Read.SectionReading.{files_of}
use Rattle.xet_shards.specs.Write.Section.{total_rows}
use Rattle.xet_shards.specs.Write.Tables.{hash_in}
use Rattle.xet_shards.specs.Write.WithOptions.{Ascends}
use Rattle.xet_shards.proofs.Ends.EndsUnique.{only_info}
use Rattle.xet_shards.proofs.Write.Sections.{files_laws}
use Rattle.xet_core_structures.specs.Records.ShardContents.{files_at, xorbs_at}
use Rattle.xet_core_structures.specs.Steps.ShardContentsSteps.{IsListOf}
use Rattle.xet_core_structures.specs.TwoShards.ByteResults.{keyed_options}
use Rattle.xet_core_structures.proofs.Records.RecordsAsRead.{all_handed}
use Rattle.xet_core_structures.proofs.Records.ShardContents.{rows_handed}
use Rattle.placed_shards.specs.declared.range.HashRange.{HashRange}
use Rattle.placed_shards.specs.ByTables.{HasByTable, OpensByTables}
use Rattle.placed_shards.specs.Content.{Content, content_within, with_all_tables}
use Rattle.placed_shards.specs.Opening.{Opens}
use Rattle.placed_shards.specs.Ranges.{is_from, is_within, ranges_between, AreCuts, records_passing}
use Rattle.placed_shards.specs.RangeRows.{first_row, end_row, file_table, xorb_table, last_file_row, last_xorb_row}
use Rattle.placed_shards.proofs.InRows.{rest_behind, rows_stored}
use Rattle.placed_shards.proofs.RangeLists.{AreIn, all_of, each_has_its_own, all_ascend}

-- one section
module _ {H R : Type 0} (K : RecordKind H R) (laws : KindLaws K) (section table : List ℕ) (last : ℕ) where
  -- it has these lists of records of these ranges in the rows that its table names for them
  abbrev pub HasAll : List HashRange → List (List R) → Type 0
  HasAll = AllZip (λ range found. HasByTable K range section table last found)

  are_in : (ranges : List HashRange) (founds : List (List R)) → HasAll ranges founds → AllZip (AreIn K) ranges founds
  are_in [] [] all = tt
  are_in [] (f ∷ fs) all = absurd all
  are_in (range ∷ ranges) [] all = absurd all
  are_in (range ∷ ranges) (f ∷ fs) (here, on) = (here.within, are_in ranges fs on)

  each_ascends : (ranges : List HashRange) (founds : List (List R)) → HasAll ranges founds → AllByRecursion (Ascends K) founds
  each_ascends [] [] all = tt
  each_ascends [] (f ∷ fs) all = absurd all
  each_ascends (range ∷ ranges) [] all = absurd all
  each_ascends (range ∷ ranges) (f ∷ fs) (here, on) = (here.ascends, each_ascends ranges fs on)

  -- from a row on a section has records up to its bookend
  record Remains (first : ℕ) (rs : List R) : Type 0 where
    stored : List R
    rest : List ℕ
    are_stored : All K.IsStored stored
    bytes_are : drop (48 * first) section ≡ flat_map K.record_bytes stored ++ rest
    returned : map K.as_read stored ≡ rs
    few : first + total_rows K stored ≤ 4294967295
    bookend : BeginsWithBookend K rest

  -- what ends a range begins the next
  remains : (from : Option DataHash) (cuts : List DataHash) (founds : List (List R)) → HasAll (ranges_between from cuts None) founds → Remains (first_row table last from) (all_of K founds)
  remains from [] [] all = absurd all
  remains from [] (f ∷ g ∷ gs) (here, on) = absurd on
  remains from [] (f ∷ []) (has, on) = record {
    stored = has.stored;
    rest = has.rest;
    are_stored = has.records.are_stored;
    bytes_are = has.records.bytes_are;
    returned = has.returned ∙ sym (append-nil f);
    few = omega (arith, rows_stored K laws (record { from = from; to = None }) section (first_row table last from) (end_row table last None) f has, has.fits);
    bookend = has.ends refl;
  }
  remains from (k ∷ ks) [] all = absurd all
  remains from (k ∷ ks) (f ∷ fs) (has, on) =
      let later = remains (Some k) ks fs on in
      let range : HashRange = record { from = from; to = Some k } in
      let first = first_row table last from in
      let end = end_row table last (Some k) in
      let rows : first + total_rows K has.stored ≡ end = rows_stored K laws range section first end f has in
      let next : has.rest ≡ flat_map K.record_bytes later.stored ++ later.rest = sym (rest_behind K laws range section first end has.stored has.rest has.records.are_stored has.records.bytes_are rows) ∙ later.bytes_are in
      record {
        stored = has.stored ++ later.stored;
        rest = later.rest;
        are_stored = All-append K.IsStored has.stored later.stored has.records.are_stored later.are_stored;
        bytes_are = has.records.bytes_are ∙ ap (λ bs. flat_map K.record_bytes has.stored ++ bs) next
            ∙ sym (append_assoc (flat_map K.record_bytes has.stored) (flat_map K.record_bytes later.stored) later.rest)
            ∙ ap (λ bs. bs ++ later.rest) (sym (flat_map-append K.record_bytes has.stored later.stored));
        returned = map-append K.as_read has.stored later.stored ∙ (λ i. has.returned i ++ later.returned i);
        few = omega (arith, sum_by-append K.row_count has.stored later.stored, rows, later.few);
        bookend = later.bookend;
      }

  module _ (cuts : List DataHash) (founds : List (List R)) (are_cuts : AreCuts None cuts None) (all : HasAll (ranges_between None cuts None) founds) where
    in_ranges : AllZip (AreIn K) (ranges_between None cuts None) founds
    in_ranges = are_in (ranges_between None cuts None) founds all

    -- it is a section with the records of all
    pub whole_section : IsListOf K section (all_of K founds)
    whole_section =
        let left = remains None cuts founds all in
        let rows : total_rows K left.stored ≤ 4294967295 = omega (arith, left.few) in
        record {
          stored = left.stored;
          section = record { rest = left.rest; records = record { are_stored = left.are_stored; rows = rows; bytes_are = left.bytes_are }; bookend = left.bookend };
          returned = left.returned;
          writable = record {
            stored = all_handed K laws left.stored (all_of K founds) left.are_stored left.returned;
            ascends = all_ascend K None cuts founds are_cuts in_ranges (each_ascends (ranges_between None cuts None) founds all);
            rows = omega (arith, rows, rows_handed K laws left.stored, ap (total_rows K) left.returned);
          };
        }

    -- of which each list is the part in its range
    pub are_parts : AllZip (λ range found. records_passing K (is_within range) (all_of K founds) ≡ found) (ranges_between None cuts None) founds
    are_parts = each_has_its_own K [] None cuts founds are_cuts (All-nil (λ (r : R). is_from None (hash_in K r) ≡ false)) in_ranges

-- both sections
module _ (bytes : List ℕ) where
  abbrev AllOpen : List HashRange → List Content → Type 0
  AllOpen = AllZip (λ range part. OpensByTables range bytes part)

  abbrev files_in : List Content → List (List MDBFileInfo)
  files_in parts = map (λ (c : Content). c.files) parts

  abbrev xorbs_in : List Content → List (List MDBXorbInfo)
  xorbs_in parts = map (λ (c : Content). c.xorbs) parts

  module _ (info : MDBShardInfo) (ends : HasHeaderAndFooter bytes info) where
    abbrev all_files : List HashRange → List (List MDBFileInfo) → Type 0
    all_files = HasAll (files_of info) (files_laws (version_of info.header.version)) (files_at bytes info) (file_table bytes info) (last_file_row info)

    abbrev all_xorbs : List HashRange → List (List MDBXorbInfo) → Type 0
    all_xorbs = HasAll xorb_records xorb_laws (xorbs_at bytes info) (xorb_table bytes info) (last_xorb_row info)

    have_files : (ranges : List HashRange) (parts : List Content) → AllOpen ranges parts → all_files ranges (files_in parts)
    have_files [] [] all = tt
    have_files [] (c ∷ cs) all = absurd all
    have_files (range ∷ ranges) [] all = absurd all
    have_files (range ∷ ranges) (c ∷ cs) (here, on) = (
      subst (λ (i : MDBShardInfo). HasByTable (files_of i) range (files_at bytes i) (file_table bytes i) (last_file_row i) c.files) (only_info bytes here.info info here.ends ends) here.files,
      have_files ranges cs on,
    )

    have_xorbs : (ranges : List HashRange) (parts : List Content) → AllOpen ranges parts → all_xorbs ranges (xorbs_in parts)
    have_xorbs [] [] all = tt
    have_xorbs [] (c ∷ cs) all = absurd all
    have_xorbs (range ∷ ranges) [] all = absurd all
    have_xorbs (range ∷ ranges) (c ∷ cs) (here, on) = (
      subst (λ (i : MDBShardInfo). HasByTable xorb_records range (xorbs_at bytes i) (xorb_table bytes i) (last_xorb_row i) c.xorbs) (only_info bytes here.info info here.ends ends) here.xorbs,
      have_xorbs ranges cs on,
    )

    module _ (whole : Content) (options_are : whole.options ≡ options_of info) where
      -- each part is that of the whole in its range
      each_is : (ranges : List HashRange) (parts : List Content) → AllOpen ranges parts → AllZip (λ range found. records_passing file_records (is_within range) whole.files ≡ found) ranges (files_in parts)
          → AllZip (λ range found. records_passing xorb_records (is_within range) whole.xorbs ≡ found) ranges (xorbs_in parts) → AllZip (λ range part. part ≡ with_all_tables (content_within range whole)) ranges parts
      each_is [] [] all files xorbs = tt
      each_is [] (c ∷ cs) all files xorbs = absurd all
      each_is (range ∷ ranges) [] all files xorbs = absurd all
      each_is (range ∷ ranges) (c ∷ cs) (here, on) (of_files, more_files) (of_xorbs, more_xorbs) =
          let key : keyed_options here.info.metadata.chunk_hash_hmac_key ≡ keyed_options whole.options.key =
          ap (λ (i : MDBShardInfo). keyed_options i.metadata.chunk_hash_hmac_key) (only_info bytes here.info info here.ends ends) ∙ ap (λ o. keyed_options o.key) (sym options_are) in (
            λ i. record { files = sym of_files i; xorbs = sym of_xorbs i; options = (here.options_are ∙ key) i },
            each_is ranges cs on more_files more_xorbs,
          )

    module _ (cuts : List DataHash) (parts : List Content) (are_cuts : AreCuts None cuts None) (all : AllOpen (ranges_between None cuts None) parts) where
      abbrev all_cut : List HashRange
      all_cut = ranges_between None cuts None

      abbrev whole : Content
      whole = record { files = all_of file_records (files_in parts); xorbs = all_of xorb_records (xorbs_in parts); options = options_of info }

      opens_whole : Opens bytes whole
      opens_whole = record {
        info = info;
        ends = ends;
        lists = record {
          files = whole_section (files_of info) (files_laws (version_of info.header.version)) (files_at bytes info) (file_table bytes info) (last_file_row info) cuts (files_in parts) are_cuts (have_files all_cut parts all);
          xorbs = whole_section xorb_records xorb_laws (xorbs_at bytes info) (xorb_table bytes info) (last_xorb_row info) cuts (xorbs_in parts) are_cuts (have_xorbs all_cut parts all);
        };
        options_are = refl;
      }

      pub parts_of_one : (c : Content) × Opens bytes c × AllZip (λ range part. part ≡ with_all_tables (content_within range c)) all_cut parts
      parts_of_one = (
        whole,
        opens_whole,
        each_is whole refl all_cut parts all
            (are_parts (files_of info) (files_laws (version_of info.header.version)) (files_at bytes info) (file_table bytes info) (last_file_row info) cuts (files_in parts) are_cuts (have_files all_cut parts all))
            (are_parts xorb_records xorb_laws (xorbs_at bytes info) (xorb_table bytes info) (last_xorb_row info) cuts (xorbs_in parts) are_cuts (have_xorbs all_cut parts all)),
      )

  -- header and footer are those of the first part
  pub tables_lose_no_record : (cuts : List DataHash) (parts : List Content) → AreCuts None cuts None → AllOpen (ranges_between None cuts None) parts
      → (whole : Content) × Opens bytes whole × AllZip (λ range part. part ≡ with_all_tables (content_within range whole)) (ranges_between None cuts None) parts
  tables_lose_no_record [] [] are_cuts all = absurd all
  tables_lose_no_record [] (c ∷ cs) are_cuts (here, on) = parts_of_one here.info here.ends [] (c ∷ cs) are_cuts (here, on)
  tables_lose_no_record (k ∷ ks) [] are_cuts all = absurd all
  tables_lose_no_record (k ∷ ks) (c ∷ cs) are_cuts (here, on) = parts_of_one here.info here.ends (k ∷ ks) (c ∷ cs) are_cuts (here, on)
