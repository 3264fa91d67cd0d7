-- What bytes have of a range by their tables is one list of files and one of xorbs, whose rows are in the
-- bytes.
use Rattle.std.proofs.Common.{◌≡◌, ℕ, ◌+◌, ◌-◌, ◌*◌, ◌≤◌, List, [], ◌∷◌, length, map, flat_map, drop, Option, None, Some, refl, sym, ap, ◌∙◌, subst, arith}
use Rattle.std.proofs.lemmas.List.{length-append, length-drop}
use Rattle.xet_base.specs.declared.merklehash.DataHash.{DataHash}
use Rattle.xet_records.specs.FileRecord.{file_records}
use Rattle.xet_records.specs.RecordKind.{RecordKind, KindLaws}
use Rattle.xet_records.specs.Version.{version_of}
use Rattle.xet_records.specs.XorbRecord.{xorb_records}
use Rattle.xet_records.proofs.Lengths.{length-all_record_bytes}
use Rattle.xet_records.proofs.RecordKinds.{xorb_laws, length-record_bytes}
use Rattle.xet_shards.specs.declared.shard_format.ends.info.MDBShardInfo.{MDBShardInfo}
use Rattle.xet_shards.specs.Read.SectionReading.{files_of}
use Rattle.xet_shards.specs.Write.Section.{total_rows}
use Rattle.xet_shards.specs.Write.Tables.{hash_in}
use Rattle.xet_shards.proofs.Ends.EndsUnique.{only_info}
use Rattle.xet_shards.proofs.Write.Sections.{files_laws}
use Rattle.xet_core_structures.specs.Records.ShardContents.{files_at, xorbs_at}
use Rattle.xet_core_structures.specs.TwoShards.ByteResults.{keyed_options, key_of}
use Rattle.xet_core_structures.proofs.Records.ShardContents.{rows_handed}
use Rattle.placed_shards.specs.declared.range.HashRange.{HashRange}
use Rattle.placed_shards.specs.ByTables.{HasInRows, HasByTable, OpensByTables}
use Rattle.placed_shards.specs.Content.{Content}
use Rattle.placed_shards.specs.Steps.InRows.{RowsFollow}
use Rattle.placed_shards.specs.RangeRows.{first_row, end_row, file_table, xorb_table, last_file_row, last_xorb_row}
use Rattle.placed_shards.proofs.InRows.{one_taken, rows_follow}

module _ {H R : Type 0} (K : RecordKind H R) (laws : KindLaws K) (range : HashRange) where
  -- one list of records follows in so many rows
  one_follows : (before : Option DataHash) (left : ℕ) (bytes : List ℕ) (rs ss : List R) → RowsFollow K range before left bytes rs → RowsFollow K range before left bytes ss → rs ≡ ss
  one_follows before left bytes [] [] one other = refl
  one_follows before left bytes [] (s ∷ ss) one (after, rest, next, follow) = absurd (omega (arith, one, next.taken.rows, laws.rows s next.taken.stored))
  one_follows before left bytes (r ∷ rs) [] (after, rest, next, follow) other = absurd (omega (arith, other, next.taken.rows, laws.rows r next.taken.stored))
  one_follows before left bytes (r ∷ rs) (s ∷ ss) (after, rest, next, follow) (n, behind, also, on) =
      let same = one_taken K laws range left after n bytes r s rest behind next.taken also.taken in
      let left_is : n ≡ after = omega (arith, next.taken.rows, also.taken.rows, ap K.row_count same.0) in
      let there : RowsFollow K range (Some (hash_in K r)) after rest ss = subst (λ t. t) (λ i. RowsFollow K range (Some (hash_in K (same.0 i))) (left_is i) (same.1 i) ss) on in
      λ i. sym same.0 i ∷ one_follows (Some (hash_in K r)) after rest rs ss follow there i

  module _ (section : List ℕ) (first end : ℕ) where
    pub one_in_rows : (found other : List R) → HasInRows K range section first end found → HasInRows K range section first end other → found ≡ other
    one_in_rows found other has also =
        let left_is : first + (end - first) ≡ end = omega (arith, has.rows) in
        sym has.returned
        ∙ ap (map K.as_read) (one_follows None (end - first) (drop (48 * first) section) has.stored also.stored (rows_follow K laws range section first end found has (end - first) left_is)
        (rows_follow K laws range section first end other also (end - first) left_is))
        ∙ also.returned

  -- the bytes of the rows are there
  pub rows_within : (at : ℕ) (bytes : List ℕ) (first end : ℕ) (found : List R) → HasInRows K range (drop at bytes) first end found → 48 * total_rows K found ≤ length bytes
  rows_within at bytes first end found has =
      omega (
        arith,
        length-drop at bytes,
        length-drop (48 * first) (drop at bytes),
        ap length has.records.bytes_are,
        length-append (flat_map K.record_bytes has.stored) has.rest,
        length-all_record_bytes K.record_bytes K.row_count K.IsStored (length-record_bytes K laws) has.stored has.records.are_stored,
        rows_handed K laws has.stored,
        ap (total_rows K) has.returned,
      )

module _ (range : HashRange) (bytes : List ℕ) where
  pub one_by_tables : (c d : Content) → OpensByTables range bytes c → OpensByTables range bytes d → c ≡ d
  one_by_tables c d one other =
      let info = one.info in
      let same : other.info ≡ info = only_info bytes other.info info other.ends one.ends in
      let files = one_in_rows (files_of info) (files_laws (version_of info.header.version)) range (files_at bytes info) (first_row (file_table bytes info) (last_file_row info) range.from)
      (end_row (file_table bytes info) (last_file_row info) range.to) c.files d.files one.files
      (subst (λ (i : MDBShardInfo). HasByTable (files_of i) range (files_at bytes i) (file_table bytes i) (last_file_row i) d.files) same other.files) in
      let xorbs = one_in_rows xorb_records xorb_laws range (xorbs_at bytes info) (first_row (xorb_table bytes info) (last_xorb_row info) range.from)
      (end_row (xorb_table bytes info) (last_xorb_row info) range.to) c.xorbs d.xorbs one.xorbs
      (subst (λ (i : MDBShardInfo). HasByTable xorb_records range (xorbs_at bytes i) (xorb_table bytes i) (last_xorb_row i) d.xorbs) same other.xorbs) in
      λ i. record { files = files i; xorbs = xorbs i; options = (one.options_are ∙ ap (λ (j : MDBShardInfo). keyed_options (key_of j)) (sym same) ∙ sym other.options_are) i }

  pub rows_by_tables : (c : Content) → OpensByTables range bytes c → 48 * (total_rows file_records c.files + total_rows xorb_records c.xorbs) ≤ 2 * length bytes
  rows_by_tables c opens =
      let info = opens.info in
      omega (
        arith,
        rows_within (files_of info) (files_laws (version_of info.header.version)) range info.metadata.file_info_offset bytes (first_row (file_table bytes info) (last_file_row info) range.from)
            (end_row (file_table bytes info) (last_file_row info) range.to) c.files opens.files,
        rows_within xorb_records xorb_laws range info.metadata.xorb_info_offset bytes (first_row (xorb_table bytes info) (last_xorb_row info) range.from)
            (end_row (xorb_table bytes info) (last_xorb_row info) range.to) c.xorbs opens.xorbs,
      )
