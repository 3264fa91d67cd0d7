-- What bytes have in the rows that their tables name for a range.
use Rattle.std.proofs.Common.{◌≡◌, inl, inr, Ok, Err, ℕ, ◌≤◌, List, map, subst, arith}
use Rattle.std.specs.Prelude.{MatchResult}
use Rattle.xet_base.specs.declared.error.CoreError.{CoreError}
use Rattle.xet_base.specs.Errors.{CoreResult}
use Rattle.xet_records.specs.RecordKind.{RecordKind, KindLaws}
use Rattle.xet_records.specs.declared.file_structs.MDBFileInfo.{MDBFileInfo}
use Rattle.xet_records.specs.declared.xorb_structs.MDBXorbInfo.{MDBXorbInfo}
use Rattle.xet_records.specs.XorbRecord.{xorb_records}
use Rattle.xet_shards.specs.declared.shard_format.ends.info.MDBShardInfo.{MDBShardInfo}
use Rattle.xet_shards.specs.Ends.Ends.{HasHeaderAndFooter}
use Rattle.xet_shards.specs.Read.SectionReading.{files_of}
use Rattle.xet_shards.specs.Write.Section.{total_rows}
use Rattle.xet_shards.proofs.Ends.EndsUnique.{only_info}
use Rattle.xet_core_structures.specs.Records.ShardContents.{files_at, xorbs_at}
use Rattle.xet_core_structures.specs.TwoShards.ByteResults.{keyed_options, key_of}
use Rattle.xet_core_structures.proofs.Records.ShardContents.{rows_handed}
use Rattle.placed_shards.specs.declared.range.HashRange.{HashRange}
use Rattle.placed_shards.specs.ByTables.{HasInRows, HasByTable, OpensByTables, ByTablesRefusal}
use Rattle.placed_shards.specs.Content.{Content}
use Rattle.placed_shards.specs.Steps.InRows.{NotRead}
use Rattle.placed_shards.specs.RangeRows.{first_row, end_row, file_table, xorb_table, last_file_row, last_xorb_row}

-- records in the rows that a table names are those by the table
pub by_table : {H R X : Type 0} (K : RecordKind H R) (range : HashRange) (section table : List ℕ) (last first end : ℕ) (items : X → List R) → first ≡ first_row table last range.from → end ≡ end_row table last range.to → (result : CoreResult X)
    → MatchResult result (λ records. HasInRows K range section first end (map K.as_read (items records))) (NotRead (HasInRows K range section first end))
    → MatchResult result (λ records. HasByTable K range section table last (map K.as_read (items records))) (NotRead (HasByTable K range section table last))
by_table K range section table last first end items first_is end_is (Ok records) has = subst (λ t. t) (λ i. HasInRows K range section (first_is i) (end_is i) (map K.as_read (items records))) has
by_table K range section table last first end items first_is end_is (Err e) none = subst (λ t. t) (λ i. NotRead (HasInRows K range section (first_is i) (end_is i)) e) none

-- records in the rows of a range fit a section
pub few_rows : {H R : Type 0} (K : RecordKind H R) → KindLaws K → (range : HashRange) (section table : List ℕ) (last : ℕ) (stored : List R) → HasByTable K range section table last (map K.as_read stored) → total_rows K stored ≤ 4294967295
few_rows K laws range section table last stored has = omega (arith, has.rows, has.fits, rows_handed K laws stored)

module _ (range : HashRange) (bytes : List ℕ) (info : MDBShardInfo) (ends : HasHeaderAndFooter bytes info) where
  abbrev pub HasFiles : List MDBFileInfo → Type 0
  HasFiles = HasByTable (files_of info) range (files_at bytes info) (file_table bytes info) (last_file_row info)

  abbrev pub HasXorbs : List MDBXorbInfo → Type 0
  HasXorbs = HasByTable xorb_records range (xorbs_at bytes info) (xorb_table bytes info) (last_xorb_row info)

  pub files_refused : (e : CoreError) → NotRead HasFiles e → ByTablesRefusal range bytes e
  files_refused e (inl no_memory) = inl no_memory
  files_refused e (inr (invalid, none)) = inr (inr (
    invalid,
    λ c opens.
        none c.files
        (subst (λ (i : MDBShardInfo). HasByTable (files_of i) range (files_at bytes i) (file_table bytes i) (last_file_row i) c.files) (only_info bytes opens.info info opens.ends ends) opens.files),
  ))

  pub xorbs_refused : (e : CoreError) → NotRead HasXorbs e → ByTablesRefusal range bytes e
  xorbs_refused e (inl no_memory) = inl no_memory
  xorbs_refused e (inr (invalid, none)) = inr (inr (
    invalid,
    λ c opens.
        none c.xorbs
        (subst (λ (i : MDBShardInfo). HasByTable xorb_records range (xorbs_at bytes i) (xorb_table bytes i) (last_xorb_row i) c.xorbs) (only_info bytes opens.info info opens.ends ends) opens.xorbs),
  ))

  pub opened : (c : Content) → HasFiles c.files → HasXorbs c.xorbs → c.options ≡ keyed_options (key_of info) → OpensByTables range bytes c
  opened c files xorbs options_are = record { info = info; ends = ends; files = files; xorbs = xorbs; options_are = options_are }
