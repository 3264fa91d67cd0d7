-- The records of a range of hashes that bytes have in the rows that their lookup tables name.
use Rattle.std.specs.Prelude.{◌≡◌, ◌⊎◌, ℕ, ◌+◌, ◌*◌, ◌<◌, ◌≤◌, true, List, map, drop, All, Option, None, IfSome}
use Rattle.std.specs.declared.cmp.Ordering.TheVariants.{Less}
use Rattle.xet_base.specs.declared.error.CoreError.{CoreError}
use Rattle.xet_base.specs.declared.error.CoreError.TheVariants.{InvalidArguments, OutOfMemory}
use Rattle.xet_base.specs.declared.merklehash.DataHash.{DataHash}
use Rattle.xet_base.specs.Hash.{hash_cmp}
use Rattle.xet_records.specs.FileRecord.{file_records}
use Rattle.xet_records.specs.Limits.{MAX_ROWS}
use Rattle.xet_records.specs.Reading.{BeginsWithBookend}
use Rattle.xet_records.specs.RecordKind.{RecordKind}
use Rattle.xet_records.specs.XorbRecord.{xorb_records}
use Rattle.xet_shards.specs.declared.shard_format.ends.info.MDBShardInfo.{MDBShardInfo}
use Rattle.xet_shards.specs.Ends.Ends.{HasHeaderAndFooter}
use Rattle.xet_shards.specs.Read.SectionReading.{files_of, HoldsRecords}
use Rattle.xet_shards.specs.Write.Section.{total_rows}
use Rattle.xet_shards.specs.Write.Tables.{hash_in, table_bytes}
use Rattle.xet_shards.specs.Write.WithOptions.{Ascends}
use Rattle.xet_core_structures.specs.Records.ShardContents.{files_at, xorbs_at}
use Rattle.xet_core_structures.specs.TwoShards.ByteResults.{keyed_options, key_of, LoadRefusal}
use Rattle.placed_shards.specs.declared.range.HashRange.{HashRange}
use Rattle.placed_shards.specs.Content.{Content}
use Rattle.placed_shards.specs.Ranges.{is_from, is_within}
use Rattle.placed_shards.specs.RangeRows.{first_row, end_row, file_table, xorb_table, last_file_row, last_xorb_row}

module _ {H R : Type 0} (K : RecordKind H R) (range : HashRange) (section : List ℕ) where
  -- a section has these records of a range, as reading returns them, in its rows from `first` on
  -- and before `end`: whole records, whose hashes strictly ascend. A range without a lower bound
  -- starts at row 0, and one without an upper bound ends at the bookend
  pub record HasInRows (first end : ℕ) (found : List R) : Type 0 where
    pub stored : List R
    -- the bytes behind them
    pub rest : List ℕ
    pub records : HoldsRecords K (drop (48 * first) section) stored rest
    pub returned : map K.as_read stored ≡ found
    pub ascends : Ascends K found
    pub within : All (λ r. is_within range (hash_in K r) ≡ true) found
    pub rows : first + total_rows K found ≡ end
    pub fits : end ≤ MAX_ROWS
    pub starts : range.from ≡ None → first ≡ 0
    pub ends : range.to ≡ None → BeginsWithBookend K rest

  -- a section has these records of a range in the rows that a table names for it
  abbrev pub HasByTable : (table : List ℕ) → (last : ℕ) → List R → Type 0
  HasByTable table last found =
      HasInRows (first_row table last range.from) (end_row table last range.to) found

-- a table is that of the records of a section, and this is the row behind them
pub record IsTableOf {H R : Type 0} (K : RecordKind H R) (records : List R) (table : List ℕ)
    (last : ℕ) : Type 0 where
  pub rows : table ≡ table_bytes K records
  pub last_is : last ≡ total_rows K records

-- no record below a bound, if there is one, has its first word
abbrev pub IsCutByWord : {H R : Type 0} → RecordKind H R → Option DataHash → List R → Type 0
IsCutByWord K bound records =
    IfSome bound (λ k. All (λ r. hash_cmp (hash_in K r) k ≡ Less → (hash_in K r).word0 < k.word0)
    records)

-- bytes have these records of a range in the rows that their tables name for it; the options are
-- those with all tables, their key, creation 0 and no expiry
pub record OpensByTables (range : HashRange) (bytes : List ℕ) (c : Content) : Type 0 where
  pub info : MDBShardInfo
  pub ends : HasHeaderAndFooter bytes info
  pub files : HasByTable (files_of info) range (files_at bytes info) (file_table bytes info)
      (last_file_row info) c.files
  pub xorbs : HasByTable xorb_records range (xorbs_at bytes info) (xorb_table bytes info)
      (last_xorb_row info) c.xorbs
  pub options_are : c.options ≡ keyed_options (key_of info)

-- why the records of a range are not opened by tables: an allocation failed, header and footer are
-- not read, or in these rows there are no such records
abbrev pub ByTablesRefusal : HashRange → List ℕ → CoreError → Type 0
ByTablesRefusal range bytes e =
    (e ≡ OutOfMemory) ⊎ LoadRefusal bytes e
    ⊎ ((e ≡ InvalidArguments) × ((c : Content) → ¬ OpensByTables range bytes c))

-- bytes have the tables of these records
pub record HasOwnTables (bytes : List ℕ) (info : MDBShardInfo) (c : Content) : Type 0 where
  pub files : IsTableOf file_records c.files (file_table bytes info) (last_file_row info)
  pub xorbs : IsTableOf xorb_records c.xorbs (xorb_table bytes info) (last_xorb_row info)

-- the end of a range is not below its start, and no record below either of them has its first word
pub record IsCutByWords (range : HashRange) (c : Content) : Type 0 where
  pub order : IfSome range.to (λ k. is_from range.from k ≡ true)
  pub files : IsCutByWord file_records range.from c.files
      × IsCutByWord file_records range.to c.files
  pub xorbs : IsCutByWord xorb_records range.from c.xorbs
      × IsCutByWord xorb_records range.to c.xorbs
