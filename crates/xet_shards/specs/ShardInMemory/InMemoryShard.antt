-- The fields of a shard in memory.
use Rattle.std.specs.Prelude.{◌≡◌, ◌≤◌}
use Rattle.std.specs.FinMap.{values}
use Rattle.xet_records.specs.FileRecord.{file_records}
use Rattle.xet_records.specs.XorbRecord.{xorb_records}
use Rattle.xet_shards.specs.declared.shard_in_memory.MDBInMemoryShard.TheInside.{Inside}
use Rattle.xet_shards.specs.ShardInMemory.ChunkLookup.{ShardWithLookup}
use Rattle.xet_shards.specs.Write.Section.{total_rows}
use Rattle.xet_records.specs.Limits.{MAX_ROWS}

-- the shard that the fields hold: its files, its xorbs and its chunk lookup
abbrev pub shard_inside : Inside → ShardWithLookup
shard_inside s =
    record
    { content = record { files = s.files; xorbs = s.xorbs.xorbs }; locations = s.xorbs.locations }

-- the rows are those of the stores, and fit `u32`
pub record IsCounted (s : Inside) : Type 0 where
  pub file_rows : s.file_rows ≡ total_rows file_records (values s.files)
  pub few_file_rows : s.file_rows ≤ MAX_ROWS
  pub xorb_rows : s.xorb_rows ≡ total_rows xorb_records (values s.xorbs.xorbs)
  pub few_xorb_rows : s.xorb_rows ≤ MAX_ROWS
