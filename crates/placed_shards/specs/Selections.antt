-- What is opened of bytes where some of their records are selected.
use Rattle.std.specs.Prelude.{◌≡◌, ℕ, List}
use Rattle.xet_base.specs.declared.error.CoreError.{CoreError}
use Rattle.placed_shards.specs.declared.range.HashRange.{HashRange}
use Rattle.placed_shards.specs.declared.selection.Access.{Access}
use Rattle.placed_shards.specs.declared.selection.Access.TheVariants.{Scan, Tables}
use Rattle.placed_shards.specs.declared.selection.Selection.{Selection}
use Rattle.placed_shards.specs.ByTables.{OpensByTables, ByTablesRefusal}
use Rattle.placed_shards.specs.Content.{Content, content_within, with_all_tables}
use Rattle.placed_shards.specs.Opening.{Opens, ShardRefusal}
use Rattle.placed_shards.specs.Ranges.{all_hashes}

-- the records in a range, found by a scan
abbrev pub by_scan : HashRange → Selection
by_scan range = record { range = range; access = Scan }

-- and by tables
abbrev pub by_tables : HashRange → Selection
by_tables range = record { range = range; access = Tables }

-- all records, found by a scan
abbrev pub all_records : Selection
all_records = by_scan all_hashes

-- bytes hold a shard, of which these are the records in a range, with all tables, its key, creation
-- 0 and no expiry
abbrev pub OpensWithin : HashRange → List ℕ → Content → Type 0
OpensWithin range x c =
    (whole : Content) × Opens x whole × (c ≡ with_all_tables (content_within range whole))

-- bytes have these records in a range, as they are found
abbrev pub OpensBy : Access → HashRange → List ℕ → Content → Type 0
OpensBy Scan = OpensWithin
OpensBy Tables = OpensByTables

-- bytes have these records that are selected
abbrev pub OpensSelected : Selection → List ℕ → Content → Type 0
OpensSelected selection = OpensBy selection.access selection.range

-- why none are found in a range
abbrev pub RefusalBy : Access → HashRange → List ℕ → CoreError → Type 0
RefusalBy Scan range = ShardRefusal
RefusalBy Tables range = ByTablesRefusal range

-- why bytes do not have the records that are selected
abbrev pub SelectedRefusal : Selection → List ℕ → CoreError → Type 0
SelectedRefusal selection = RefusalBy selection.access selection.range
