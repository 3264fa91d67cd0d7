-- Steps towards what `MinimalShard` defines, which only contracts inside the crate speak of.
use Rattle.std.specs.Prelude.{◌≡◌, false}
use Rattle.xet_shards.specs.Write.Layout.{LayoutOptions}

-- layout options without tables
abbrev pub HasNoTables : LayoutOptions → Type 0
HasNoTables options =
    (options.file_table ≡ false) × (options.xorb_table ≡ false) × (options.chunk_table ≡ false)
