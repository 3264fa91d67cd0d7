-- The bytes of the end of a shard that is made and not yet written.
use Rattle.std.specs.Prelude.{ℕ, List, ◌++◌, flat_map}
use Rattle.xet_shards.specs.declared.shard_format.write.shard_end.ShardEnd.{ShardEnd}
use Rattle.xet_shards.specs.Write.Layout.{shard_footer_bytes}
use Rattle.xet_shards.specs.Write.Tables.{chunk_table_row_bytes}

-- the tables, and the footer
abbrev pub end_bytes : ShardEnd → List ℕ
end_bytes end =
    ((end.file_table.now ++ end.xorb_table.items)
    ++ flat_map chunk_table_row_bytes end.chunk_rows.items)
    ++ shard_footer_bytes end.footer
