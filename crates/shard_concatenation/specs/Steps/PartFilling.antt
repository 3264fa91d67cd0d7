-- Steps towards concatenation to a slice, which only contracts inside the crate speak of.
use Rattle.std.specs.Prelude.{◌≡◌, ℕ, List, ◌++◌, All, None, map, flat_map, take}
use Rattle.xet_shards.specs.declared.shard_format.ends.info.MDBShardInfo.{MDBShardInfo}
use Rattle.shard_concatenation.specs.declared.chunk_merging.Cursor.{Cursor}
use Rattle.shard_concatenation.specs.declared.concatenate.EndBytes.{EndBytes}
use Rattle.shard_concatenation.specs.declared.table_merge.TableMerge.{TableMerge}
use Rattle.shard_concatenation.specs.declared.table_merge.TableMerge.TheVariants.{Few, Many}
use Rattle.shard_concatenation.specs.Steps.ChunkMerging.{HoldsRows, rows_held, HoldFew, HaveLeft}
use Rattle.xet_shards.specs.Write.Layout.{shard_header_bytes, shard_footer_bytes}
use Rattle.xet_shards.specs.declared.shard_format.write.xorb_writer.ChunkTableRow.{ChunkTableRow}

-- bytes were put at an offset, up to another, behind what stands before it
abbrev pub Puts : (old new : List ℕ) (at end : ℕ) → List ℕ → Type 0
Puts old new at end bytes = take end new ≡ take at old ++ bytes

-- these are the bytes of the header and of the footer
pub record HasBothEnds (info : MDBShardInfo) (ends : EndBytes) : Type 0 where
  pub header : ends.header.items ≡ shard_header_bytes info.header
  pub footer : ends.footer.items ≡ shard_footer_bytes info.metadata

-- where tables have whole rows that ascend, these rows are left
abbrev pub HoldAll : List Cursor → TableMerge → Type 0
HoldAll cursors (Few heads) =
    (held : List (Cursor × List ChunkTableRow)) → map (λ h. h.0) held ≡ cursors → All HoldsRows held → HoldFew (flat_map rows_held held) heads.items
HoldAll cursors (Many merged) =
    (merged.last ≡ None)
    × ((held : List (Cursor × List ChunkTableRow)) → map (λ h. h.0) held ≡ cursors → All HoldsRows held → HaveLeft (flat_map rows_held held) merged)
