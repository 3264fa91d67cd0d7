-- The fields of a file store, and what is tested of a record before it is put there.
use Rattle.std.specs.Prelude.{◌≡◌, T, List, [], ◌∷◌, All}
use Rattle.std.specs.FinMap.{is_sorted}
use Rattle.xet_base.specs.Hash.{hash_cmp}
use Rattle.xet_shards.specs.declared.shard_in_memory.file_store.FileStore.TheInside.{Inside}
use Rattle.xet_records.specs.declared.file_structs.rows.HashRow.{HashRow}
use Rattle.xet_shards.specs.Content.Shard.{AreFiles}

-- the keys ascend, each is its record's hash, and the records are well-formed
pub record IsSoundFileStore (t : Inside) : Type 0 where
  pub sorted : T (is_sorted hash_cmp t.content.entries)
  pub files : AreFiles t.content.entries

-- the reserved words of rows are zero
abbrev pub AreClear : List HashRow → Type 0
AreClear rows = All (λ row. row._unused ≡ 0 ∷ 0 ∷ []) rows
