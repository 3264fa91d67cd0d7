-- Trees of unions over exports of shards, and runs of chunks in the shards at their leaves.
use Rattle.std.specs.Prelude.{◌≡◌, ℕ, ◌^◌, ◌<◌, Bool, true, List, [], Option, Some, option_map, slice_get, if◌then◌else◌}
use Rattle.xet_records.specs.declared.record_reader.FormatVersion.TheVariants.{V3}
use Rattle.std.specs.FinMap.{get, values}
use Rattle.xet_base.specs.Source.{Source, bytes_left}
use Rattle.xet_records.specs.View.{all_with_aux_if}
use Rattle.xet_base.specs.declared.merklehash.DataHash.{DataHash}
use Rattle.xet_base.specs.Hash.{IsHash}
use Rattle.xet_records.specs.declared.file_structs.rows.FileDataSequenceEntry.{FileDataSequenceEntry}
use Rattle.xet_shards.specs.declared.shard_format.ends.options.LayoutOptions.{LayoutOptions}
use Rattle.xet_shards.specs.ShardInMemory.ChunkQuery.{run_at}
use Rattle.xet_shards.specs.Export.KeyedExport.{exported_bytes, ExportsWith}
use Rattle.xet_shards.specs.Content.Shard.{Shard}
use Rattle.xet_shards.specs.Content.ShardsWithoutAux.{shard_without_aux}
use Rattle.xet_shards.specs.Write.WrittenShard.{HasFilesIn}
use Rattle.xet_core_structures.specs.declared.set_operations.MergePlan.{MergePlan}
use Rattle.xet_core_structures.specs.Trees.MergeTrees.{IsMergeOf}

-- the numbers of layout options are within their widths
pub record FitsOptions (options : LayoutOptions) : Type 0 where
  pub key : IsHash options.key
  pub creation : options.creation < 2 ^ 64
  pub expiry : options.expiry < 2 ^ 64

-- the layout options of an export with files under a key, with tables and timestamps of its own
pub record IsExportOptions (key : DataHash) (options : LayoutOptions) : Type 0 where
  pub under : options.key ≡ key
  pub files : options.file_table ≡ true
  pub fits : FitsOptions options

-- a shard with its auxiliary rows or without
abbrev pub shard_with_aux_if : Bool → Shard → Shard
shard_with_aux_if aux s = if aux then s else shard_without_aux s

-- the bytes are an export of this shard under a key, with files, with auxiliary rows or without, in
-- a version that has its files
pub record IsExportOf (aux : Bool) (key : DataHash) (s : Shard) (bytes : List ℕ) : Type 0 where
  pub options : LayoutOptions
  pub is_form : IsExportOptions key options
  pub files : HasFilesIn options.version (shard_with_aux_if aux s)
  pub bytes_are : bytes ≡ exported_bytes (all_with_aux_if aux (values s.files)) (values s.xorbs) options

-- a tree with a union, over exports under one key of shards that agree, and their join
abbrev pub IsMergeOfExports : Bool → DataHash → List (List ℕ) → MergePlan → List Shard → Shard
    → Type 0
IsMergeOfExports aux key = IsMergeOf (IsExportOf aux key)

-- an export under a key, with files, with auxiliary rows or without, in version 3, of the bytes at
-- an index of one list wrote those at this index of another
pub record IsExportedAt (aux : Bool) (key : DataHash) (inputs outs : List (List ℕ)) (i : ℕ)
    : Type 0 where
  pub options : LayoutOptions
  pub is_form : IsExportOptions key options
  pub version : options.version ≡ V3
  -- the source before the export
  pub old : Source
  -- the source after the export
  pub new : Source
  -- the bytes that were written
  pub out : List ℕ
  -- how many there are
  pub size : ℕ
  pub input : slice_get inputs i ≡ Some (bytes_left old)
  pub export : ExportsWith aux options old new (Some []) (Some out) size
  pub written : slice_get outs i ≡ Some out

-- the run at an index of the xorb that a shard has under a hash, if it has one
abbrev pub run_under : DataHash → Shard → DataHash → ℕ → List DataHash
    → Option (ℕ × FileDataSequenceEntry)
run_under key s q index qs = option_map (λ xorb. run_at key (xorb, index) qs) (get s.xorbs q)
