-- Trees of unions over exports of shards, with auxiliary rows or without, write such an export of the shards' join.
use Rattle.std.proofs.Common.{◌≡◌, ℕ, ◌+◌, Bool, true, false, List, [], ◌++◌, length, map, Some, sym, ap, ◌∙◌, subst}
use Rattle.std.specs.Prelude.{All}
use Rattle.std.specs.FinMap.{values}
use Rattle.std.proofs.lemmas.Option.{same_Some}
use Rattle.xet_base.specs.declared.error.CoreError.{CoreError}
use Rattle.xet_base.specs.declared.merklehash.DataHash.{DataHash}
use Rattle.xet_base.specs.Bytes.{u64_bytes}
use Rattle.xet_base.specs.Source.{Source, bytes_left}
use Rattle.xet_records.specs.View.{without_aux, all_with_aux_if}
use Rattle.xet_shards.specs.declared.shard_format.ends.options.LayoutOptions.{LayoutOptions}
use Rattle.xet_shards.specs.Export.KeyedExport.{exported_bytes, ExportsWith, export_options}
use Rattle.xet_shards.specs.Content.KeyedShards.{keyed_shard}
use Rattle.xet_shards.specs.Content.Shard.{Shard, IsShard}
use Rattle.xet_shards.specs.Content.ShardsWithoutAux.{shard_without_aux}
use Rattle.xet_shards.specs.Write.WrittenShard.{HasFilesIn, IsBytesOf}
use Rattle.xet_shards.proofs.Ends.EndsUnique.{bytes_without_expiry}
use Rattle.xet_shards.proofs.Content.ShardsWithoutAux.{values-without_aux, without_aux-is_shard, without_aux-agree, without_aux-join}
use Rattle.xet_core_structures.specs.declared.set_operations.MergePlan.{MergePlan}
use Rattle.xet_core_structures.specs.Trees.ExportTrees.{shard_with_aux_if, IsExportOf, IsExportedAt, IsMergeOfExports}
use Rattle.xet_core_structures.specs.Records.ShardContents.{HoldsShard}
use Rattle.xet_core_structures.specs.Trees.MergeTrees.{leaves, TreeWrites, TreeRefusal, InputIs, IsMergeOfWritten, MergeRefused}
use Rattle.xet_core_structures.proofs.LawProofs.ExportTrees.{export_held, export_of_join, export_of_bytes, exports_refused, before_timestamps, after_timestamps, split_at_timestamps, after_timestamps_size}
use Rattle.xet_core_structures.proofs.Trees.MappedJoins.{PreservesJoins, mapped_merge}
use Rattle.xet_core_structures.proofs.Trees.MergeTrees.{one_layout, merge_of_written}
use Rattle.xet_shards.proofs.Read.Zipped.{zipped_and}

-- an export of a shard without auxiliary rows is the export of the shard that has none
exported_bytes-without_aux : (s : Shard) (options : LayoutOptions)
    → exported_bytes (map without_aux (values s.files)) (values s.xorbs) options ≡ exported_bytes (values (shard_without_aux s).files) (values (shard_without_aux s).xorbs) options
exported_bytes-without_aux s options = ap (λ files. exported_bytes files (values s.xorbs) options) (sym (values-without_aux s))

-- exports of a shard with all tables under one key differ in their timestamps alone
pub timestamps_differ : (aux : Bool) (s : Shard) (key : DataHash)
    → (before after : List ℕ) × (length after ≡ 80)
    × ((now valid : ℕ) → exported_bytes (all_with_aux_if aux (values s.files)) (values s.xorbs) (export_options key now valid true true true)
    ≡ before ++ u64_bytes now ++ u64_bytes (now + valid) ++ after)
timestamps_differ aux s key =
    let files = all_with_aux_if aux (values s.files) in
    let xorbs = values s.xorbs in
    (before_timestamps files xorbs key, after_timestamps files xorbs key, after_timestamps_size files xorbs key, split_at_timestamps files xorbs key)

aux_passes : PreservesJoins shard_without_aux
aux_passes = record { shards = without_aux-is_shard; agree = without_aux-agree; join = without_aux-join }

export_without_aux : (key : DataHash) (s : Shard) (bytes : List ℕ) → IsShard s → IsExportOf false key s bytes → IsExportOf true key (shard_without_aux s) bytes
export_without_aux key s bytes shard export = record { options = export.options; is_form = export.is_form; files = export.files; bytes_are = export.bytes_are ∙ exported_bytes-without_aux s export.options }

-- an export holds the shard under the key
pub any_export_held : (aux : Bool) (key : DataHash) (s : Shard) (bytes : List ℕ) → IsShard s → IsExportOf aux key s bytes → HoldsShard key (keyed_shard key (shard_with_aux_if aux s)) bytes
any_export_held true key s bytes shard export = export_held key s bytes shard export
any_export_held false key s bytes shard export = export_held key (shard_without_aux s) bytes (without_aux-is_shard s shard) (export_without_aux key s bytes shard export)

module _ (key : DataHash) (inputs : List (List ℕ)) (plan : MergePlan) (shards : List Shard) (join : Shard) where
  merge_without_aux : IsMergeOfExports false key inputs plan shards join → IsMergeOfExports true key inputs plan (map shard_without_aux shards) (shard_without_aux join)
  merge_without_aux merge = mapped_merge shard_without_aux aux_passes (IsExportOf false key) (IsExportOf true key) (export_without_aux key) inputs plan shards join merge

  pub tree_of_exports_with : (aux : Bool) (out : List ℕ) → IsMergeOfExports aux key inputs plan shards join → TreeWrites inputs plan out
      → out ≡ exported_bytes (all_with_aux_if aux (values join.files)) (values join.xorbs) (export_options key 0 18446744073709551615 true true true)
  tree_of_exports_with true out merge writes = export_of_join key inputs plan shards join merge out writes
  tree_of_exports_with false out merge writes =
      export_of_join key inputs plan (map shard_without_aux shards) (shard_without_aux join) (merge_without_aux merge) out writes
      ∙ sym (exported_bytes-without_aux join (export_options key 0 18446744073709551615 true true true))

  pub refused_with : (aux : Bool) (e : CoreError) → IsMergeOfExports aux key inputs plan shards join → TreeRefusal inputs plan e → MergeRefused (shard_with_aux_if aux join) e
  refused_with true e merge refusal = exports_refused key inputs plan shards join merge e refusal
  refused_with false e merge refusal = exports_refused key inputs plan (map shard_without_aux shards) (shard_without_aux join) (merge_without_aux merge) e refusal

-- what an export of the input at a leaf wrote
leaf_exported : (aux : Bool) (key : DataHash) (inputs outs : List (List ℕ)) (i : ℕ) (s : Shard) → IsExportedAt aux key inputs outs i → InputIs inputs (IsBytesOf s) i → InputIs outs (IsExportOf aux key s) i
leaf_exported aux key inputs outs i s this (bytes, at, is) =
    let here = subst (IsBytesOf s) (same_Some bytes (bytes_left this.old) (sym at ∙ this.input)) is in (
      this.out,
      this.written,
      record {
        options = this.options;
        is_form = this.is_form;
        files = subst (λ v. HasFilesIn v (shard_with_aux_if aux s)) (sym this.version) tt;
        bytes_are = export_of_bytes aux s this.options this.old this.new (Some []) (Some this.out) this.size here this.export;
      },
    )

-- merging and exporting can be exchanged but for the timestamps
module _ (aux : Bool) (key : DataHash) (inputs outs : List (List ℕ)) (plan : MergePlan) (shards : List Shard) (join : Shard) (merge : IsMergeOfWritten inputs plan shards join)
    (exported_at : All (IsExportedAt aux key inputs outs) (leaves plan)) where
  exports_merge : IsMergeOfExports aux key outs plan shards join
  exports_merge = record {
    union = merge.union;
    inputs_are = zipped_and (IsExportedAt aux key inputs outs) (λ i s. InputIs inputs (IsBytesOf s) i) (λ i s. InputIs outs (IsExportOf aux key s) i) (leaf_exported aux key inputs outs) (leaves plan) shards exported_at merge.inputs_are;
    agree = merge.agree;
    is_join = merge.is_join;
  }

  pub exports_exchange : (out bytes : List ℕ) (now valid size : ℕ) (old new : Source) → TreeWrites inputs plan (bytes_left old)
      → ExportsWith aux (export_options key now valid true true true) old new (Some []) (Some bytes) size → TreeWrites outs plan out
      → (before after : List ℕ) × (length after ≡ 80) × (bytes ≡ before ++ u64_bytes now ++ u64_bytes (now + valid) ++ after)
      × (out ≡ before ++ u64_bytes 0 ++ u64_bytes 18446744073709551615 ++ after)
  exports_exchange out bytes now valid size old new unites exports writes =
      let joined = bytes_without_expiry (one_layout inputs plan shards join (merge_of_written inputs plan shards join merge) (bytes_left old) unites) in
      let whole = export_of_bytes aux join (export_options key now valid true true true) old new (Some []) (Some bytes) size joined exports in
      let differ = timestamps_differ aux join key in (
        differ.0,
        differ.1,
        differ.2,
        whole ∙ differ.3 now valid,
        tree_of_exports_with key outs plan shards join aux out exports_merge writes ∙ differ.3 0 18446744073709551615,
      )
