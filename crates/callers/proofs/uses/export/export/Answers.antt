use Rattle.std.proofs.Common.{◌≡◌, ◌+◌, ◌^◌, ◌≤◌, ◌++◌, true, Some, sym, ap, ◌∙◌, subst, arith}
use Rattle.std.specs.FinMap.{values}
use Rattle.xet_base.specs.MemorySource.{in_memory}
use Rattle.xet_core_structures.specs.Hash.{IsHash}
use Rattle.xet_core_structures.specs.KeyedExport.{exported_bytes, export_options}
use Rattle.xet_core_structures.specs.Source.{bytes_left}
use Rattle.xet_core_structures.specs.View.{all_with_aux_if}
use Rattle.xet_core_structures.specs.WrittenShard.{IsBytesOf}
use Rattle.callers.proofs.Callers.{exported_of}
use Rattle.callers.proofs.uses.export.export.Goals as goal

pub returns-clause-made : goal.returns-clause-made
returns-clause-made c s is =
    let e = c.in_ok-export_as_keyed_shard_streaming.ensures in
    let now = c.args.now in
    let valid = c.args.valid_seconds in
    let options = export_options c.args.key now valid true true true in
    let hash : IsHash c.args.key = record { word0 = omega arith; word1 = omega arith; word2 = omega arith; word3 = omega arith } in
    let in_time : ¬ (2 ^ 64 ≤ now + valid) = λ late. (e.untouched late).0 in
    let left : bytes_left (in_memory c.new-source.result) ≡ c.args.shard.now = ap bytes_left c.new-source.ensures in
    exported_of s c.args.key now valid c.export_as_keyed_shard_streaming.new.writer.items hash (omega arith) (omega (arith, in_time))
    (c.exports_merge_to_the_export_of_the_join.ensures.exports true s options (in_memory c.new-source.result) (in_memory c.export_as_keyed_shard_streaming.new.source)
    (Some c.new-bytes.result.items) (Some c.export_as_keyed_shard_streaming.new.writer.items) c.in_ok-export_as_keyed_shard_streaming.field-0 (subst (IsBytesOf s) (sym left) is) e.written
    ∙ ap (λ zs. zs ++ exported_bytes (all_with_aux_if true (values s.files)) (values s.xorbs) options) c.new-bytes.ensures.items)
