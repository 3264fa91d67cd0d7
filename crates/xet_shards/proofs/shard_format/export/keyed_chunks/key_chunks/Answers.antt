use Rattle.std.proofs.Common.{length, ◌-◌, drop, ◌∙◌, arith}
use Rattle.std.proofs.lemmas.List.{length-take, length-drop}
use Rattle.xet_shards.specs.Export.KeyedExport.{keyed_chunk}
use Rattle.xet_shards.proofs.Content.KeyedHashes.{part_mapped, all_mapped}
use Rattle.xet_shards.proofs.shard_format.export.keyed_chunks.key_chunks.Goals as goal

pub loop-done-preserved : goal.loop-done-preserved
loop-done-preserved c =
    let xs = c.loop-done.chunks in
    let k = c.loop-done.done in
    record {
      within = omega (arith, c.key_first-done.ensures.most, c.loop-done.auto.chunks, length-take (length xs - k) (drop k xs), length-drop k xs);
      keyed = part_mapped (keyed_chunk c.args.key) c.args.chunks.now xs c.key_first-done.new.chunks k c.key_first-done.result
          c.loop-done.invariant.keyed c.loop-done.invariant.within c.key_first-done.ensures.keyed;
    }

pub returns : goal.returns
returns c = c.loop-done.invariant.keyed ∙ all_mapped (keyed_chunk c.args.key) c.args.chunks.now c.loop-done.done (omega (arith, c.loop-done-test.false, c.loop-done.auto.chunks))
