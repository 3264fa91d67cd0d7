use Rattle.std.proofs.Common.{length, ◌-◌, ◌≡◌, ◌≤◌, ◌++◌, map, take, drop}
use Rattle.xet_shards.specs.Export.KeyedExport.{keyed_chunk}
use Rattle.xet_shards.proofs.shard_format.export.keyed_chunks.key_chunks.Given as goal

abbrev pub invariant-loop-done : goal.invariant-loop-done
invariant-loop-done l = record {
  within : l.done ≤ length l.initial.chunks;
  keyed : l.chunks ≡ map (keyed_chunk l.key) (take l.done l.initial.chunks) ++ drop l.done l.initial.chunks;
}

abbrev pub decreases-loop-done : goal.decreases-loop-done
decreases-loop-done l = length l.initial.chunks - l.done
