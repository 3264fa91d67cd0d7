use Rattle.std.proofs.Common.{length, ◌-◌, ◌≡◌, ◌*◌, ◌≤◌, take}
use Rattle.xet_records.specs.XorbRecord.{total_bytes}
use Rattle.mdb_garbage.specs.Garbage.{StartsAdd}
use Rattle.mdb_garbage.proofs.misfit.start_misfit.Given as goal

abbrev pub invariant-loop-index : goal.invariant-loop-index
invariant-loop-index l = record {
  sum : l.sum ≡ total_bytes (take l.index l.chunks);
  bound : l.sum ≤ 4294967295 * l.index;
  starts : StartsAdd l.chunks l.index;
}

abbrev pub decreases-loop-index : goal.decreases-loop-index
decreases-loop-index l = length l.chunks - l.index
