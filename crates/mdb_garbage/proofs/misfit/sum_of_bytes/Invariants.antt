use Rattle.std.proofs.Common.{◌≡◌, ◌*◌, ◌≤◌, take}
use Rattle.xet_records.specs.XorbRecord.{total_bytes}
use Rattle.mdb_garbage.proofs.misfit.sum_of_bytes.Given as goal

abbrev pub invariant-loop-chunk : goal.invariant-loop-chunk
invariant-loop-chunk l = record {
  sum : l.sum ≡ total_bytes (take l.chunk-index l.chunks);
  bound : l.sum ≤ 4294967295 * l.chunk-index;
}
