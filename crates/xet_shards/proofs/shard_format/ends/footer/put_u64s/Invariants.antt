use Rattle.std.proofs.Common.{◌≡◌, ◌+◌, ◌*◌, take, flat_map}
use Rattle.xet_base.specs.Bytes.{u64_bytes}
use Rattle.xet_shards.specs.Write.Puts.{Puts}
use Rattle.xet_shards.proofs.shard_format.ends.footer.put_u64s.Given as goal

abbrev pub invariant-loop-value : goal.invariant-loop-value
invariant-loop-value l = record {
  size : l.end ≡ l.at + 8 * l.value-index;
  puts : Puts l.fn.out l.out l.at l.end (flat_map u64_bytes (take l.value-index l.values));
}
