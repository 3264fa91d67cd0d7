use Rattle.std.proofs.Common.{◌≡◌, ◌+◌, ◌≤◌, ◌++◌, map}
use Rattle.std.specs.Map.{values_of}
use Rattle.std.specs.Map.Iter.{deref_pair}
use Rattle.std.specs.FinMap.{values}
use Rattle.xet_records.specs.XorbRecord.{xorb_records}
use Rattle.xet_shards.specs.Write.Section.{total_rows}
use Rattle.xet_shards.specs.ShardInMemory.XorbStore.{shown_xorbs}
use Rattle.xet_shards.proofs.Content.Overlays.{overlay, other_xorb}
use Rattle.xet_shards.proofs.shard_in_memory.union_rows.united_xorb_rows.Given as goal

abbrev pub invariant-loop-xorb_hash : goal.invariant-loop-xorb_hash
invariant-loop-xorb_hash l = record {
  can : goal.iterator-loop-xorb_hash.can_next l.xorb_hash-iterator;
  finite : goal.iterator-loop-xorb_hash.is_finite l.xorb_hash-iterator;
  all : map deref_pair l.yielded ++ l.xorb_hash-iterator ≡ l.xorbs.entries;
  rows : l.rows ≡ total_rows xorb_records (values (overlay other_xorb (shown_xorbs (map deref_pair l.yielded)) l.other.xorbs));
  bound : l.rows ≤ 4294967295 + total_rows xorb_records (values_of (shown_xorbs (map deref_pair l.yielded)));
}
