use Rattle.std.proofs.Common.{◌≡◌, ◌+◌, ◌≤◌, ◌++◌, map}
use Rattle.std.specs.Map.{values_of}
use Rattle.std.specs.Map.Iter.{deref_pair}
use Rattle.std.specs.FinMap.{values}
use Rattle.xet_records.specs.Merging.{merged_file}
use Rattle.xet_records.specs.FileRecord.{file_records}
use Rattle.xet_shards.specs.Write.Section.{total_rows}
use Rattle.xet_shards.proofs.ShardInMemory.FileUnions.{CanJoinEntries}
use Rattle.xet_shards.proofs.Content.Overlays.{overlay}
use Rattle.xet_shards.proofs.shard_in_memory.union_rows.united_file_rows.Given as goal

abbrev pub invariant-loop-file_hash : goal.invariant-loop-file_hash
invariant-loop-file_hash l = record {
  can : goal.iterator-loop-file_hash.can_next l.file_hash-iterator;
  finite : goal.iterator-loop-file_hash.is_finite l.file_hash-iterator;
  all : map deref_pair l.yielded ++ l.file_hash-iterator ≡ l.files.entries;
  rows : l.rows ≡ total_rows file_records (values (overlay merged_file (map deref_pair l.yielded) l.other));
  joins : CanJoinEntries (map deref_pair l.yielded) l.other;
  bound : l.rows ≤ 4294967295 + total_rows file_records (values_of (map deref_pair l.yielded));
}
