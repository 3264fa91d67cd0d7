use Rattle.std.proofs.Common.{◌≡◌, ◌++◌, map, flat_map}
use Rattle.std.specs.BTreeMap.{values}
use Rattle.std.specs.Map.Iter.{deref}
use Rattle.std.specs.Io.KnownBytes.{Appends}
use Rattle.xet_shards.proofs.shard_format.write.writer.write_values.Given as goal

abbrev pub invariant-loop-value : goal.invariant-loop-value
invariant-loop-value g l = record {
  can : (goal.iterator-loop-value g).can_next l.value-iterator;
  finite : (goal.iterator-loop-value g).is_finite l.value-iterator;
  all : map deref l.yielded ++ l.value-iterator ≡ values l.records;
  written : g.S.WrittenSection.has_written l.written (map g.V.HoldsRecord.held (map deref l.yielded));
  bytes : Appends (g.W.Write.contents l.initial.writer) (g.W.Write.contents l.writer)
      (flat_map g.S.Record.SectionRecord.kind.record_bytes (map g.V.HoldsRecord.held (map deref l.yielded)));
}
