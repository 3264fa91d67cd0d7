use Rattle.std.proofs.Common.{ap, arith}
use Rattle.xet_records.specs.FileRecord.{file_records}
use Rattle.xet_shards.specs.Write.Section.{total_rows}
use Rattle.xet_shards.proofs.StreamingShard.MinimalWriting.{rows_as_kept}
use Rattle.placed_shards.proofs.placed_shard.PlacedShard.with_parts.Goals as goal

pub invariant_of-result : goal.invariant_of-result
invariant_of-result c = record {
  file_rows = omega (arith, ap (total_rows file_records) c.in_ok-files.ensures, rows_as_kept c.args.kept c.args.self.files.items, c.args.self.file_rows);
  xorb_rows = c.args.self.xorb_rows;
}
