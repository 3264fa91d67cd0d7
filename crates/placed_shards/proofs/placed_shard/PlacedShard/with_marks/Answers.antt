use Rattle.std.proofs.Common.{ap, arith}
use Rattle.xet_records.specs.XorbRecord.{xorb_records}
use Rattle.xet_shards.specs.Write.Section.{total_rows}
use Rattle.xet_shards.specs.StreamingShard.MinimalShard.{is_start}
use Rattle.placed_shards.proofs.Marking.{few_marked}
use Rattle.placed_shards.proofs.placed_shard.PlacedShard.with_marks.Goals as goal

pub invariant_of-result : goal.invariant_of-result
invariant_of-result c = record {
  file_rows = c.args.self.file_rows;
  xorb_rows =
      omega (
        arith,
        ap (total_rows xorb_records) c.in_ok-xorbs.ensures,
        few_marked (is_start c.as_slice.result.now) c.args.self.xorbs.items c.args.self.xorb_rows,
      );
}
