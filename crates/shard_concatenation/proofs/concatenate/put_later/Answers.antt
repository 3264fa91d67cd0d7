use Rattle.std.proofs.Common.{◌^◌, arith, rules}
use Rattle.shard_concatenation.proofs.PartFilling.{puts_then}
use Rattle.shard_concatenation.proofs.SectionParts.{one_start_written, row_read_fits, all_starts_written}
use Rattle.shard_concatenation.proofs.concatenate.put_later.Goals as goal

pub loop-rest-preserved : goal.loop-rest-preserved
loop-rest-preserved c = (
  omega (arith, c.loop-rest.invariant.0, c.put_u64-middle.ensures.end, c.put_u32-end.ensures.end, c.split_u64-word.ensures.len, c.split_u32-row.ensures.len),
  λ rows are fit within.
      let before = c.loop-rest.invariant.1 rows are fit within in
      let fits = row_read_fits c.args.first (2 ^ 32) rows c.loop-rest.rest.now c.split_u64-word.result.1.now c.split_u32-row.result.1.now c.split_u64-word.result.0 c.split_u32-row.result.0 _ _ before
      (search rules) (search rules) c.split_u64-word.ensures.bytes c.split_u32-row.ensures.bytes within in
      one_start_written c.args.first rows c.loop-rest.rest.now c.split_u64-word.result.1.now c.split_u32-row.result.1.now c.split_u64-word.result.0 c.split_u32-row.result.0 _ _ _ _
      before (search rules) (search rules) c.split_u64-word.ensures.bytes c.split_u32-row.ensures.bytes (omega (arith, fits))
      (puts_then c.loop-rest.out c.put_u64-middle.new.row c.put_u32-end.new.row c.loop-rest.end c.put_u64-middle.result c.put_u32-end.result _ _ c.put_u64-middle.ensures.front c.put_u32-end.ensures.front),
)

pub returns-clause-bytes : goal.returns-clause-bytes
returns-clause-bytes c = λ rows are fit within. all_starts_written c.args.first rows c.loop-rest.rest.now _ _ (c.loop-rest.invariant.1 rows are fit within) (search rules)
