use Rattle.std.proofs.Common.{◌^◌, arith, rules}
use Rattle.shard_concatenation.proofs.SectionParts.{one_start_written, row_read_fits, all_starts_written}
use Rattle.shard_concatenation.proofs.section_parts.write_later.Goals as goal

pub loop-rest-preserved : goal.loop-rest-preserved
loop-rest-preserved g c = λ rows are fit.
    one_start_written c.args.first rows c.loop-rest.rest.now c.split_u64-word.result.1.now c.split_u32-row.result.1.now c.split_u64-word.result.0 c.split_u32-row.result.0 c.in_ok-add_u32.field-0 _ (g.W.Write.contents c.loop-rest.writer) _
    (c.loop-rest.invariant rows are fit) (search rules) (search rules) c.split_u64-word.ensures.bytes c.split_u32-row.ensures.bytes c.in_ok-add_u32.ensures.sum c.in_ok-write_start.ensures.bytes

pub returns-clause-bytes : goal.returns-clause-bytes
returns-clause-bytes g c = λ rows are fit. all_starts_written c.args.first rows c.loop-rest.rest.now _ (g.W.Write.contents c.loop-rest.writer) (c.loop-rest.invariant rows are fit) (search rules)

pub returns-in_err-add_u32-clause-succeeds : goal.returns-in_err-add_u32-clause-succeeds
returns-in_err-add_u32-clause-succeeds g c = λ rows are fit within.
    let fits = row_read_fits c.args.first (2 ^ 32) rows c.loop-rest.rest.now c.split_u64-word.result.1.now c.split_u32-row.result.1.now c.split_u64-word.result.0 c.split_u32-row.result.0 _ (g.W.Write.contents c.loop-rest.writer)
    (c.loop-rest.invariant rows are fit) (search rules) (search rules) c.split_u64-word.ensures.bytes c.split_u32-row.ensures.bytes within in
    absurd (omega (arith, fits, c.in_err-add_u32.ensures.passes))
