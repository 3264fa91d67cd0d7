use Rattle.std.proofs.Common.{◌+◌, ◌-◌, ◌<◌, ℕ, length, refl, arith, rules}
use Rattle.std.specs.Prelude.{◌/◌}
use Rattle.shard_concatenation.proofs.ChunkChecking.{rows_in_table}
use Rattle.shard_concatenation.proofs.ChunkCuts.{word_read, not_searched, low_raised, high_lowered, cut_found}
use Rattle.shard_concatenation.proofs.chunk_cuts.cut_of.Goals as goal

pub loop-low-init : goal.loop-low-init
loop-low-init c = (omega arith, omega arith, λ rows holds. not_searched c.args.word rows _ (rows_in_table c.args.cursor.now rows holds))

pub loop-low-preserved-then-at-word : goal.loop-low-preserved-then-at-word
loop-low-preserved-then-at-word c = (
  omega (arith, c.loop-low-test.true),
  omega (arith, c.loop-low.invariant.1),
  λ rows holds.
      let before = c.loop-low.invariant.2 rows holds in
      let middle : ℕ = c.loop-low.low + (c.loop-low.high - c.loop-low.low) / 2 in
      let within : middle < length rows = omega (arith, c.loop-low-test.true, before.within) in
      low_raised c.args.cursor.now rows holds c.args.word c.loop-low.low middle c.loop-low.high c.split_u64-at.result.0 before within
      (λ d. word_read c.args.cursor.now rows middle c.split_u64-at.result.0 _ c.split_u64-at.result.1.now d holds within (search rules) refl c.split_u64-at.ensures.bytes) c.if-at-word.true,
)

pub loop-low-preserved : goal.loop-low-preserved
loop-low-preserved c = (
  omega (arith, c.loop-low-test.true),
  omega (arith, c.loop-low.invariant.1, c.loop-low-test.true),
  λ rows holds.
      let before = c.loop-low.invariant.2 rows holds in
      let middle : ℕ = c.loop-low.low + (c.loop-low.high - c.loop-low.low) / 2 in
      let within : middle < length rows = omega (arith, c.loop-low-test.true, before.within) in
      high_lowered c.args.cursor.now rows holds c.args.word c.loop-low.low middle c.loop-low.high c.split_u64-at.result.0 before within
      (λ d. word_read c.args.cursor.now rows middle c.split_u64-at.result.0 _ c.split_u64-at.result.1.now d holds within (search rules) refl c.split_u64-at.ensures.bytes) c.if-at-word.false,
)

pub returns-clause-cut : goal.returns-clause-cut
returns-clause-cut c = λ rows holds. cut_found c.args.word rows c.loop-low.low c.loop-low.high (c.loop-low.invariant.2 rows holds) c.loop-low-test.false c.loop-low.invariant.0
