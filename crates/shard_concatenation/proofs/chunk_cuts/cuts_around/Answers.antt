use Rattle.std.proofs.Common.{◌≤◌, ◌∙◌, length, flat_map, inl, refl, sym, ap, arith}
use Rattle.shard_concatenation.specs.Steps.ChunkMerging.{rows_held}
use Rattle.shard_concatenation.specs.Steps.ChunkCuts.{end_of}
use Rattle.shard_concatenation.proofs.ChunkCuts.{until_end, none_before, word_between, few_between}
use Rattle.shard_concatenation.proofs.chunk_cuts.cuts_around.Goals.{then-count-row, else-count-row}
use Rattle.shard_concatenation.proofs.chunk_cuts.cuts_around.Goals as goal

pub loop-bit-init : goal.loop-bit-init
loop-bit-init c = (
  omega arith,
  refl,
  omega arith,
  λ held are hold small. (sym (none_before (flat_map rows_held held)), tt, c.row_count-after.ensures held are hold small ∙ ap length (sym (until_end (flat_map rows_held held)))),
)

pub overflow_add-word : goal.overflow_add-word
overflow_add-word c =
    let between = word_between c.loop-bit.bit c.loop-bit.low (end_of c.loop-bit.high) c.loop-bit-test.true c.loop-bit.invariant.1 c.loop-bit.invariant.2 in
    omega (arith, between.0)

pub loop-bit-preserved : goal.loop-bit-preserved
loop-bit-preserved c =
    let between = word_between c.loop-bit.bit c.loop-bit.low (end_of c.loop-bit.high) c.loop-bit-test.true c.loop-bit.invariant.1 c.loop-bit.invariant.2 in
    elim c.if-count-row.branch [
      | then-count-row w ↦ rw (w.low-is, w.before-is, w.high-is, w.after-is) (
        w.if-count-row.true,
        between.1,
        c.loop-bit.invariant.2,
        λ held are hold small.
            let known = c.loop-bit.invariant.3 held are hold small in
            (c.count_before-count.ensures held are hold small, known.1, known.2),
      )
      | else-count-row w ↦ rw (w.low-is, w.before-is, w.high-is, w.after-is) (
        c.loop-bit.invariant.0,
        between.2,
        omega (arith, between.0),
        λ held are hold small.
            let known = c.loop-bit.invariant.3 held are hold small in
            let count = c.count_before-count.ensures held are hold small in
            (known.0, omega (arith, count, w.if-count-row.false), count),
      )
    ]

pub returns-then-saturating_sub-cursors-clause-close : goal.returns-then-saturating_sub-cursors-clause-close
returns-then-saturating_sub-cursors-clause-close c = λ held are hold small.
    let known = c.loop-bit.invariant.3 held are hold small in
    let in_order : c.loop-bit.low ≤ end_of c.loop-bit.high = omega (arith, c.loop-bit.invariant.1) in
    inl (few_between c.loop-bit.low c.loop-bit.high in_order (length c.args.cursors.now) c.loop-bit.before c.loop-bit.after (flat_map rows_held held) known.0 known.2 (omega (arith, c.saturating_sub.ensures, c.if-saturating_sub-cursors.true)))
