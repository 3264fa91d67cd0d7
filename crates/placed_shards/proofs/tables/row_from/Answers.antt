use Rattle.std.proofs.Common.{◌≡◌, ◌+◌, ◌-◌, ◌/◌, length, sym, ap, ◌∙◌, arith}
use Rattle.std.specs.Prelude.{nat_lt}
use Rattle.placed_shards.specs.RangeRows.{word_in}
use Rattle.placed_shards.proofs.Bisection.{goes_behind, goes_before, is_below, is_not_below}
use Rattle.placed_shards.proofs.tables.row_from.Goals as goal

pub loop-size-preserved-then-entry_at-word : goal.loop-size-preserved-then-entry_at-word
loop-size-preserved-then-entry_at-word c =
    let table = c.args.table.now in
    let w = c.loop-size in
    let less : nat_lt (word_in table (w.low + (w.size - 1) / 2)) c.args.word ≡ _ = ap (λ n. nat_lt n c.args.word) (sym c.entry_at.ensures.word) ∙ is_below _ _ c.if-entry_at-word.true in
    goes_behind (λ i. nat_lt (word_in table i) c.args.word) (length table / 12) w.low w.size w.invariant (w.size - 1) (omega (arith, c.loop-size-test.true)) _ _ less (omega arith) (omega (arith, c.loop-size-test.true))

pub loop-size-preserved : goal.loop-size-preserved
loop-size-preserved c =
    let table = c.args.table.now in
    let w = c.loop-size in
    let more : nat_lt (word_in table (w.low + (w.size - 1) / 2)) c.args.word ≡ _ = ap (λ n. nat_lt n c.args.word) (sym c.entry_at.ensures.word) ∙ is_not_below _ _ c.if-entry_at-word.false in
    goes_before (λ i. nat_lt (word_in table i) c.args.word) (length table / 12) w.low w.size w.invariant (w.size - 1) (omega (arith, c.loop-size-test.true)) more
