use Rattle.std.proofs.Common.{arith, rules, IsTrue, false}
use Rattle.shard_bytes.proofs.Reordered.{one_more_word, word_descends}
use Rattle.shard_bytes.proofs.check.reordered.words_ascend.Goals as goal

pub loop-next-preserved : goal.loop-next-preserved
loop-next-preserved c =
    one_more_word c.args.rows.now c.loop-next.next (record { word = 0; row = 0; index = 0 }) c.loop-next.auto.next c.loop-next-test.true c.loop-next.invariant c.if-rows-next.false

pub returns-then-rows-next : goal.returns-then-rows-next
returns-then-rows-next c =
    let none : ¬ IsTrue false = search rules in
    (λ yes. absurd (none yes), λ ascends. absurd (word_descends c.args.rows.now c.loop-next.next (record { word = 0; row = 0; index = 0 }) c.loop-next.auto.next c.loop-next-test.true c.if-rows-next.true ascends))

pub returns : goal.returns
returns c = (λ yes k d below. c.loop-next.invariant k d (omega (arith, below, c.loop-next-test.false)), λ ascends. search rules)
