use Rattle.std.proofs.Common.{◌++◌, take, arith, sym, ap, ◌∙◌}
use Rattle.std.proofs.lemmas.Grind.{common_steps}
use Rattle.xet_base.specs.Source.{after_read, next_bytes}
use Rattle.xet_base.proofs.Lists.{take-put_mid_part}
use Rattle.xet_base.specs.InputLaws.{after_read-after_read, next_bytes-add}
use Rattle.xet_base.proofs.source.read_full.Goals as goal

pub loop-filled-preserved : goal.loop-filled-preserved
loop-filled-preserved g c =
    let start = g.S.ShardSource.meaning c.args.source.now in
    let now = g.S.ShardSource.meaning c.loop-filled.source in
    let filled = c.loop-filled.filled in
    let n = c.in_ok-n.n in
    let turn = c.loop-filled.invariant in
    let got = c.in_ok-n.ensures in
    record {
      within = grind (arith, common_steps);
      there = λ _. grind (arith, common_steps);
      source = got.after ∙ ap (λ s. after_read s n) turn.source ∙ after_read-after_read start filled n;
      front = take-put_mid_part filled _ n c.loop-filled.slice c.read_some-in-loop-filled.new.slice turn.within (grind (arith, common_steps))
          ∙ ap (λ xs. xs ++ take n c.read_some-in-loop-filled.new.slice) turn.front
          ∙ ap (λ xs. next_bytes start filled ++ xs) (got.filled ∙ ap (λ s. next_bytes s n) turn.source)
          ∙ sym (next_bytes-add start filled n);
    }
