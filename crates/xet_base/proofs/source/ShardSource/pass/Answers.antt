use Rattle.std.proofs.Common.{◌++◌, take, arith, sym, ap, ◌∙◌, subst}
use Rattle.std.proofs.lemmas.Grind.{common_steps}
use Rattle.xet_base.specs.Bytes.{AreBytes}
use Rattle.xet_base.specs.InputLaws.{after_read-after_read, next_bytes-add}
use Rattle.xet_base.specs.Source.{after_read, next_bytes}
use Rattle.xet_base.proofs.Bytes.{append-bytes}
use Rattle.xet_base.proofs.Reading.{passed_next}
use Rattle.xet_base.proofs.source.ShardSource.pass.Goals as goal

pub loop-passed-preserved : goal.loop-passed-preserved
loop-passed-preserved g c =
    let start = g.Self.ShardSource.meaning c.args.self.now in
    let passed = c.loop-passed.passed in
    let n = c.in_ok-n.n in
    let turn = c.loop-passed.invariant in
    let got = c.in_ok-n.ensures in
    let front = ap (λ xs. next_bytes start passed ++ xs) (got.filled ∙ ap (λ s. next_bytes s n) turn.source) ∙ sym (next_bytes-add start passed n) in
    record {
      within = grind (arith, common_steps);
      there = λ _. grind (arith, common_steps);
      source = got.after ∙ ap (λ s. after_read s n) turn.source ∙ after_read-after_read start passed n;
      bytes = subst AreBytes front (append-bytes (next_bytes start passed) (take n c.read_some.new.slice) turn.bytes c.all_bytes.ensures);
    }

pub returns : goal.returns
returns g c =
    let turn = c.loop-passed.invariant in
    passed_next (g.Self.ShardSource.meaning c.args.self.now) (g.Self.ShardSource.meaning c.loop-passed.self) c.loop-passed.passed c.args.count
    (omega (arith, turn.within, c.loop-passed-test.false)) turn.there turn.bytes turn.source
