use Rattle.std.proofs.Common.{[], ◌+◌, ◌≤◌, length, take, refl, arith, rules}
use Rattle.std.proofs.lemmas.Grind.{common_steps}
use Rattle.std.proofs.lemmas.Result.{err_from_is_err_and}
use Rattle.xet_base.proofs.Reading.{passed_more}
use Rattle.xet_base.proofs.input.ByteInput.skip.Goals as goal

pub loop-skipped-init : goal.loop-skipped-init
loop-skipped-init g c = record {
  within = omega arith;
  skipped = record { passed = []; bytes = λ i. omega arith; len = refl; taken = g.met.Self.ByteInput.reads_nothing _ };
}

pub loop-skipped-preserved : goal.loop-skipped-preserved
loop-skipped-preserved g c =
    let before = c.loop-skipped.invariant.skipped in
    record {
      within = grind (arith, common_steps);
      skipped = passed_more _ _ _ _ _ _ (g.met.Self.ByteInput.joins _ c.loop-skipped.self _) before c.all_bytes.ensures (search rules) c.in_ok-fill.ensures;
    }

pub returns-in_err-fill : goal.returns-in_err-fill
returns-in_err-fill g c =
    let before = c.loop-skipped.invariant.skipped in
    let part = take c.min-most.result c.loop-skipped.block in
    let within : length before.passed + length part ≤ c.args.count = grind (arith, common_steps, before.len) in
    let p = err_from_is_err_and c.from_residual.result c.from_residual.ensures.1 in
    rw (p.1) (g.met.Self.ByteInput.fails_later _ c.loop-skipped.self _ before.passed (length part) _ _ before.taken
    (g.met.Self.ByteInput.fails_once _ _ _ _ _ c.in_err-fill.ensures p.2) within)
