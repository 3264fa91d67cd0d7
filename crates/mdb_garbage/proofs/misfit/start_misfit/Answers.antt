use Rattle.std.proofs.Common.{◌<◌, ◌≤◌, length, rules, arith, subst, sym, ◌∙◌}
use Rattle.std.proofs.lemmas.Grind.{common_steps}
use Rattle.std.proofs.lemmas.List.Sums.{sum_by_more}
use Rattle.std.proofs.lemmas.Option.{none-some}
use Rattle.mdb_garbage.specs.Garbage.{StartsAdd}
use Rattle.mdb_garbage.proofs.Starts.{starts_on, none_starts}
use Rattle.mdb_garbage.proofs.misfit.start_misfit.Goals as goal

pub loop-index-preserved : goal.loop-index-preserved
loop-index-preserved c =
    let low : c.loop-index.index < length c.as_slice-chunks.result.now = search rules in
    record {
      sum = search (rules, sum_by_more);
      bound = grind (arith, common_steps);
      starts = starts_on c.as_slice-chunks.result.now c.loop-index.index c.loop-index.sum _ low c.loop-index.invariant.sum (sym c.from-in-loop-index.ensures ∙ c.if-from-sum.false) c.loop-index.invariant.starts;
    }

pub returns : goal.returns
returns c = λ misfit. (
  λ none. absurd (none-some misfit none),
  λ is.
      let past : length c.as_slice-chunks.result.now ≤ c.loop-index.index = search rules in
      absurd (none_starts c.args.xorb.now c.loop-index.index (subst (λ l. StartsAdd l c.loop-index.index) c.as_slice-chunks.ensures c.loop-index.invariant.starts)
      (subst (λ l. length l ≤ c.loop-index.index) c.as_slice-chunks.ensures past) misfit is),
)
