use Rattle.std.proofs.Common.{rules, sym, ◌∙◌, IsTrue, false, subst}
use Rattle.shard_bytes.specs.Checking.{WordsAscend}
use Rattle.shard_bytes.specs.Steps.CheckingSteps.{IsSortedOf}
use Rattle.shard_bytes.proofs.Reordered.{same_size, table_is_reordered, found_ascends, sorted_same}
use Rattle.shard_bytes.proofs.check.reordered.is_reordered.Goals as goal

pub returns-then-found-written : goal.returns-then-found-written
returns-then-found-written c =
    let none : ¬ IsTrue false = search rules in
    (λ yes. absurd (none yes), λ is. absurd (c.if-found-written.true (same_size c.args.written.now c.args.found.now is)))

pub returns-then-not-words_ascend : goal.returns-then-not-words_ascend
returns-then-not-words_ascend c =
    let none : ¬ IsTrue false = search rules in
    let reads = c.in_ok-found.ensures.ok in
    let descends : ¬ IsTrue c.words_ascend.result = λ yes. none (subst IsTrue c.if-not-words_ascend.true yes) in (
      λ yes. absurd (none yes),
      λ is. absurd (descends (c.words_ascend.ensures.1 (subst WordsAscend (sym c.as_slice.ensures.value)
          (found_ascends c.args.written.now c.args.found.now c.requires c.in_ok-found.found.items c.if-found-written.false reads is)))),
    )

pub returns : goal.returns
returns c =
    let up : IsTrue c.words_ascend.result = search rules in
    let ascends = subst WordsAscend c.as_slice.ensures.value (c.words_ascend.ensures.0 up) in
    let reads = c.in_ok-found.ensures.ok in
    let reads_written = c.in_ok-written.ensures.ok in
    let sorts : IsSortedOf c.in_ok-found.found.items c.sort_rows-sorted.result.items = c.sort_rows-sorted.ensures in
    let written = c.args.written.now in
    let found = c.args.found.now in
    let rows = c.in_ok-found.found.items in
    let others = c.in_ok-written.written.items in
    let sorted = c.sort_rows-sorted.result.items in (
      λ yes. table_is_reordered written found c.requires rows c.if-found-written.false reads others sorted reads_written sorts ascends
          (sym c.as_slice-2.ensures.value ∙ c.are_equal.ensures.0 yes ∙ c.as_slice-3.ensures.value),
      λ is. c.are_equal.ensures.1 (c.as_slice-2.ensures.value ∙ sorted_same written found c.requires rows c.if-found-written.false reads others sorted reads_written sorts is ∙ sym c.as_slice-3.ensures.value),
    )
