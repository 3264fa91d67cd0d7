use Rattle.std.proofs.Common.{◌++◌, ◌<◌, ◌∷◌, [], length, map, take_all, get_or, rules, sym, ap, ◌∙◌}
use Rattle.std.proofs.lemmas.Option.{slice_get-get_or, get_or_from_slice_get}
use Rattle.placed_shards.specs.declared.differing.Differing.{Differing}
use Rattle.placed_shards.specs.Steps.Differing.{disagreement_of}
use Rattle.placed_shards.proofs.Items.{one_more_mapped}
use Rattle.placed_shards.proofs.findings.add_all.Goals as goal

-- what stands for an item that a list does not have
abbrev absent_item : Differing
absent_item = record { hash = record { word0 = 0; word1 = 0; word2 = 0; word3 = 0 }; first = 0; second = 0 }

pub loop-one-preserved : goal.loop-one-preserved
loop-one-preserved g c =
    let all = c.args.differing.now in
    let i = c.loop-one.one-index in
    let low : i < length all = search rules in
    let one = get_or all i absent_item in
    let is = sym (get_or_from_slice_get all i one one (slice_get-get_or all i absent_item low)) in
    c.in_ok-push.ensures.items
    ∙ (λ j. c.loop-one.invariant j ++ record { record_hash = c.name.ensures j; first = one.first; second = one.second } ∷ [])
    ∙ one_more_mapped (disagreement_of g.P.Agreement.named) c.args.found.now.items all i one low is

pub returns-clause-ok : goal.returns-clause-ok
returns-clause-ok g c =
    c.loop-one.invariant ∙ ap (λ l. c.args.found.now.items ++ map (disagreement_of g.P.Agreement.named) l) (take_all c.loop-one.one-index c.args.differing.now c.loop-one-test.false)
