use Rattle.std.proofs.Common.{◌≡◌, rules, subst}
use Rattle.std.specs.Prelude.{MatchOption}
use Rattle.std.specs.declared.cmp.Ordering.TheVariants.{Less, Greater}
use Rattle.xet_base.specs.Hash.{hash_cmp}
use Rattle.xet_core_structures.specs.Records.RecordPairs.{key_of_record}
use Rattle.placed_shards.specs.Steps.SetsSteps.{MakesNone, MakesRecord}
use Rattle.placed_shards.proofs.Uniting.{first_alone, second_alone, first_less, second_less, both_next, both_none}
use Rattle.placed_shards.proofs.sets.next_turn.Goals as goal

pub returns-then-at_1-first : goal.returns-then-at_1-first
returns-then-at_1-first g c =
    second_alone g.P.PlacedRecord.kind c.laws.ensures.laws g.U.Union.makes c.args.first.now c.args.second.now c.args.at_1 c.args.at_2
    c.index-second-at_2.result c.index-second-at_2.is (search rules) (search rules) c.copy.result c.copy.ensures

pub returns-then-at_2-second-2 : goal.returns-then-at_2-second-2
returns-then-at_2-second-2 g c =
    first_alone g.P.PlacedRecord.kind c.laws.ensures.laws g.U.Union.makes c.args.first.now c.args.second.now c.args.at_1 c.args.at_2
    c.index-first-at_1.result c.index-first-at_1.is (search rules) (search rules) c.copy-then-at_2-second-2.result c.copy-then-at_2-second-2.ensures

pub returns-in-Less : goal.returns-in-Less
returns-in-Less g c =
    let K = g.P.PlacedRecord.kind in
    let one = c.index-first-at_1.result in
    let other = c.index-second-at_2-2.result in
    let less : hash_cmp (key_of_record K one) (key_of_record K other) ≡ Less = search rules in
    first_less K c.laws.ensures.laws g.U.Union.makes c.args.first.now c.args.second.now c.args.at_1 c.args.at_2 one c.index-first-at_1.is (search rules) other c.index-second-at_2-2.is (search rules)
    less c.copy-in-Less.result c.copy-in-Less.ensures

pub returns-in-Greater : goal.returns-in-Greater
returns-in-Greater g c =
    let K = g.P.PlacedRecord.kind in
    let one = c.index-first-at_1.result in
    let other = c.index-second-at_2-2.result in
    let greater : hash_cmp (key_of_record K one) (key_of_record K other) ≡ Greater = search rules in
    second_less K c.laws.ensures.laws g.U.Union.makes c.args.first.now c.args.second.now c.args.at_1 c.args.at_2 one c.index-first-at_1.is (search rules) other c.index-second-at_2-2.is (search rules)
    greater c.copy-in-Greater.result c.copy-in-Greater.ensures

pub returns-in-Some : goal.returns-in-Some
returns-in-Some g c =
    let K = g.P.PlacedRecord.kind in
    let makes = g.U.Union.makes in
    let one = c.index-first-at_1.result in
    let other = c.index-second-at_2-2.result in
    let same : key_of_record K one ≡ key_of_record K other = search rules in
    let made = subst (λ o. MatchOption o (MakesNone K makes one other) (MakesRecord K makes one other)) c.in-Some.is c.in_ok-made-in-Equal.ensures in
    both_next K c.laws.ensures.laws makes c.args.first.now c.args.second.now c.args.at_1 c.args.at_2 one c.index-first-at_1.is (search rules) other c.index-second-at_2-2.is (search rules) same c.in-Some.made made

pub returns-in-None : goal.returns-in-None
returns-in-None g c =
    let K = g.P.PlacedRecord.kind in
    let makes = g.U.Union.makes in
    let one = c.index-first-at_1.result in
    let other = c.index-second-at_2-2.result in
    let same : key_of_record K one ≡ key_of_record K other = search rules in
    let none = subst (λ o. MatchOption o (MakesNone K makes one other) (MakesRecord K makes one other)) c.in-None.is c.in_ok-made-in-Equal.ensures in
    both_none K c.laws.ensures.laws makes c.args.first.now c.args.second.now c.args.at_1 c.args.at_2 one c.index-first-at_1.is (search rules) other c.index-second-at_2-2.is (search rules) same none
