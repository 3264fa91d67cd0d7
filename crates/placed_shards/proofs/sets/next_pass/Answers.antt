use Rattle.std.proofs.Common.{◌≡◌, rules}
use Rattle.std.specs.declared.cmp.Ordering.TheVariants.{Less, Greater}
use Rattle.xet_base.specs.Hash.{hash_cmp}
use Rattle.xet_core_structures.specs.Records.RecordPairs.{key_of_record}
use Rattle.placed_shards.proofs.Subtracting.{leaves_last, drops_last, drops_less, leaves_greater, drops_both}
use Rattle.placed_shards.proofs.sets.next_pass.Goals as goal

pub returns-then-at_1-first : goal.returns-then-at_1-first
returns-then-at_1-first g c =
    leaves_last g.P.PlacedRecord.kind c.laws.ensures.laws c.args.first.now c.args.second.now c.args.at_1 c.args.at_2
    c.index-second-at_2.result c.index-second-at_2.is (search rules) (search rules) c.copy.result c.copy.ensures

pub returns-then-at_2-second-2 : goal.returns-then-at_2-second-2
returns-then-at_2-second-2 g c =
    drops_last g.P.PlacedRecord.kind c.laws.ensures.laws c.args.first.now c.args.second.now c.args.at_1 c.args.at_2
    c.index-first-at_1.result c.index-first-at_1.is (search rules) (search rules)

pub returns-in-Less : goal.returns-in-Less
returns-in-Less g c =
    let K = g.P.PlacedRecord.kind in
    let one = c.index-first-at_1.result in
    let other = c.index-second-at_2-2.result in
    let less : hash_cmp (key_of_record K one) (key_of_record K other) ≡ Less = search rules in
    drops_less K c.laws.ensures.laws c.args.first.now c.args.second.now c.args.at_1 c.args.at_2 one c.index-first-at_1.is (search rules) other c.index-second-at_2-2.is (search rules) less

pub returns-in-Greater : goal.returns-in-Greater
returns-in-Greater g c =
    let K = g.P.PlacedRecord.kind in
    let one = c.index-first-at_1.result in
    let other = c.index-second-at_2-2.result in
    let greater : hash_cmp (key_of_record K one) (key_of_record K other) ≡ Greater = search rules in
    leaves_greater K c.laws.ensures.laws c.args.first.now c.args.second.now c.args.at_1 c.args.at_2 one c.index-first-at_1.is (search rules) other c.index-second-at_2-2.is (search rules)
    greater c.copy-in-Greater.result c.copy-in-Greater.ensures

pub returns-in-Equal : goal.returns-in-Equal
returns-in-Equal g c =
    let K = g.P.PlacedRecord.kind in
    let one = c.index-first-at_1.result in
    let other = c.index-second-at_2-2.result in
    let same : key_of_record K one ≡ key_of_record K other = search rules in
    drops_both K c.laws.ensures.laws c.args.first.now c.args.second.now c.args.at_1 c.args.at_2 one c.index-first-at_1.is (search rules) other c.index-second-at_2-2.is (search rules) same
