use Rattle.std.proofs.Common.{arith, rules}
use Rattle.shard_concatenation.proofs.PartSplit.{ends_of_part, ranges_of_part, split_of_part}
use Rattle.shard_concatenation.proofs.part_split.split_shard.Goals as goal

pub returns-in_err-info-clause-split : goal.returns-in_err-info-clause-split
returns-in_err-info-clause-split c = λ key part fits are.
    absurd (omega (arith, (c.in_err-info.ensures.ends _ (ends_of_part key part c.new-source.result.bytes.now fits (search (rules, are)))).0))

pub returns-in-Some-clause-split : goal.returns-in-Some-clause-split
returns-in-Some-clause-split c = λ key part fits are. split_of_part key part c.args.bytes.now c.in_ok-info.info _ fits are (search rules) (search rules) (search rules)

pub returns-in-None-clause-split : goal.returns-in-None-clause-split
returns-in-None-clause-split c = λ key part fits are. c.in-None.ensures (ranges_of_part key part c.args.bytes.now c.in_ok-info.info fits are (search rules))
