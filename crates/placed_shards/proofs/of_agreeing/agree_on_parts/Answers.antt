use Rattle.std.proofs.Common.{rules}
use Rattle.std.proofs.lemmas.Iterator.{cases_from_all, YieldsList-from_slice}
use borrow.Author.Tests.{tests}
use Rattle.xet_records.specs.declared.file_structs.part.OptionalPart.{OptionalPart}
use Rattle.xet_records.specs.Part.{parts}
use Rattle.xet_records.proofs.Parts.{every_part}
use Rattle.placed_shards.specs.Agreement.{AgreeOn}
use Rattle.placed_shards.proofs.of_agreeing.agree_on_parts.Goals as goal

pub returns : goal.returns
returns c =
    let agree : OptionalPart → Type 0 = λ part. AgreeOn part c.args.first.now c.args.second.now in
    every_part agree c.all.result
    (cases_from_all _ _ _ agree (λ part. ¬ agree part) c.all.ensures.ran (YieldsList-from_slice parts cc) (λ x q k. search (rules, tests)) (λ x q k. search (rules, tests)))
