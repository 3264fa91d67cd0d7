use Rattle.std.proofs.Common.{rules}
use Rattle.std.proofs.lemmas.Iterator.{cases_from_all, YieldsList-from_slice}
use borrow.Author.Tests.{tests}
use Rattle.xet_records.specs.declared.file_structs.part.OptionalPart.{OptionalPart}
use Rattle.xet_records.specs.Part.{parts}
use Rattle.xet_records.specs.Steps.FileRecordSteps.{HasAnnounced}
use Rattle.xet_records.proofs.Parts.{every_part}
use Rattle.xet_records.proofs.file_structs.MDBFileInfo.has_announced_parts.Goals as goal

pub returns : goal.returns
returns c =
    let has : OptionalPart → Type 0 = λ part. HasAnnounced part c.args.self.now in
    every_part has c.all.result
    (cases_from_all _ _ _ has (λ part. ¬ has part) c.all.ensures.ran (YieldsList-from_slice parts cc) (λ x q k. search (rules, tests)) (λ x q k. search (rules, tests)))
