use Rattle.xet_records.specs.Part.{announces}
use Rattle.xet_records.proofs.PartSets.{is_set, announced_is}
use Rattle.xet_records.proofs.file_structs.part.Parts.of_flags.Goals as goal

pub invariant_of-result : goal.invariant_of-result
invariant_of-result c = is_set _ (announces c.args.flags) (announced_is c.args.flags)

pub returns : goal.returns
returns c = announced_is c.args.flags
