use Rattle.std.specs.Prelude.{◌&&◌, not}
use Rattle.xet_records.specs.Part.{announces}
use Rattle.xet_records.proofs.PartSets.{is_set, difference_is}
use Rattle.xet_records.proofs.file_structs.part.Parts.without.Goals as goal

pub invariant_of-result : goal.invariant_of-result
invariant_of-result c = is_set _ (λ part. announces c.self.inside.flags part && not (announces c.other.inside.flags part)) (difference_is c.self.inside.flags c.self.invariant c.other.inside.flags c.other.invariant)
