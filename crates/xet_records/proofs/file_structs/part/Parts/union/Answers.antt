use Rattle.std.specs.Prelude.{◌||◌}
use Rattle.xet_records.specs.Part.{announces}
use Rattle.xet_records.proofs.PartSets.{is_set, union_is}
use Rattle.xet_records.proofs.file_structs.part.Parts.union.Goals as goal

pub invariant_of-result : goal.invariant_of-result
invariant_of-result c = is_set _ (λ part. announces c.self.inside.flags part || announces c.other.inside.flags part) (union_is c.self.inside.flags c.other.inside.flags c.self.invariant c.other.invariant)
