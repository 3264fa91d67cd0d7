use Rattle.xet_shards.proofs.Content.Unions.{union_agrees}
use Rattle.xet_core_structures.proofs.laws.agreement_passes_to_unions.Goals as goal

pub returns : goal.returns
returns c = union_agrees
