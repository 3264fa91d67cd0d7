use Rattle.xet_core_structures.proofs.TwoShards.Results.{union_laws}
use Rattle.xet_core_structures.proofs.set_operations.two_shards.results.OfUnionSetOperation.laws.Goals as goal

pub returns : goal.returns
returns c = union_laws
