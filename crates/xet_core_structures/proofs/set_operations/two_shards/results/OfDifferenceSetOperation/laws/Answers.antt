use Rattle.xet_core_structures.proofs.TwoShards.Results.{difference_laws}
use Rattle.xet_core_structures.proofs.set_operations.two_shards.results.OfDifferenceSetOperation.laws.Goals as goal

pub returns : goal.returns
returns c = difference_laws
