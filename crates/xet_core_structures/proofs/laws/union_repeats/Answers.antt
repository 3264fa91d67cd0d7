use Rattle.xet_shards.proofs.Content.Unions.{union-idem}
use Rattle.xet_core_structures.proofs.laws.union_repeats.Goals as goal

pub returns : goal.returns
returns c = union-idem
