use Rattle.xet_shards.proofs.Content.Unions.{union-assoc}
use Rattle.xet_core_structures.proofs.laws.union_associates.Goals as goal

pub returns : goal.returns
returns c = union-assoc
