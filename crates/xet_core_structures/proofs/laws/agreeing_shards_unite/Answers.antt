use Rattle.xet_shards.proofs.Content.Unions.{agreeing_unite}
use Rattle.xet_core_structures.proofs.laws.agreeing_shards_unite.Goals as goal

pub returns : goal.returns
returns c = agreeing_unite
