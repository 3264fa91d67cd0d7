use Rattle.placed_shards.proofs.AgreedUnions.{agreed_union, agreed_with}
use Rattle.placed_shards.proofs.Equations.AnyOrder.{union_well_formed}
use Rattle.placed_shards.proofs.laws.unions.agreeing_unions.Goals as goal

pub returns-clause-well_formed : goal.returns-clause-well_formed
returns-clause-well_formed c = union_well_formed

pub returns-clause-agrees : goal.returns-clause-agrees
returns-clause-agrees c = λ c d made other agree union. agreed_with c d made (agreed_union c d made agree union) other
