use Rattle.xet_c.proofs.Outcomes.{outcome}
use Rattle.xet_c.proofs.part_lookups.xet_find_places.Goals as goal

pub returns-clause-chunks : goal.returns-clause-chunks
returns-clause-chunks c s shard info is cut = outcome _ _ _ _ _ _ _ (c.places_with-found.ensures.chunks s shard info is cut) c.deliver.ensures
