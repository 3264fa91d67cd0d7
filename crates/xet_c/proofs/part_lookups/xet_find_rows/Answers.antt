use Rattle.xet_c.proofs.Outcomes.{outcome}
use Rattle.xet_c.proofs.part_lookups.xet_find_rows.Goals as goal

pub returns-clause-files : goal.returns-clause-files
returns-clause-files c s shard info is cut = outcome _ _ _ _ _ _ _ (c.rows_with-found.ensures.files s shard info is cut) c.deliver.ensures

pub returns-clause-xorbs : goal.returns-clause-xorbs
returns-clause-xorbs c s shard info is cut = outcome _ _ _ _ _ _ _ (c.rows_with-found.ensures.xorbs s shard info is cut) c.deliver.ensures
