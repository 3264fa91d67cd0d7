use Rattle.xet_core_structures.proofs.TwoShards.Results.{files_unique}
use Rattle.placed_shards.proofs.of_union.OfUnionUnionPlacedFile.laws.Goals as goal

pub returns-clause-made_once : goal.returns-clause-made_once
returns-clause-made_once c = files_unique
