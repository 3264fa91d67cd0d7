use Rattle.xet_core_structures.proofs.TwoShards.Results.{files_unique}
use Rattle.placed_shards.proofs.of_agreeing.OfAgreeingUnionPlacedFile.laws.Goals as goal

pub returns-clause-made_once : goal.returns-clause-made_once
returns-clause-made_once c = λ a b x y one other. files_unique a b x y one.1 other.1
