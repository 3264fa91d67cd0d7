use Rattle.std.proofs.Common.{sym, ◌∙◌}
use Rattle.placed_shards.proofs.of_agreeing.OfAgreeingUnionPlacedXorb.laws.Goals as goal

pub returns-clause-made_once : goal.returns-clause-made_once
returns-clause-made_once c = λ a b x y one other. one.1 ∙ sym other.1
