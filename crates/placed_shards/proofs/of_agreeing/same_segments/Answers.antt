use Rattle.std.proofs.lemmas.Slice.Eq.{slice_eq-Decides}
use Rattle.placed_shards.proofs.Equalities.{segments_decide}
use Rattle.placed_shards.proofs.of_agreeing.same_segments.Goals as goal

pub returns : goal.returns
returns c = slice_eq-Decides segments_decide c.args.first.now.segments c.args.second.now.segments c.eq.result c.eq.ensures
