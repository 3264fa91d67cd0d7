use Rattle.std.proofs.lemmas.Slice.Eq.{slice_eq-Decides}
use Rattle.placed_shards.proofs.Equalities.{hash_rows_decide}
use Rattle.placed_shards.proofs.of_agreeing.same_verification.Goals as goal

pub returns : goal.returns
returns c = slice_eq-Decides hash_rows_decide c.args.first.now.verification c.args.second.now.verification c.eq.result c.eq.ensures
