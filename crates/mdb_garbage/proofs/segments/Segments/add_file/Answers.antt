use Rattle.mdb_garbage.proofs.Collecting.{segments_with_file}
use Rattle.mdb_garbage.proofs.segments.Segments.add_file.Goals as goal

pub returns-clause-holds : goal.returns-clause-holds
returns-clause-holds c = λ files holds. segments_with_file files c.args.file.now c.args.self.now.range _ _ c.in_ok-add_segments.ensures holds
