use Rattle.std.proofs.Common.{refl}
use Rattle.shard_concatenation.proofs.ChunkCuts.{rows_are_behind}
use Rattle.shard_concatenation.proofs.chunk_cuts.behind.Goals as goal

pub returns-clause-held : goal.returns-clause-held
returns-clause-held c = λ rows holds. rows_are_behind c.args.cursor.now _ c.args.word c.cut_of-cut.result rows holds (c.cut_of-cut.ensures.cut rows holds) c.cut_of-cut.ensures.within refl refl
