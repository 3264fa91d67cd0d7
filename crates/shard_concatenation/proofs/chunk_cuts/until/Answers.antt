use Rattle.std.proofs.Common.{refl, sym, subst}
use Rattle.std.specs.Prelude.{filter}
use Rattle.shard_concatenation.specs.Steps.ChunkMerging.{HoldsRows}
use Rattle.shard_concatenation.specs.Steps.ChunkCuts.{is_until}
use Rattle.shard_concatenation.proofs.ChunkCuts.{until_end, rows_are_until}
use Rattle.shard_concatenation.proofs.chunk_cuts.until.Goals as goal

pub returns-in_default-clause-held : goal.returns-in_default-clause-held
returns-in_default-clause-held c = λ rows holds.
    subst (λ word. HoldsRows (c.args.cursor.now, filter (is_until word) rows)) (sym c.in_default.is) (subst (λ rs. HoldsRows (c.args.cursor.now, rs)) (sym (until_end rows)) holds)

pub returns-clause-held : goal.returns-clause-held
returns-clause-held c = λ rows holds.
    rows_are_until c.args.cursor.now _ c.in-Some.word c.cut_of-cut.result rows holds (c.cut_of-cut.ensures.cut rows holds) c.cut_of-cut.ensures.within refl c.args.word c.in-Some.is refl
