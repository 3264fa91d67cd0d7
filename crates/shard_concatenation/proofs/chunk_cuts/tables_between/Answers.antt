use Rattle.std.proofs.Common.{◌+◌, ◌∙◌, flat_map, take, sym, subst}
use Rattle.shard_concatenation.specs.Steps.ChunkMerging.{rows_held}
use Rattle.shard_concatenation.specs.Steps.ChunkCuts.{rows_behind, rows_between, HoldInTables}
use Rattle.shard_concatenation.proofs.ChunkCuts.{tables_more}
use Rattle.shard_concatenation.proofs.chunk_cuts.tables_between.Goals as goal

pub loop-cursor-preserved : goal.loop-cursor-preserved
loop-cursor-preserved c = λ held are hold.
    subst (HoldInTables (rows_between c.args.low c.args.high (flat_map rows_held (take (c.loop-cursor.cursor-index + 1) held)))) (sym c.in_ok-push.ensures.items)
    (tables_more held c.args.cursors.now are hold c.loop-cursor.cursor-index _ c.loop-cursor-test.true c.args.low c.args.high c.loop-cursor.tables.items c.until.result
    (c.loop-cursor.invariant held are hold) (c.until.ensures.first ∙ c.behind.ensures.first) (λ rows holds. c.until.ensures.held (rows_behind c.args.low rows) (c.behind.ensures.held rows holds)))
