use Rattle.shard_concatenation.proofs.ChunkMerging.{held_there}
use Rattle.shard_concatenation.proofs.ChunkCuts.{whole_rows}
use Rattle.shard_concatenation.proofs.chunk_cuts.check_row_counts.Goals as goal

pub returns-then-cursor-ne0-clause-held : goal.returns-then-cursor-ne0-clause-held
returns-then-cursor-ne0-clause-held c = λ held are hold all.
    let there = held_there held c.args.cursors.now c.loop-cursor.cursor-index _ are hold c.loop-cursor-test.true in
    absurd (c.if-cursor-ne0.true (whole_rows _ there.0 there.1))
