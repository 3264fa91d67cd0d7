use Rattle.std.proofs.Common.{rules}
use Rattle.std.proofs.lemmas.Slice.Eq.{slice_eq-Decides}
use Rattle.xet_shards.specs.declared.shard_writer.ChunkTableRow.{ChunkTableRow}
use Rattle.shard_bytes.proofs.check.reordered.are_equal.Goals as goal

pub returns : goal.returns
returns c =
    let d = slice_eq-Decides (λ (a b : ChunkTableRow). search rules) c.args.first.now c.args.second.now c.eq.result c.eq.ensures in
    search (rules, d)
