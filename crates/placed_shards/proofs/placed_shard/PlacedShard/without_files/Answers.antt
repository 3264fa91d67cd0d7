use Rattle.std.proofs.Common.{ap, ◌∙◌}
use Rattle.placed_shards.specs.StoredFiles.{files_as}
use Rattle.placed_shards.proofs.Changing.{no_files}
use Rattle.placed_shards.proofs.placed_shard.PlacedShard.without_files.Goals as goal

pub returns-clause-content : goal.returns-clause-content
returns-clause-content c =
    let s = c.args.self in
    let files = ap (files_as s.as_read) c.clear.ensures.items ∙ no_files s.as_read in
    λ i. record { files = files i; xorbs = s.xorbs.items; options = s.options }
