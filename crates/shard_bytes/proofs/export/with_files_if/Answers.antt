use Rattle.std.proofs.Common.{sym, ap, ◌∙◌}
use Rattle.xet_core_structures.specs.Layout.{if_included}
use Rattle.placed_shards.specs.Content.{content}
use Rattle.shard_bytes.proofs.export.with_files_if.Goals as goal

pub returns-then-wanted-clause-content : goal.returns-then-wanted-clause-content
returns-then-wanted-clause-content c = ap (λ b. record (content c.args.shard) { files = if_included b (content c.args.shard).files }) (sym c.if-wanted.true)

pub returns-else-wanted-clause-content : goal.returns-else-wanted-clause-content
returns-else-wanted-clause-content c = c.without_files.ensures.content ∙ ap (λ b. record (content c.args.shard) { files = if_included b (content c.args.shard).files }) (sym c.if-wanted.false)
