use Rattle.std.proofs.Common.{◌≡◌, ◌≢◌, ap, ◌∙◌, rules}
use Rattle.xet_shards.specs.declared.shard_format.ends.options.LayoutOptions.{LayoutOptions}
use Rattle.placed_shards.specs.declared.selection.Access.TheVariants.{Tables}
use Rattle.placed_shards.specs.Content.{content}
use Rattle.placed_shards.proofs.Merges.{opened_alone}
use Rattle.placed_shards.proofs.OpenedInputs.{alone_by_scan, alone_by_tables}
use Rattle.placed_shards.proofs.merge.open_selected.Goals as goal

pub returns-then-eq : goal.returns-then-eq
returns-then-eq c =
    let by : c.args.selection.access ≡ Tables = search rules in
    alone_by_tables c.args.selection c.args.bytes.now by c.open_by_tables.result c.open_by_tables.ensures

pub returns : goal.returns
returns c =
    let by : c.args.selection.access ≢ Tables = search rules in
    let s = c.in_ok-shard.shard in
    alone_by_scan c.args.selection c.args.bytes.now by c.with_options.result (c.with_options.ensures.as_read ∙ c.within.ensures.as_read ∙ c.in_ok-shard.ensures.0)
    (opened_alone c.args.selection.range c.args.bytes.now (content s) (content c.within.result) _ c.with_options.result c.in_ok-shard.ensures.1 c.within.ensures.content
    (ap (λ (o : LayoutOptions). record o { key = s.options.key }) c.plain.ensures) c.with_options.ensures.content)
