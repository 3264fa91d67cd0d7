use Rattle.std.proofs.Common.{◌<◌, length, set, ap, ◌∙◌, rules}
use Rattle.std.proofs.lemmas.List.Edits.{map_over_more}
use Rattle.xet_records.specs.View.{as_kept}
use Rattle.placed_shards.proofs.optional_parts.all_with_parts.Goals as goal

pub loop-index-preserved : goal.loop-index-preserved
loop-index-preserved c =
    let old = c.loop-index.files.items in
    let i = c.loop-index.index in
    let within : i < length c.args.files.items = search rules in
    ap (set old i) c.in_ok-files.ensures ∙ map_over_more (as_kept c.args.kept) c.args.files.items old i c.index.result.now within c.loop-index.invariant c.index.ensures
