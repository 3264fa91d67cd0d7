use Rattle.std.proofs.Common.{◌<◌, ◌≤◌, length, map, set, ap, ◌∙◌, rules}
use Rattle.std.proofs.lemmas.List.Edits.{map_over_more}
use Rattle.xet_shards.specs.StreamingShard.MinimalShard.{has_start, mark_starts}
use Rattle.xet_shards.proofs.Content.KeyedHashes.{all_mapped}
use Rattle.placed_shards.proofs.marks.all_marked.Goals as goal

pub loop-index-preserved : goal.loop-index-preserved
loop-index-preserved c =
    let old = c.loop-index.xorbs.items in
    let i = c.loop-index.index in
    let within : i < length c.args.xorbs.items = search rules in
    ap (set old i) (c.in_ok-xorbs.ensures ∙ ap (λ ss. mark_starts (has_start ss) c.index.result.now) c.as_slice.ensures.value)
    ∙ map_over_more (mark_starts (has_start c.in_ok-starts.starts.items)) c.args.xorbs.items old i c.index.result.now within c.loop-index.invariant c.index.ensures

pub returns : goal.returns
returns c =
    let xs = c.args.xorbs.items in
    let past : length xs ≤ c.loop-index.index = search rules in
    c.loop-index.invariant ∙ all_mapped (mark_starts (has_start c.in_ok-starts.starts.items)) xs c.loop-index.index past ∙ ap (λ p. map (mark_starts p) xs) c.in_ok-starts.ensures.0
