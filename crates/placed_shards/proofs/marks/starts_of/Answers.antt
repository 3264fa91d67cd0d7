use Rattle.std.proofs.Common.{◌++◌, take, take_all, flat_map, sym, ap, ◌∙◌, rules}
use Rattle.std.specs.Ordering.{eq_by_cmp}
use Rattle.std.proofs.lemmas.List.Sorted.{list_any-IsPermutation}
use Rattle.xet_shards.specs.StreamingShard.MinimalShard.{start_cmp, start_of_file, has_start}
use Rattle.xet_shards.proofs.StreamingShard.MinimalShard.{one_more_item}
use Rattle.xet_shards.proofs.ShardInMemory.Walks.{flat_map-push}
use Rattle.placed_shards.proofs.marks.starts_of.Goals as goal

pub loop-file-preserved : goal.loop-file-preserved
loop-file-preserved c =
    let i = c.loop-file.file-index in
    let file = c.file-item.result in
    c.in_ok-push_start.ensures ∙ ap (λ ss. ss ++ start_of_file file) c.loop-file.invariant
    ∙ sym (ap (flat_map start_of_file) (one_more_item c.args.files.now i file c.loop-file-test.true c.file-item.is) ∙ flat_map-push start_of_file (take i c.args.files.now) file)

pub returns : goal.returns
returns c =
    let all = c.loop-file.invariant ∙ ap (flat_map start_of_file) (take_all c.loop-file.file-index c.args.files.now c.loop-file-test.false) in
    (λ j at. (sym (list_any-IsPermutation (eq_by_cmp start_cmp at) _ _ c.sort_unstable.ensures.permutation) ∙ ap (λ ss. has_start ss at) all) j, search rules)
