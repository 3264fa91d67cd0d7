use Rattle.std.proofs.Common.{[], slice_index_or, ap₂, ◌∙◌, arith}
use Rattle.xet_base.specs.Blake3.{parent_words}
use Rattle.xet_base.proofs.Blake3.{four_are}
use Rattle.xet_base.proofs.keyed_hash.tree.four_words.Goals as goal

pub returns : goal.returns
returns c =
    let words = c.four_chunks-words.ensures in
    let left = c.parent_words-left.ensures ∙ (λ i. parent_words c.args.key.now 0 (slice_index_or (words i) 0 []) (slice_index_or (words i) 1 [])) in
    let right = c.parent_words-right.ensures ∙ (λ i. parent_words c.args.key.now 0 (slice_index_or (words i) 2 []) (slice_index_or (words i) 3 [])) in
    c.parent_words.ensures ∙ ap₂ (parent_words c.args.key.now c.args.top) left right
    ∙ four_are c.args.key.now c.args.t c.args.top c.args.bytes.now _ _ _ _ _ _ c.requires.len c.split_at.ensures.front c.split_at.ensures.back
    c.split_at.ensures.front_len (omega (arith, c.split_at.ensures.back_len, c.requires.len))
    c.split_at-2.ensures.front c.split_at-2.ensures.back c.split_at-3.ensures.front c.split_at-3.ensures.back
