use Rattle.std.proofs.Common.{◌+◌, ◌-◌, ◌*◌, ◌^◌, ◌≤◌, length, ◌∙◌, arith}
use Rattle.xet_base.proofs.Blake3.{leaf_is_chunk, half_is_tree, parts_are, pow-double}
use Rattle.xet_base.proofs.keyed_hash.tree.+tree_words.Goals as goal

pub returns-then-level-eq0 : goal.returns-then-level-eq0
returns-then-level-eq0 t c = c.chunk_words.ensures ∙ leaf_is_chunk c.args.key.now c.args.level c.args.t c.args.top c.args.bytes.now c.if-level-eq0.true

pub returns-then-bytes-size : goal.returns-then-bytes-size
returns-then-bytes-size t c =
    c.tree_words.ensures ∙ half_is_tree c.args.key.now c.args.level _ c.args.t c.args.top c.args.bytes.now (omega (arith, c.if-level-eq0.false))
    (omega (arith, c.if-bytes-size.true, c.chunks_below-half.ensures.is))

pub tree_words-right-requires : goal.tree_words-right-requires
tree_words-right-requires t c =
    let half = c.chunks_below-half.ensures.is in
    let whole = pow-double c.args.level (c.args.level - 1) (omega (arith, c.if-level-eq0.false)) in
    let room : length c.split_at.result.1.now ≤ 1024 * 2 ^ (c.args.level - 1) = omega (arith, c.requires.room, whole, half, c.split_at.ensures.back_len) in
    let counter : 1024 * (c.args.t + c.chunks_below-half.result) + length c.split_at.result.1.now ≤ 2 ^ 64 = omega (arith, c.requires.counter, c.split_at.ensures.back_len) in
    (omega (arith, c.if-level-eq0.false, c.decreases), (omega arith, (room, (counter, omega arith))))

pub returns : goal.returns
returns t c =
    c.parent_words.ensures
    ∙ parts_are c.args.key.now c.args.level (c.args.level - 1) c.args.t c.args.top c.chunks_below-half.result c.args.bytes.now _ _ _ _ (omega (arith, c.if-level-eq0.false))
    c.chunks_below-half.ensures.is (omega (arith, c.if-bytes-size.false)) c.split_at.ensures.front c.split_at.ensures.back
    c.tree_words-left.ensures c.tree_words-right.ensures
