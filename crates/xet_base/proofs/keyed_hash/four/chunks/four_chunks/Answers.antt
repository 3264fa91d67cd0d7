use Rattle.std.proofs.Common.{◌≡◌, ℕ, ◌+◌, ◌<◌, [], ◌∷◌, slice_index_or, ◌∙◌, arith}
use Rattle.xet_base.specs.Blake3.{chaining_value}
use Rattle.xet_base.proofs.Blake3.{no_blocks, block_more, whole_chunk}
use Rattle.xet_base.proofs.keyed_hash.four.chunks.four_chunks.Goals as goal

pub loop-n-init : goal.loop-n-init
loop-n-init c j h = c.in_each_lane-words.ensures j h ∙ no_blocks c.args.key.now (c.args.t + j) (slice_index_or (c.args.a.now ∷ c.args.b.now ∷ c.args.c.now ∷ c.args.d.now ∷ []) j [])

pub loop-n-preserved : goal.loop-n-preserved
loop-n-preserved c j h =
    c.chaining_value-words.ensures j h
    ∙ (λ i. chaining_value (c.loop-n.invariant j h i) (c.blocks_at.ensures j h i) (c.args.t + j) 64 (c.block_flags.ensures.is i))
    ∙ block_more c.args.key.now (c.args.t + j) (slice_index_or (c.args.a.now ∷ c.args.b.now ∷ c.args.c.now ∷ c.args.d.now ∷ []) j []) c.loop-n.n

pub returns : goal.returns
returns c =
    let n_is : c.loop-n.n ≡ 15 = omega arith in
    let words = λ (j : ℕ) (h : j < 4). c.loop-n.invariant j h in
    let first = c.lane_of_eight.ensures ∙ c.chaining_value-last.ensures 0 (omega arith)
    ∙ whole_chunk _ c.args.t _ c.args.a.now _ _ _ _ c.requires.a n_is (omega arith) (words 0 (omega arith)) (c.blocks_at-2.ensures 0 (omega arith)) c.block_flags-2.ensures.is in
    let second = c.lane_of_eight-2.ensures ∙ c.chaining_value-last.ensures 1 (omega arith)
    ∙ whole_chunk _ (c.args.t + 1) _ c.args.b.now _ _ _ _ c.requires.b n_is (omega arith) (words 1 (omega arith)) (c.blocks_at-2.ensures 1 (omega arith)) c.block_flags-2.ensures.is in
    let third = c.lane_of_eight-3.ensures ∙ c.chaining_value-last.ensures 2 (omega arith)
    ∙ whole_chunk _ (c.args.t + 2) _ c.args.c.now _ _ _ _ c.requires.c n_is (omega arith) (words 2 (omega arith)) (c.blocks_at-2.ensures 2 (omega arith)) c.block_flags-2.ensures.is in
    let fourth = c.lane_of_eight-4.ensures ∙ c.chaining_value-last.ensures 3 (omega arith)
    ∙ whole_chunk _ (c.args.t + 3) _ c.args.d.now _ _ _ _ c.requires.d n_is (omega arith) (words 3 (omega arith)) (c.blocks_at-2.ensures 3 (omega arith)) c.block_flags-2.ensures.is in
    λ i. first i ∷ second i ∷ third i ∷ fourth i ∷ []
