use Rattle.std.proofs.Common.{◌/◌, ap, ◌∙◌, arith}
use Rattle.xet_base.specs.Blake3.{chaining_value}
use Rattle.xet_base.proofs.Blake3.{no_blocks, block_more, chunk_is}
use Rattle.xet_base.proofs.keyed_hash.tree.chunk_words.Goals as goal

pub loop-n-init : goal.loop-n-init
loop-n-init c = no_blocks c.args.key.now c.args.t c.args.bytes.now

pub loop-n-preserved : goal.loop-n-preserved
loop-n-preserved c =
    c.chaining_value-words.ensures ∙ (λ i. chaining_value (c.loop-n.invariant i) (c.block_at.ensures i) c.args.t 64 (c.block_flags.ensures.is i))
    ∙ block_more c.args.key.now c.args.t c.args.bytes.now c.loop-n.n

pub returns : goal.returns
returns c =
    c.chaining_value.ensures
    ∙ chunk_is c.args.key.now c.args.t c.args.top c.args.bytes.now c.loop-n.words _ c.loop-n.n (c.saturating_sub-whole.result / 64) _ _
    (ap (λ l. l / 64) c.saturating_sub-whole.ensures) (omega arith) c.loop-n.invariant c.block_at-2.ensures (omega arith) c.block_flags-2.ensures.is
