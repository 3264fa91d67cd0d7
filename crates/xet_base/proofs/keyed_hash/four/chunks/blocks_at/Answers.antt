use Rattle.xet_base.proofs.Lanes.{below_four}
use Rattle.xet_base.proofs.Blake3.{block_is}
use Rattle.xet_base.proofs.keyed_hash.four.chunks.blocks_at.Goals as goal

pub returns : goal.returns
returns c =
    below_four _ (block_is _ _ _ c.whole_block-a.ensures) (block_is _ _ _ c.whole_block-b.ensures) (block_is _ _ _ c.whole_block-c.ensures) (block_is _ _ _ c.whole_block-d.ensures)
