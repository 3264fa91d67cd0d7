use Rattle.std.proofs.Common.{[], ◌∷◌, ◌++◌, arith}
use Rattle.xet_base.proofs.Blake3.{are_eight}
use Rattle.xet_base.proofs.keyed_hash.tree.block_state.Goals as goal

pub returns : goal.returns
returns c =
    let before = are_eight c.args.before.now (omega arith) in
    λ i. before i ++ (0x6A09E667 ∷ 0xBB67AE85 ∷ 0x3C6EF372 ∷ 0xA54FF53A ∷ c.low_word.ensures i ∷ c.high_word.ensures i ∷ c.args.len ∷ c.args.flags ∷ [])
