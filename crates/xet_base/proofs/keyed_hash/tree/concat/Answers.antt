use Rattle.std.proofs.Common.{◌++◌, arith}
use Rattle.xet_base.proofs.Blake3.{are_eight}
use Rattle.xet_base.proofs.keyed_hash.tree.concat.Goals as goal

pub returns : goal.returns
returns c =
    let left = are_eight c.args.left.now (omega arith) in
    let right = are_eight c.args.right.now (omega arith) in
    λ i. left i ++ right i
