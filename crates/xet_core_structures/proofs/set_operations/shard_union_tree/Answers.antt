use Rattle.std.proofs.Common.{ℕ, List, map}
use Rattle.std.specs.Borrow.{Bor}
use Rattle.xet_core_structures.proofs.Trees.MergeTrees.{one_string}
use Rattle.xet_core_structures.proofs.set_operations.shard_union_tree.Goals as goal

pub returns-clause-one_byte_string : goal.returns-clause-one_byte_string
returns-clause-one_byte_string c = λ shards join merge. one_string (map (λ (x : Bor (List ℕ)). x.now) c.args.inputs.now) c.args.plan.now shards join merge c.merge.result c.merge.ensures
