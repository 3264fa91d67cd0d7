use Rattle.std.proofs.Common.{ap, subst, is_some}
use Rattle.std.specs.Prelude.{IsSome}
use Rattle.std.specs.BTreeMap.{get_by_text}
use Rattle.shardtool.proofs.workspace.Workspace.make_shard.Goals as goal

pub returns-clause-made : goal.returns-clause-made
returns-clause-made c = subst (λ bs. IsSome (get_by_text c.insert.new.self bs)) c.in_ok-name.ensures.ok (ap is_some c.in_ok-insert.ensures.updates.1)
