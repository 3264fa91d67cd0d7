use Rattle.std.proofs.Common.{[], ◌∷◌, sym, subst, ◌∙◌}
use Rattle.std.specs.Prelude.{Contains}
use Rattle.std.specs.FinMap.{get}
use Rattle.std.specs.Option.{option_or}
use Rattle.xet_shards.specs.ShardInMemory.ChunkLookup.{ShardWithLookup}
use Rattle.xet_shards.specs.Content.Joining.{either_file}
use Rattle.xet_shards.specs.Steps.JoiningSteps.{CanJoinFiles}
use Rattle.xet_shards.specs.Content.Joins.{IsJoinOf}
use Rattle.xet_shards.proofs.Content.Overlays.{can_join_united}
use Rattle.xet_shards.proofs.Content.Joins.{union_is_join}
use Rattle.xet_shards.proofs.shard_in_memory.MDBInMemoryShard.union.Goals as goal

pub union-requires : goal.union-requires
union-requires c =
    let can = can_join_united c.args.self.now.content c.args.other.now.content (c.can_unite.ensures.0 c.if-not-can_unite.false) in
    subst (λ (s : ShardWithLookup). CanJoinFiles s.content.files c.other.inside.files) (sym c.self.view_is)
    (subst (λ (s : ShardWithLookup). CanJoinFiles c.args.self.now.content.files s.content.files) (sym c.other.view_is) can)

pub from_stores-requires : goal.from_stores-requires
from_stores-requires c = (c.can_unite.ensures.0 c.if-not-can_unite.false).rows _ record {
  files = λ q. c.in_ok-files.ensures.ok q ∙ (λ i. either_file (get (c.self.view_is i).content.files q) (get (c.other.view_is i).content.files q));
  xorbs = λ q. c.in_ok-xorbs.ensures.ok q ∙ (λ i. option_or (get (c.other.view_is i).content.xorbs q) (get (c.self.view_is i).content.xorbs q));
}

pub returns-clause-join : goal.returns-clause-join
returns-clause-join c = λ agree. subst (λ (s : ShardWithLookup). IsJoinOf (Contains (c.args.self.now.content ∷ c.args.other.now.content ∷ [])) s.content) (sym c.from_stores.ensures)
    (union_is_join c.args.self.now.content c.args.other.now.content _ c.invariant.ensures c.invariant-2.ensures agree record {
      files = λ q. c.in_ok-files.ensures.ok q ∙ (λ i. either_file (get (c.self.view_is i).content.files q) (get (c.other.view_is i).content.files q));
      xorbs = λ q. c.in_ok-xorbs.ensures.ok q ∙ (λ i. option_or (get (c.other.view_is i).content.xorbs q) (get (c.self.view_is i).content.xorbs q));
    })
