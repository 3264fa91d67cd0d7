use Rattle.std.proofs.Common.{◌≡◌, Bool, false, T, sym, subst, true≢false, IsTrue, arith}
use Rattle.std.specs.Prelude.{◌↔◌}
use Rattle.std.proofs.lemmas.Bool.{leb-true, le-leb}
use Rattle.std.specs.FinMap.{is_sorted, entries_sorted}
use Rattle.xet_base.specs.Hash.{hash_cmp}
use Rattle.xet_shards.specs.ShardInMemory.ChunkLookup.{ShardWithLookup}
use Rattle.xet_shards.specs.ShardInMemory.InMemoryShard.{shard_inside}
use Rattle.xet_shards.specs.Steps.JoiningSteps.{CanJoinFiles}
use Rattle.xet_shards.specs.Content.SetOperations.{CanUnite}
use Rattle.xet_shards.proofs.Content.Overlays.{from_sorted-entries, can_join_united, unite_if_few, few_if_unite}
use Rattle.xet_shards.proofs.shard_in_memory.MDBInMemoryShard.can_unite.Goals as goal

-- for the shards as contracts see them, not their fields
as_contracts_see : (b : Bool) (s t u v : ShardWithLookup) → s ≡ u → t ≡ v → IsTrue b ↔ CanUnite s.content t.content → IsTrue b ↔ CanUnite u.content v.content
as_contracts_see b s t u v own other = subst (λ (p : ShardWithLookup × ShardWithLookup). IsTrue b ↔ CanUnite p.0.content p.1.content) (λ i. (own i, other i))

pub returns-in_default : goal.returns-in_default
returns-in_default c = as_contracts_see false _ _ _ _ c.self.view_is c.other.view_is (
  λ wrong. absurd (true≢false (sym wrong)),
  λ can. absurd (c.in_default.ensures (subst (λ m. CanJoinFiles m c.other.inside.files) (sym (from_sorted-entries c.self.inside.files c.content.result.now.entries c.content.ensures.entries))
      (can_join_united (shard_inside c.self.inside).content (shard_inside c.other.inside).content can))),
)

pub united_file_rows-files-requires-clause-sorted : goal.united_file_rows-files-requires-clause-sorted
united_file_rows-files-requires-clause-sorted c = subst (λ es. T (is_sorted hash_cmp es)) (sym c.content.ensures.entries) (entries_sorted c.self.inside.files)

pub united_xorb_rows-xorb_rows-requires-clause-sorted : goal.united_xorb_rows-xorb_rows-requires-clause-sorted
united_xorb_rows-xorb_rows-requires-clause-sorted c = subst (λ es. T (is_sorted hash_cmp es)) (sym c.content-2.ensures.entries) (entries_sorted c.self.inside.xorbs.xorbs)

pub returns-then-file_rows-le-ROW_LIMIT : goal.returns-then-file_rows-le-ROW_LIMIT
returns-then-file_rows-le-ROW_LIMIT c =
    let own = (shard_inside c.self.inside).content in
    let others = (shard_inside c.other.inside).content in
    as_contracts_see _ _ _ _ _ c.self.view_is c.other.view_is (
      λ few. unite_if_few own others _ _ _ _ c.content.ensures.entries c.content-2.ensures.entries c.in-Some.ensures.1 c.united_xorb_rows-xorb_rows.ensures
          (subst (λ m. CanJoinFiles m others.files) (from_sorted-entries c.self.inside.files c.content.result.now.entries c.content.ensures.entries) c.in-Some.ensures.0) (omega (arith, c.if-file_rows-le-ROW_LIMIT.true))
          (omega (arith, leb-true c.united_xorb_rows-xorb_rows.result _ few)),
      λ can.
          let few = few_if_unite own others _ _ _ _ c.content.ensures.entries c.content-2.ensures.entries c.in-Some.ensures.1 c.united_xorb_rows-xorb_rows.ensures can in
          le-leb c.united_xorb_rows-xorb_rows.result _ (omega (arith, few.1)),
    )

pub returns-else-file_rows-le-ROW_LIMIT : goal.returns-else-file_rows-le-ROW_LIMIT
returns-else-file_rows-le-ROW_LIMIT c =
    as_contracts_see _ _ _ _ _ c.self.view_is c.other.view_is (
      λ few. absurd (omega (arith, leb-true c.in-Some.file_rows _ few, c.if-file_rows-le-ROW_LIMIT.false)),
      λ can.
          let few = few_if_unite (shard_inside c.self.inside).content (shard_inside c.other.inside).content _ _ _ _
          c.content.ensures.entries c.content-2.ensures.entries c.in-Some.ensures.1 c.united_xorb_rows-xorb_rows.ensures can in
          le-leb c.in-Some.file_rows _ (omega (arith, few.0)),
    )
