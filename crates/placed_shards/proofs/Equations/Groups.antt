-- If the union of three shards that agree is made in one grouping, it can be made in the other.
use Rattle.std.proofs.Common.{◌≡◌, [], ◌∷◌, sym, ap, ◌∙◌}
use Rattle.std.specs.Prelude.{Contains}
use Rattle.std.proofs.lemmas.List.Elements.{Contains-append_right}
use Rattle.xet_shards.specs.Content.Joins.{IsJoinOf}
use Rattle.xet_shards.specs.Content.SetOperations.{IsUnion, ShardsAgree, RowsFitU32}
use Rattle.xet_shards.specs.Content.Shard.{IsShard}
use Rattle.xet_shards.specs.declared.shard_format.ends.options.LayoutOptions.{LayoutOptions}
use Rattle.xet_shards.proofs.Content.AgreeingJoins.{fewer_if_more, union_is_shard}
use Rattle.xet_shards.proofs.Content.Joins.{follows_parts, join-append, join-one, union_is_join}
use Rattle.xet_shards.proofs.Content.Overlays.{union_exists, united_shard}
use Rattle.xet_shards.proofs.Content.Unions.{union_agrees}
use Rattle.xet_core_structures.proofs.Records.ByteUnions.{byte_union_is_union}
use Rattle.placed_shards.specs.Content.{Content}
use Rattle.placed_shards.specs.Findings.{AgreeInAll}
use Rattle.placed_shards.specs.Laws.{IsWellFormedShard}
use Rattle.placed_shards.specs.MergedLists.{shard_content}
use Rattle.placed_shards.specs.Unions.{IsUnionOf}
use Rattle.placed_shards.proofs.JoinedMerges.{as_shard, shards_agree}
use Rattle.placed_shards.proofs.Merges.{as_byte_union, few_rows, has_union, made_ascends, shard_in}

pub last_united : (a b c ab made : Content) → IsWellFormedShard a → IsWellFormedShard b → IsWellFormedShard c → AgreeInAll a b → AgreeInAll a c → AgreeInAll b c
    → IsUnionOf a b ab → IsUnionOf ab c made → (bc : Content) × IsUnionOf b c bc
last_united a b c ab made a_well b_well c_well a_b a_c b_c one union =
    let x = shard_in a in
    let y = shard_in b in
    let z = shard_in c in
    let xy = shard_in ab in
    let yz = united_shard y z in
    let x_is = as_shard a a_well in
    let y_is = as_shard b b_well in
    let z_is = as_shard c c_well in
    let x_y = shards_agree a b a_well.ascend b_well.ascend a_b in
    let y_z = shards_agree b c b_well.ascend c_well.ascend b_c in
    let x_with_y : IsUnion x y xy = byte_union_is_union x y xy x_is y_is x_y (as_byte_union a b ab a_well.ascend b_well.ascend one) in
    let xy_is : IsShard xy = union_is_shard x y xy x_is y_is x_y x_with_y (few_rows a b ab one) in
    let xy_z : ShardsAgree xy z = union_agrees x y z xy (shards_agree a c a_well.ascend c_well.ascend a_c) y_z x_with_y in
    let all : IsUnion xy z (shard_in made) =
    byte_union_is_union xy z (shard_in made) xy_is z_is xy_z (as_byte_union ab c made (made_ascends a b ab a_well.ascend b_well.ascend one) c_well.ascend union) in
    let more : IsJoinOf (Contains (x ∷ y ∷ z ∷ [])) (shard_in made) =
    join-append (x ∷ y ∷ []) (z ∷ []) xy z (shard_in made) (union_is_join x y xy x_is y_is x_y x_with_y) (join-one z (follows_parts z z_is)) xy_z all in
    let fewer : IsJoinOf (Contains (y ∷ z ∷ [])) yz = union_is_join y z yz y_is z_is y_z (union_exists y z) in
    let few : RowsFitU32 yz =
    fewer_if_more (Contains (y ∷ z ∷ [])) (Contains (x ∷ y ∷ z ∷ [])) yz (shard_in made) fewer more (λ s. Contains-append_right (x ∷ []) (y ∷ z ∷ []) s) (few_rows ab c made union) in
    let key : b.options.key ≡ c.options.key = sym one.same_key ∙ sym (ap (λ (o : LayoutOptions). o.key) one.options_are) ∙ union.same_key in
    (shard_content b.options.key yz, has_union b c yz b_well.ascend c_well.ascend y_is z_is y_z (union_exists y z) key few)
