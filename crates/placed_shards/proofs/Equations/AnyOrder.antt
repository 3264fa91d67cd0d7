-- Shards that agree have the same union in any order.
use Rattle.std.proofs.Common.{◌≡◌, sym, ap, ◌∙◌, subst}
use Rattle.std.specs.Prelude.{All}
use Rattle.std.specs.FinMap.{entries}
use Rattle.std.proofs.lemmas.List.Elements.{All-map}
use Rattle.xet_base.specs.declared.merklehash.DataHash.{DataHash}
use Rattle.xet_records.specs.declared.file_structs.MDBFileInfo.{MDBFileInfo}
use Rattle.xet_records.specs.declared.xorb_structs.MDBXorbInfo.{MDBXorbInfo}
use Rattle.xet_records.specs.FileRecord.{file_records, IsWellFormed}
use Rattle.xet_records.specs.XorbRecord.{xorb_records, IsXorb}
use Rattle.xet_shards.specs.Content.SetOperations.{IsUnion, ShardsAgree}
use Rattle.xet_shards.specs.Content.Shard.{Shard, IsShard}
use Rattle.xet_shards.specs.declared.shard_format.ends.options.LayoutOptions.{LayoutOptions}
use Rattle.xet_shards.proofs.Content.AgreeingJoins.{union_is_shard}
use Rattle.xet_shards.proofs.Content.Overlays.{union_exists, united_shard}
use Rattle.xet_shards.proofs.Content.Unions.{union-assoc, union-comm, union_agrees}
use Rattle.xet_core_structures.specs.Records.ByteUnion.{IsByteUnion, IsEitherFile, IsEitherXorb}
use Rattle.xet_core_structures.specs.TwoShards.ByteResults.{keyed_options}
use Rattle.xet_core_structures.proofs.Records.ByteUnions.{byte_union_is_union, union_is_byte_union}
use Rattle.xet_core_structures.proofs.Records.ListMaps.{get-list_map, values-list_map}
use Rattle.placed_shards.specs.Content.{Content, AscendBoth}
use Rattle.placed_shards.specs.Findings.{AgreeInAll}
use Rattle.placed_shards.specs.Laws.{IsWellFormedShard}
use Rattle.placed_shards.specs.Unions.{IsUnionOf}
use Rattle.placed_shards.proofs.AgreedUnions as agreed
use Rattle.placed_shards.proofs.JoinedMerges.{as_shard, shards_agree}
use Rattle.placed_shards.proofs.Merges.{as_byte_union, few_rows, made_ascends, shard_in}

-- what is the union of two shards is that of two others, if its records are what they make
module _ (c d e f made : Content) (union : IsUnionOf c d made) (first : AscendBoth e) (second : AscendBoth f) (key : c.options.key ≡ e.options.key) (same : e.options.key ≡ f.options.key) where
  also_union : IsByteUnion (shard_in e) (shard_in f) (shard_in made) → IsUnionOf e f made
  also_union bytes = record {
    same_key = same;
    files = record {
      combined = record {
        ascends = union.files.combined.ascends;
        each = λ q. subst (λ p. p)
            (λ i. IsEitherFile (get-list_map file_records e.files first.files q i) (get-list_map file_records f.files second.files q i) (get-list_map file_records made.files union.files.combined.ascends q i))
            (bytes.files q);
        stored = union.files.combined.stored;
      };
      rows = union.files.rows;
    };
    xorbs = record {
      combined = record {
        ascends = union.xorbs.combined.ascends;
        each = λ q. subst (λ p. p)
            (λ i. IsEitherXorb (get-list_map xorb_records e.xorbs first.xorbs q i) (get-list_map xorb_records f.xorbs second.xorbs q i) (get-list_map xorb_records made.xorbs union.xorbs.combined.ascends q i))
            (bytes.xorbs q);
        stored = union.xorbs.combined.stored;
      };
      rows = union.xorbs.rows;
    };
    options_are = union.options_are ∙ ap keyed_options key;
  }

-- two shards, exchanged
pub turned : (c d made : Content) → IsWellFormedShard c → IsWellFormedShard d → AgreeInAll c d → IsUnionOf c d made → IsUnionOf d c made
turned c d made first second agree union =
    let one = shard_in c in
    let other = shard_in d in
    let back : ShardsAgree other one = shards_agree d c second.ascend first.ascend (agreed.turned c d agree) in
    let both = byte_union_is_union one other (shard_in made) (as_shard c first) (as_shard d second) (shards_agree c d first.ascend second.ascend agree)
    (as_byte_union c d made first.ascend second.ascend union) in
    let same : united_shard other one ≡ shard_in made =
    union-comm other one (united_shard other one) (shard_in made) (as_shard d second) (as_shard c first) back (union_exists other one) both in
    also_union c d d c made union second.ascend first.ascend union.same_key (sym union.same_key)
    (union_is_byte_union other one (shard_in made) (as_shard d second) (as_shard c first) back (subst (IsUnion other one) same (union_exists other one)))

-- three shards, in either grouping
pub grouped : (a b c ab bc made : Content) → IsWellFormedShard a → IsWellFormedShard b → IsWellFormedShard c → AgreeInAll a b → AgreeInAll a c → AgreeInAll b c
    → IsUnionOf a b ab → IsUnionOf b c bc → IsUnionOf ab c made → IsUnionOf a bc made
grouped a b c ab bc made a_well b_well c_well a_b a_c b_c one other union =
    let x = shard_in a in
    let y = shard_in b in
    let z = shard_in c in
    let xy = shard_in ab in
    let yz = shard_in bc in
    let x_is = as_shard a a_well in
    let y_is = as_shard b b_well in
    let z_is = as_shard c c_well in
    let x_y = shards_agree a b a_well.ascend b_well.ascend a_b in
    let x_z = shards_agree a c a_well.ascend c_well.ascend a_c in
    let y_z = shards_agree b c b_well.ascend c_well.ascend b_c in
    let y_x = shards_agree b a b_well.ascend a_well.ascend (agreed.turned a b a_b) in
    let z_x = shards_agree c a c_well.ascend a_well.ascend (agreed.turned a c a_c) in
    let ab_ascend = made_ascends a b ab a_well.ascend b_well.ascend one in
    let bc_ascend = made_ascends b c bc b_well.ascend c_well.ascend other in
    let x_with_y : IsUnion x y xy = byte_union_is_union x y xy x_is y_is x_y (as_byte_union a b ab a_well.ascend b_well.ascend one) in
    let y_with_z : IsUnion y z yz = byte_union_is_union y z yz y_is z_is y_z (as_byte_union b c bc b_well.ascend c_well.ascend other) in
    let xy_is : IsShard xy = union_is_shard x y xy x_is y_is x_y x_with_y (few_rows a b ab one) in
    let yz_is : IsShard yz = union_is_shard y z yz y_is z_is y_z y_with_z (few_rows b c bc other) in
    let left : IsUnion xy z (shard_in made) = byte_union_is_union xy z (shard_in made) xy_is z_is (union_agrees x y z xy x_z y_z x_with_y) (as_byte_union ab c made ab_ascend c_well.ascend union) in
    let same : shard_in made ≡ united_shard x yz = union-assoc x y z xy yz (shard_in made) (united_shard x yz) x_with_y left y_with_z (union_exists x yz) in
    let x_yz : ShardsAgree x yz = turned_shards (union_agrees y z x yz y_x z_x y_with_z) in
    let key : ab.options.key ≡ a.options.key = ap (λ (o : LayoutOptions). o.key) one.options_are in
    let other_key : a.options.key ≡ bc.options.key = one.same_key ∙ sym (ap (λ (o : LayoutOptions). o.key) other.options_are) in
    also_union ab c a bc made union a_well.ascend bc_ascend key other_key
    (union_is_byte_union x yz (shard_in made) x_is yz_is x_yz (subst (IsUnion x yz) (sym same) (union_exists x yz)))
  where
    turned_shards : {s t : Shard} → ShardsAgree s t → ShardsAgree t s
    turned_shards agree = record {
      files = λ q r s r_at s_at. agreed.turned_files s r (agree.files q s r s_at r_at);
      xorbs = λ q r s r_at s_at. sym (agree.xorbs q s r s_at r_at);
    }

-- the union of two shards that agree
pub union_well_formed : (c d made : Content) → IsWellFormedShard c → IsWellFormedShard d → AgreeInAll c d → IsUnionOf c d made → IsWellFormedShard made
union_well_formed c d made first second agree union =
    let agreed = shards_agree c d first.ascend second.ascend agree in
    let both = byte_union_is_union (shard_in c) (shard_in d) (shard_in made) (as_shard c first) (as_shard d second) agreed (as_byte_union c d made first.ascend second.ascend union) in
    let shard : IsShard (shard_in made) = union_is_shard (shard_in c) (shard_in d) (shard_in made) (as_shard c first) (as_shard d second) agreed both (few_rows c d made union) in
    record {
      ascend = made_ascends c d made first.ascend second.ascend union;
      formed = record {
        files = subst (All IsWellFormed) (values-list_map file_records made.files union.files.combined.ascends)
            (All-map IsWellFormed (λ (e : DataHash × MDBFileInfo). e.1) (entries (shard_in made).files) shard.files.well_formed);
        xorbs = subst (All IsXorb) (values-list_map xorb_records made.xorbs union.xorbs.combined.ascends)
            (All-map IsXorb (λ (e : DataHash × MDBXorbInfo). e.1) (entries (shard_in made).xorbs) shard.xorbs.well_formed);
      };
      file_rows = union.files.rows;
      xorb_rows = union.xorbs.rows;
    }
