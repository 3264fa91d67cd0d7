-- Two shards have one union, and that of a shard with itself has its records.
use Rattle.std.proofs.Common.{◌≡◌, Option, None, Some, refl, sym, ap, ◌∙◌, inl}
use Rattle.std.specs.FinMap.{values}
use Rattle.xet_records.specs.declared.file_structs.MDBFileInfo.{MDBFileInfo}
use Rattle.xet_records.specs.declared.xorb_structs.MDBXorbInfo.{MDBXorbInfo}
use Rattle.xet_records.specs.FileRecord.{file_records}
use Rattle.xet_records.specs.XorbRecord.{xorb_records}
use Rattle.xet_shards.specs.Content.Shard.{Shard}
use Rattle.xet_shards.specs.Write.WithOptions.{FitsSection}
use Rattle.xet_core_structures.specs.Records.ByteUnion.{IsEitherFile, IsEitherXorb}
use Rattle.xet_core_structures.specs.Records.RecordPairs.{with_hash}
use Rattle.xet_core_structures.proofs.LawProofs.UnionSizes.{union_of_same}
use Rattle.xet_core_structures.proofs.Records.ListMaps.{values-list_map}
use Rattle.placed_shards.specs.Content.{Content, AscendBoth, with_all_tables}
use Rattle.placed_shards.specs.Sets.{IsLeft}
use Rattle.placed_shards.specs.Unions.{Unites, IsUnionOf}
use Rattle.placed_shards.proofs.Merges.{as_byte_union, shard_in}
use Rattle.placed_shards.proofs.Uniting.{same_list}

pub one_left : {R : Type 0} (a b c d : Option R) → IsLeft a b c → IsLeft a b d → c ≡ d
one_left a b c d is also = is ∙ sym also

module _ (F : Option MDBFileInfo → Option MDBFileInfo → Option MDBFileInfo → Type 0) (X : Option MDBXorbInfo → Option MDBXorbInfo → Option MDBXorbInfo → Type 0)
    (one_file : (a b c d : Option MDBFileInfo) → F a b c → F a b d → c ≡ d) (one_xorb : (a b c d : Option MDBXorbInfo) → X a b c → X a b d → c ≡ d) where
  pub unites_once : (c d m n : Content) → Unites F X c d m → Unites F X c d n → m ≡ n
  unites_once c d m n one other =
      let files = same_list file_records m.files n.files one.files.combined.ascends other.files.combined.ascends (λ q. one_file _ _ _ _ (one.files.combined.each q) (other.files.combined.each q)) in
      let xorbs = same_list xorb_records m.xorbs n.xorbs one.xorbs.combined.ascends other.xorbs.combined.ascends (λ q. one_xorb _ _ _ _ (one.xorbs.combined.each q) (other.xorbs.combined.each q)) in
      let options = one.options_are ∙ sym other.options_are in
      λ i. record { files = files i; xorbs = xorbs i; options = options i }

-- a shard with itself
pub itself_is : (c made : Content) → AscendBoth c → IsUnionOf c c made → made ≡ with_all_tables c
itself_is c made ascend union =
    let same : shard_in made ≡ shard_in c = union_of_same (shard_in c) (shard_in made) (as_byte_union c c made ascend ascend union) in
    let files = sym (values-list_map file_records made.files union.files.combined.ascends) ∙ ap (λ (s : Shard). values s.files) same ∙ values-list_map file_records c.files ascend.files in
    let xorbs = sym (values-list_map xorb_records made.xorbs union.xorbs.combined.ascends) ∙ ap (λ (s : Shard). values s.xorbs) same ∙ values-list_map xorb_records c.xorbs ascend.xorbs in
    λ i. record { files = files i; xorbs = xorbs i; options = union.options_are i }

file_itself : (o : Option MDBFileInfo) → IsEitherFile o o o
file_itself None = refl
file_itself (Some r) = (r, refl, inl ((λ i below is. is), refl))

xorb_itself : (o : Option MDBXorbInfo) → IsEitherXorb o o o
xorb_itself None = refl
xorb_itself (Some r) = refl

pub itself_united : (c : Content) → AscendBoth c → FitsSection file_records c.files → FitsSection xorb_records c.xorbs → IsUnionOf c c (with_all_tables c)
itself_united c ascend files xorbs = record {
  same_key = refl;
  files = record { combined = record { ascends = ascend.files; each = λ q. file_itself (with_hash file_records c.files q); stored = files.stored }; rows = files.rows };
  xorbs = record { combined = record { ascends = ascend.xorbs; each = λ q. xorb_itself (with_hash xorb_records c.xorbs q); stored = xorbs.stored }; rows = xorbs.rows };
  options_are = refl;
}
