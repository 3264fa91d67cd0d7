-- Joins of shards that agree pairwise: they agree with each other, exist, and are shards if their rows are few; with more
-- shards a join has no fewer rows.
use Rattle.std.proofs.Common.{◌≡◌, ◌≤◌, Bool, false, List, [], ◌∷◌, ◌++◌, length, Option, None, Some, refl, sym, ap, ◌∙◌, subst, if◌then◌else◌, arith}
use Rattle.std.specs.Prelude.{All, Contains, IsTrue, option_map, option_and_then}
use Rattle.std.specs.Option.{option_or}
use Rattle.std.specs.FinMap.{get, entries}
use Rattle.std.proofs.lemmas.List.Elements.{Contains-push, Contains-append_left, Contains-append_right}
use Rattle.std.proofs.lemmas.Option.{same_Some}
use Rattle.xet_base.specs.declared.merklehash.DataHash.{DataHash}
use Rattle.xet_base.proofs.HashOrder.{hash_cmp-IsTotalOrder, hash_cmp-IsAntisymmetric}
use Rattle.xet_records.specs.declared.file_structs.rows.HashRow.{HashRow}
use Rattle.xet_records.specs.declared.file_structs.part.OptionalPart.{OptionalPart}
use Rattle.xet_records.specs.declared.file_structs.MDBFileInfo.{MDBFileInfo}
use Rattle.xet_records.specs.declared.xorb_structs.MDBXorbInfo.{MDBXorbInfo}
use Rattle.xet_records.specs.FileRecord.{row_count, IsWellFormed}
use Rattle.xet_records.specs.XorbRecord.{xorb_row_count, IsXorb}
use Rattle.xet_records.specs.Part.{parts, rows_of}
use Rattle.xet_records.specs.Merging.{Agree, has_part, merged_file, part_in}
use Rattle.xet_records.proofs.Parts.{fewer_rows}
use Rattle.xet_records.proofs.Merging.{same_file_if_agree, merged_well_formed}
use Rattle.xet_shards.specs.Content.Shard.{Shard, IsShard, file_hash_of, xorb_hash_of}
use Rattle.xet_shards.specs.Content.Joining.{either_file}
use Rattle.xet_shards.specs.Content.SetOperations.{IsUnion, ShardsAgree, RowsFitU32}
use Rattle.xet_shards.specs.Content.Joins.{segments_under, part_under, HasWhatAnyHas, IsJoinOf, AgreePairwise}
use Rattle.xet_shards.proofs.ShardInMemory.FileUnions.{holds_in_map}
use Rattle.xet_shards.proofs.ShardInMemory.Sums.{all_of_map, part-le-sum, sum-below}
use Rattle.xet_shards.proofs.Content.Unions.{IsKnown, is_known}
use Rattle.xet_shards.proofs.Content.Overlays.{united_shard, union_exists}
use Rattle.xet_shards.proofs.Content.Joins.{same_segments, same_part, follows_parts, plain_file, join-unique, join-none, join-one, join-append}

-- a part that is present
part_is : (part : OptionalPart) (r : MDBFileInfo) → IsTrue (has_part r part) → part_in part r ≡ Some (rows_of part r)
part_is part r has = ap (λ (v : Bool). if v then Some (rows_of part r) else None) has

-- agreement of each shard of a set with each of another passes to their joins
module _ (A B : Shard → Type 0) (a b : Shard) (first : IsJoinOf A a) (second : IsJoinOf B b) (agree : (s t : Shard) → A s → B t → ShardsAgree s t) where
  -- what any of the one set has is what any of the other has
  from_members : {X : Type 0} (part : Shard → Option X) → HasWhatAnyHas A a part → HasWhatAnyHas B b part
      → ((s t : Shard) → A s → B t → (x y : X) → part s ≡ Some x → part t ≡ Some y → x ≡ y) → (x y : X) → part a ≡ Some x → part b ≡ Some y → x ≡ y
  from_members part one other same x y at there =
      let own = (one x).0 at in
      let others = (other y).0 there in
      same own.0 others.0 own.1 others.1 x y own.2 others.2

  agreeing_files : (q : DataHash) (r s : MDBFileInfo) → get a.files q ≡ Some r → get b.files q ≡ Some s → Agree r s
  agreeing_files q r s own other = record {
    segments = from_members (segments_under q) (first.segments q) (second.segments q)
        (λ u v m n x y. same_segments q (get u.files q) (get v.files q) ((agree u v m n).files q) x y)
        r.segments s.segments (ap (option_map (λ t. t.segments)) own) (ap (option_map (λ t. t.segments)) other);
    parts = λ part v w. from_members (part_under part q) (first.parts part q) (second.parts part q)
        (λ u k m n x y. same_part q part (get u.files q) (get k.files q) ((agree u k m n).files q) x y)
        (rows_of part r) (rows_of part s) (ap (option_and_then (part_in part)) own ∙ part_is part r v) (ap (option_and_then (part_in part)) other ∙ part_is part s w);
  }

  joins_agree : ShardsAgree a b
  joins_agree = record {
    files = agreeing_files;
    xorbs = λ q r s own other. from_members (λ t. get t.xorbs q) (first.xorbs q) (second.xorbs q) (λ u v m n x y at there. (agree u v m n).xorbs q x y at there) r s own other;
  }

-- with more shards a join has no fewer rows
module _ (A C : Shard → Type 0) (a c : Shard) (few : IsJoinOf A a) (more : IsJoinOf C c) (into : (s : Shard) → A s → C s) where
  has_more : {X : Type 0} (part : Shard → Option X) → HasWhatAnyHas A a part → HasWhatAnyHas C c part → (x : X) → part a ≡ Some x → part c ≡ Some x
  has_more part one other x at = let found = (one x).0 at in (other x).1 (found.0, into found.0 found.1, found.2)

  file_there : (o : Option MDBFileInfo) (xs : _) → option_map (λ (r : MDBFileInfo). r.segments) o ≡ Some xs → (t : MDBFileInfo) × (o ≡ Some t) × (t.segments ≡ xs)
  file_there o xs is = grind arith

  part_there : (v : Bool) (xs ys : List HashRow) → (if v then Some xs else None) ≡ Some ys → xs ≡ ys
  part_there v xs ys is = grind arith

  few_rows : (v : Bool) (xs ys : List HashRow) → (v ≡ false → xs ≡ []) → (IsTrue v → ys ≡ xs) → length xs ≤ length ys
  few_rows v xs ys absent same = grind arith

  file_more : (q : DataHash) (r : MDBFileInfo) → get a.files q ≡ Some r → (t : MDBFileInfo) × (get c.files q ≡ Some t) × (row_count r ≤ row_count t)
  file_more q r at =
      let there = file_there (get c.files q) r.segments (has_more (segments_under q) (few.segments q) (more.segments q) r.segments (ap (option_map (λ t. t.segments)) at)) in
      let t = there.0 in
      let header = plain_file a few.follows q r at in
      let fewer : (part : OptionalPart) → length (rows_of part r) ≤ length (rows_of part t) =
      λ part. few_rows (has_part r part) (rows_of part r) (rows_of part t) (header.absent part) (λ has. part_there (has_part t part) (rows_of part t) (rows_of part r)
      (sym (ap (option_and_then (part_in part)) there.1) ∙ has_more (part_under part q) (few.parts part q) (more.parts part q) (rows_of part r) (ap (option_and_then (part_in part)) at ∙ part_is part r has))) in
      (t, there.1, omega (arith, ap length there.2, fewer_rows (λ p. rows_of p r) (λ p. rows_of p t) fewer parts))

  pub fewer_if_more : RowsFitU32 c → RowsFitU32 a
  fewer_if_more all = record {
    files = omega (arith, all.files, sum-below hash_cmp-IsTotalOrder hash_cmp-IsAntisymmetric row_count a.files c.files file_more);
    xorbs = omega (
      arith,
      all.xorbs,
      sum-below hash_cmp-IsTotalOrder hash_cmp-IsAntisymmetric xorb_row_count a.xorbs c.xorbs
          (λ q r at. (r, has_more (λ s. get s.xorbs q) (few.xorbs q) (more.xorbs q) r at, omega arith)),
    );
  }

-- the union of two shards that agree is a shard if its rows fit `u32`

either_known : (P : MDBXorbInfo → Type 0) (o p : Option MDBXorbInfo) → ((r : MDBXorbInfo) → o ≡ Some r → P r) → ((r : MDBXorbInfo) → p ≡ Some r → P r) → (r : MDBXorbInfo) → option_or p o ≡ Some r → P r
either_known P o p first second r is = grind arith

known_either : (q : DataHash) (o p : Option MDBFileInfo) (t : MDBFileInfo) → ((r : MDBFileInfo) → o ≡ Some r → IsKnown q r) → ((r : MDBFileInfo) → p ≡ Some r → IsKnown q r)
    → ((r s : MDBFileInfo) → o ≡ Some r → p ≡ Some s → Agree r s) → row_count t ≤ 4294967295 → either_file o p ≡ Some t → IsKnown q t
known_either q None p t first second agree few is = second t is
known_either q (Some r) None t first second agree few is = first t is
known_either q (Some r) (Some s) t first second agree few is =
    let own = first r refl in
    let other = second s refl in
    let same = same_Some (merged_file r s) t is in
    record {
      keyed = own.keyed ∙ ap file_hash_of same;
      well_formed = subst IsWellFormed same (merged_well_formed r s own.well_formed other.well_formed
          (same_file_if_agree r s own.well_formed.whole other.well_formed.whole (sym own.keyed ∙ other.keyed) (agree r s refl refl))
          (subst (λ n. row_count n ≤ 4294967295) (sym same) few));
    }

module _ (a b c : Shard) (first : IsShard a) (second : IsShard b) (agree : ShardsAgree a b) (union : IsUnion a b c) (few : RowsFitU32 c) where
  file_known : (q : DataHash) (t : MDBFileInfo) → get c.files q ≡ Some t → IsKnown q t
  file_known q t at = known_either q (get a.files q) (get b.files q) t (λ r. is_known a q r first) (λ r. is_known b q r second) (agree.files q)
      (omega (arith, few.files, part-le-sum hash_cmp-IsTotalOrder hash_cmp-IsAntisymmetric row_count c.files q t at)) (sym (union.files q) ∙ at)

  of_xorbs : (P : DataHash × MDBXorbInfo → Type 0) → All P (entries a.xorbs) → All P (entries b.xorbs) → All P (entries c.xorbs)
  of_xorbs P own other = all_of_map hash_cmp-IsTotalOrder hash_cmp-IsAntisymmetric P c.xorbs (λ q t at.
      either_known (λ r. P (q, r)) (get a.xorbs q) (get b.xorbs q) (λ r. holds_in_map P a.xorbs q r own) (λ r. holds_in_map P b.xorbs q r other) t (sym (union.xorbs q) ∙ at))

  pub union_is_shard : IsShard c
  union_is_shard = record {
    files = record {
      keyed = all_of_map hash_cmp-IsTotalOrder hash_cmp-IsAntisymmetric (λ e. e.0 ≡ file_hash_of e.1) c.files (λ q t at. (file_known q t at).keyed);
      well_formed = all_of_map hash_cmp-IsTotalOrder hash_cmp-IsAntisymmetric (λ e. IsWellFormed e.1) c.files (λ q t at. (file_known q t at).well_formed);
    };
    file_rows = few.files;
    xorbs = record {
      keyed = of_xorbs (λ e. e.0 ≡ xorb_hash_of e.1) first.xorbs.keyed second.xorbs.keyed;
      well_formed = of_xorbs (λ e. IsXorb e.1) first.xorbs.well_formed second.xorbs.well_formed;
    };
    xorb_rows = few.xorbs;
  }

-- two lists of shards that agree pairwise: their joins agree, and the union of these is the join of both lists
module _ (xs ys : List Shard) (a b : Shard) (first : IsJoinOf (Contains xs) a) (second : IsJoinOf (Contains ys) b) (agree : AgreePairwise (Contains (xs ++ ys))) where
  pub lists_agree : ShardsAgree a b
  lists_agree = joins_agree (Contains xs) (Contains ys) a b first second
      (λ s t one other. agree.pairs s t (Contains-append_left xs ys s one) (Contains-append_right xs ys t other))

  pub union-of_joins : (c : Shard) → IsJoinOf (Contains (xs ++ ys)) c → IsUnion a b c
  union-of_joins c join =
      let d = united_shard a b in
      subst (IsUnion a b) (join-unique (Contains (xs ++ ys)) d c (join-append xs ys a b d first second lists_agree (union_exists a b)) join) (union_exists a b)

some_agree : (A B : Shard → Type 0) → ((s : Shard) → A s → B s) → AgreePairwise B → AgreePairwise A
some_agree A B into agree = record { shards = λ s member. agree.shards s (into s member); pairs = λ s t one other. agree.pairs s t (into s one) (into t other) }

pub agree_left : (xs ys : List Shard) → AgreePairwise (Contains (xs ++ ys)) → AgreePairwise (Contains xs)
agree_left xs ys = some_agree _ _ (Contains-append_left xs ys)

pub agree_right : (xs ys : List Shard) → AgreePairwise (Contains (xs ++ ys)) → AgreePairwise (Contains ys)
agree_right xs ys = some_agree _ _ (Contains-append_right xs ys)

-- shards that agree pairwise have a join
pub joins_exist : (ss : List Shard) → AgreePairwise (Contains ss) → (c : Shard) × IsJoinOf (Contains ss) c
joins_exist [] agree = (_, join-none)
joins_exist (s ∷ ss) agree =
    let rest = joins_exist ss (agree_right (s ∷ []) ss agree) in
    let one = join-one s (follows_parts s (agree.shards s (Contains-append_left (s ∷ []) ss s (Contains-push [] s)))) in
    let d = united_shard s rest.0 in
    (d, join-append (s ∷ []) ss s rest.0 d one rest.1 (lists_agree (s ∷ []) ss s rest.0 one rest.1 agree) (union_exists s rest.0))
