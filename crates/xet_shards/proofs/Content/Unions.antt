-- Unions of shards: that order, grouping and repetition don't matter.
use Rattle.std.proofs.Common.{◌≡◌, Option, None, Some, refl, sym, ap, ◌∙◌, subst, arith}
use Rattle.std.specs.Option.{option_or}
use Rattle.std.proofs.lemmas.Option.{same_Some}
use Rattle.std.specs.FinMap.{get, get-empty, same_map}
use Rattle.xet_base.specs.declared.merklehash.DataHash.{DataHash}
use Rattle.xet_base.specs.Hash.{hash_cmp}
use Rattle.xet_base.proofs.HashOrder.{hash_cmp-IsTotalOrder, hash_cmp-IsAntisymmetric}
use Rattle.xet_records.specs.declared.file_structs.MDBFileInfo.{MDBFileInfo}
use Rattle.xet_records.specs.FileRecord.{IsWellFormed}
use Rattle.xet_records.specs.Merging.{Agree, merged_file}
use Rattle.xet_records.proofs.Merging.{merged_is_joined, merged_file-assoc, agree-merged_file, joined_file-comm, joined_file-idem, same_file_if_agree}
use Rattle.xet_shards.specs.Content.Shard.{Shard, IsShard, empty_shard, file_hash_of}
use Rattle.xet_shards.specs.Content.Joining.{either_file}
use Rattle.xet_shards.specs.Content.SetOperations.{IsUnion, ShardsAgree, RowsFitU32, CanUnite}
use Rattle.xet_shards.proofs.ShardInMemory.FileUnions.{holds_in_map}

pub same_shard : (c d : Shard) → ((q : DataHash) → get c.files q ≡ get d.files q) → ((q : DataHash) → get c.xorbs q ≡ get d.xorbs q) → c ≡ d
same_shard c d files xorbs = λ i. record {
  files = same_map hash_cmp-IsTotalOrder hash_cmp-IsAntisymmetric c.files d.files files i;
  xorbs = same_map hash_cmp-IsTotalOrder hash_cmp-IsAntisymmetric c.xorbs d.xorbs xorbs i;
}

-- a file in a shard is well-formed, and its key is its hash
pub record IsKnown (q : DataHash) (r : MDBFileInfo) : Type 0 where
  pub keyed : q ≡ file_hash_of r
  pub well_formed : IsWellFormed r

pub is_known : (s : Shard) (q : DataHash) (r : MDBFileInfo) → IsShard s → get s.files q ≡ Some r → IsKnown q r
is_known s q r shard at = record {
  keyed = holds_in_map (λ e. e.0 ≡ file_hash_of e.1) s.files q r shard.files.keyed at;
  well_formed = holds_in_map (λ e. IsWellFormed e.1) s.files q r shard.files.well_formed at;
}

pub same_either : {X : Type 0} (o p : Option X) → ((x y : X) → o ≡ Some x → p ≡ Some y → x ≡ y) → option_or p o ≡ option_or o p
same_either None None same = refl
same_either None (Some y) same = refl
same_either (Some x) None same = refl
same_either (Some x) (Some y) same = ap Some (sym (same x y refl refl))

files_turned : (q : DataHash) (o p : Option MDBFileInfo) → ((r : MDBFileInfo) → o ≡ Some r → IsKnown q r) → ((s : MDBFileInfo) → p ≡ Some s → IsKnown q s)
    → ((r s : MDBFileInfo) → o ≡ Some r → p ≡ Some s → Agree r s) → either_file o p ≡ either_file p o
files_turned q None None first second agree = refl
files_turned q None (Some s) first second agree = refl
files_turned q (Some r) None first second agree = refl
files_turned q (Some r) (Some s) first second agree =
    let own = first r refl in
    let others = second s refl in
    ap Some (merged_is_joined r s own.well_formed others.well_formed
    ∙ joined_file-comm r s own.well_formed others.well_formed (sym own.keyed ∙ others.keyed) (agree r s refl refl)
    ∙ sym (merged_is_joined s r others.well_formed own.well_formed))

-- in either order
pub union-comm : (a b c d : Shard) → IsShard a → IsShard b → ShardsAgree a b → IsUnion a b c → IsUnion b a d → c ≡ d
union-comm a b c d first second agree one other = same_shard c d (λ q.
    one.files q ∙ files_turned q (get a.files q) (get b.files q) (λ r. is_known a q r first) (λ s. is_known b q s second) (agree.files q) ∙ sym (other.files q))
    (λ q. one.xorbs q ∙ same_either (get a.xorbs q) (get b.xorbs q) (agree.xorbs q) ∙ sym (other.xorbs q))

files_grouped : (o p r : Option MDBFileInfo) → either_file (either_file o p) r ≡ either_file o (either_file p r)
files_grouped None p r = refl
files_grouped (Some x) None r = refl
files_grouped (Some x) (Some y) None = refl
files_grouped (Some x) (Some y) (Some z) = ap Some (merged_file-assoc x y z)

-- in either grouping
pub union-assoc : (a b c ab bc left right : Shard) → IsUnion a b ab → IsUnion ab c left → IsUnion b c bc → IsUnion a bc right → left ≡ right
union-assoc a b c ab bc left right one then_c other then_a = same_shard left right
    (λ q. then_c.files q ∙ ap (λ o. either_file o (get c.files q)) (one.files q) ∙ files_grouped (get a.files q) (get b.files q) (get c.files q)
    ∙ ap (either_file (get a.files q)) (sym (other.files q)) ∙ sym (then_a.files q))
    (λ q. grind (arith, one.xorbs q, then_c.xorbs q, other.xorbs q, then_a.xorbs q))

files_repeated : (q : DataHash) (o : Option MDBFileInfo) → ((r : MDBFileInfo) → o ≡ Some r → IsKnown q r) → either_file o o ≡ o
files_repeated q None first = refl
files_repeated q (Some r) first = let own = first r refl in ap Some (merged_is_joined r r own.well_formed own.well_formed ∙ joined_file-idem r own.well_formed)

-- a shard with itself
pub union-idem : (a c : Shard) → IsShard a → IsUnion a a c → c ≡ a
union-idem a c shard union = same_shard c a (λ q. union.files q ∙ files_repeated q (get a.files q) (λ r. is_known a q r shard))
    (λ q. grind (arith, union.xorbs q))

no_file : (q : DataHash) → get empty_shard.files q ≡ None
no_file q = get-empty hash_cmp q

no_xorb : (q : DataHash) → get empty_shard.xorbs q ≡ None
no_xorb q = get-empty hash_cmp q

-- a shard with the empty one
pub union-empty : (a c : Shard) → IsUnion a empty_shard c → c ≡ a
union-empty a c union = same_shard c a (λ q. grind (arith, union.files q, no_file q)) (λ q. grind (arith, union.xorbs q, no_xorb q))

pub union-of_empty : (a c : Shard) → IsUnion empty_shard a c → c ≡ a
union-of_empty a c union = same_shard c a (λ q. grind (arith, union.files q, no_file q)) (λ q. grind (arith, union.xorbs q, no_xorb q))

-- shards that agree can be united if the rows of their union fit `u32`
pub agreeing_unite : (a b : Shard) → IsShard a → IsShard b → ShardsAgree a b → ((c : Shard) → IsUnion a b c → RowsFitU32 c) → CanUnite a b
agreeing_unite a b first second agree few = record {
  same = λ q r s own other.
      let mine = is_known a q r first own in
      let others = is_known b q s second other in
      same_file_if_agree r s mine.well_formed.whole others.well_formed.whole (sym mine.keyed ∙ others.keyed) (agree.files q r s own other);
  rows = few;
}

-- a third shard with which both agree agrees with their union
files_agree : (o p : Option MDBFileInfo) (r t : MDBFileInfo) → ((x : MDBFileInfo) → o ≡ Some x → Agree x t) → ((y : MDBFileInfo) → p ≡ Some y → Agree y t)
    → either_file o p ≡ Some r → Agree r t
files_agree None p r t first second is = second r is
files_agree (Some x) None r t first second is = first r is
files_agree (Some x) (Some y) r t first second is = subst (λ z. Agree z t) (same_Some (merged_file x y) r is) (agree-merged_file x y t (first x refl) (second y refl))

xorbs_agree : {X : Type 0} (o p : Option X) (r t : X) → ((x : X) → o ≡ Some x → x ≡ t) → ((y : X) → p ≡ Some y → y ≡ t) → option_or p o ≡ Some r → r ≡ t
xorbs_agree o p r t first second is = grind arith

pub union_agrees : (a b c ab : Shard) → ShardsAgree a c → ShardsAgree b c → IsUnion a b ab → ShardsAgree ab c
union_agrees a b c ab first second union = record {
  files = λ q r t own other. files_agree (get a.files q) (get b.files q) r t (λ x at. first.files q x t at other) (λ y at. second.files q y t at other) (sym (union.files q) ∙ own);
  xorbs = λ q r t own other. xorbs_agree (get a.xorbs q) (get b.xorbs q) r t (λ x at. first.xorbs q x t at other) (λ y at. second.xorbs q y t at other) (sym (union.xorbs q) ∙ own);
}
