-- Of bytes that hold shards that agree, one union is the same in either order and grouping, and if it is repeated.
use Rattle.std.proofs.Common.{◌≡◌, ℕ, ◌+◌, Bool, true, false, ◌&&◌, not, List, Option, None, Some, refl, sym, ap, ◌∙◌, if◌then◌else◌, is_some, true≢false, arith}
use Rattle.std.specs.Prelude.{IsTrue}
use Rattle.std.specs.Option.{option_or}
use Rattle.std.specs.FinMap.{get, get-empty}
use Rattle.std.proofs.lemmas.Option.{same_Some, none-some}
use Rattle.xet_base.specs.declared.merklehash.DataHash.{DataHash}
use Rattle.xet_base.specs.Hash.{hash_cmp}
use Rattle.xet_records.specs.declared.file_structs.MDBFileInfo.{MDBFileInfo}
use Rattle.xet_records.specs.declared.xorb_structs.MDBXorbInfo.{MDBXorbInfo}
use Rattle.xet_records.specs.declared.file_structs.part.OptionalPart.{OptionalPart}
use Rattle.xet_records.specs.Part.{flags_of, rows_of, with_parts}
use Rattle.xet_records.proofs.Parts.{with_parts-rows_of}
use Rattle.xet_records.specs.Merging.{has_part, merged_file}
use Rattle.xet_shards.specs.Content.Joining.{either_file}
use Rattle.xet_shards.specs.Content.SetOperations.{IsUnion, IsDifference, ShardsAgree}
use Rattle.xet_shards.specs.Content.Shard.{Shard, IsShard, empty_shard}
use Rattle.xet_shards.proofs.Content.Overlays.{united_shard, union_exists}
use Rattle.xet_shards.proofs.Content.Unions.{union-comm, union-assoc, union-idem, union-empty, union-of_empty, union_agrees}
use Rattle.xet_core_structures.specs.Records.ByteUnion.{HasPartsOf}
use Rattle.xet_core_structures.specs.TwoShards.ByteResults.{keyed_layout, UnitesBytes}
use Rattle.xet_core_structures.specs.Records.ShardContents.{HoldsShard}
use Rattle.xet_core_structures.proofs.Records.ByteUnions.{held_union}

-- agreement has no order, and a shard agrees with itself
agree_turned : (a b : Shard) → ShardsAgree a b → ShardsAgree b a
agree_turned a b agree = record {
  files = λ q r s r_at s_at.
      let pair = agree.files q s r s_at r_at in
      record { segments = sym pair.segments; parts = λ part v w. sym (pair.parts part w v) };
  xorbs = λ q r s r_at s_at. sym (agree.xorbs q s r s_at r_at);
}

agree_itself : (a : Shard) → ShardsAgree a a
agree_itself a = record {
  files = λ q r s r_at s_at.
      let same = same_Some r s (sym r_at ∙ s_at) in
      record { segments = ap (λ (f : MDBFileInfo). f.segments) same; parts = λ part v w. ap (rows_of part) same };
  xorbs = λ q r s r_at s_at. same_Some r s (sym r_at ∙ s_at);
}

agree_empty : (a : Shard) → ShardsAgree a empty_shard
agree_empty a = record {
  files = λ q r s r_at s_at. absurd (none-some s (sym (get-empty hash_cmp q) ∙ s_at));
  xorbs = λ q r s r_at s_at. absurd (none-some s (sym (get-empty hash_cmp q) ∙ s_at));
}

-- of bytes that hold shards that agree, under one key
pub bytes_commute : (key : DataHash) (a b : Shard) (a_1 a_2 b_1 b_2 x y : List ℕ) → ShardsAgree a b → HoldsShard key a a_1 → HoldsShard key a a_2 → HoldsShard key b b_1 → HoldsShard key b b_2
    → UnitesBytes a_1 b_1 x → UnitesBytes b_2 a_2 y → x ≡ y
bytes_commute key a b a_1 a_2 b_1 b_2 x y agree a_1_is a_2_is b_1_is b_2_is one other =
    let c = united_shard a b in
    let d = united_shard b a in
    (held_union a b c key a_1 b_1 a_1_is b_1_is agree (union_exists a b) x one).0
    ∙ ap (λ s. keyed_layout s key) (union-comm a b c d a_1_is.shard b_1_is.shard agree (union_exists a b) (union_exists b a))
    ∙ sym (held_union b a d key b_2 a_2 b_2_is a_2_is (agree_turned a b agree) (union_exists b a) y other).0

pub bytes_associate : (key : DataHash) (a b c : Shard) (a_1 a_2 b_1 b_2 c_1 c_2 ab bc left right : List ℕ) → ShardsAgree a b → ShardsAgree a c → ShardsAgree b c
    → HoldsShard key a a_1 → HoldsShard key a a_2 → HoldsShard key b b_1 → HoldsShard key b b_2 → HoldsShard key c c_1 → HoldsShard key c c_2
    → UnitesBytes a_1 b_1 ab → UnitesBytes ab c_1 left → UnitesBytes b_2 c_2 bc → UnitesBytes a_2 bc right → left ≡ right
bytes_associate key a b c a_1 a_2 b_1 b_2 c_1 c_2 ab bc left right ab_agree ac_agree bc_agree a_1_is a_2_is b_1_is b_2_is c_1_is c_2_is ab_is left_is bc_is right_is =
    let d = united_shard a b in
    let k = united_shard b c in
    let one = held_union a b d key a_1 b_1 a_1_is b_1_is ab_agree (union_exists a b) ab ab_is in
    let other = held_union b c k key b_2 c_2 b_2_is c_2_is bc_agree (union_exists b c) bc bc_is in
    let d_agrees = union_agrees a b c d ac_agree bc_agree (union_exists a b) in
    let k_agrees = agree_turned k a (union_agrees b c a k (agree_turned a b ab_agree) (agree_turned a c ac_agree) (union_exists b c)) in
    (held_union d c (united_shard d c) key ab c_1 one.1 c_1_is d_agrees (union_exists d c) left left_is).0
    ∙ ap (λ s. keyed_layout s key) (union-assoc a b c d k (united_shard d c) (united_shard a k) (union_exists a b) (union_exists d c) (union_exists b c) (union_exists a k))
    ∙ sym (held_union a k (united_shard a k) key a_2 bc a_2_is other.1 k_agrees (union_exists a k) right right_is).0

pub bytes_repeat : (key : DataHash) (a : Shard) (a_1 a_2 x : List ℕ) → HoldsShard key a a_1 → HoldsShard key a a_2 → UnitesBytes a_1 a_2 x → x ≡ keyed_layout a key
bytes_repeat key a a_1 a_2 x a_1_is a_2_is unites =
    let c = united_shard a a in
    (held_union a a c key a_1 a_2 a_1_is a_2_is (agree_itself a) (union_exists a a) x unites).0 ∙ ap (λ s. keyed_layout s key) (union-idem a c a_1_is.shard (union_exists a a))

pub bytes_with_nothing : (key : DataHash) (a : Shard) (some none x : List ℕ) → HoldsShard key a some → HoldsShard key empty_shard none → UnitesBytes some none x → x ≡ keyed_layout a key
bytes_with_nothing key a some none x some_is none_is unites =
    let c = united_shard a empty_shard in
    (held_union a empty_shard c key some none some_is none_is (agree_empty a) (union_exists a empty_shard) x unites).0
    ∙ ap (λ s. keyed_layout s key) (union-empty a c (union_exists a empty_shard))

pub bytes_of_nothing : (key : DataHash) (a : Shard) (some none x : List ℕ) → HoldsShard key a some → HoldsShard key empty_shard none → UnitesBytes none some x → x ≡ keyed_layout a key
bytes_of_nothing key a some none x some_is none_is unites =
    let c = united_shard empty_shard a in
    (held_union empty_shard a c key none some none_is some_is (agree_turned a empty_shard (agree_empty a)) (union_exists empty_shard a) x unites).0
    ∙ ap (λ s. keyed_layout s key) (union-of_empty a c (union_exists empty_shard a))

-- a difference of shards agrees with the first
module _ (a b d : Shard) (is : IsDifference a b d) where
  none_in_both : {X : Type 0} (o p c : Option X) (r s : X) → c ≡ (if is_some o then None else p) → o ≡ Some r → c ≡ Some s → ⊥
  none_in_both None p c r s it o_at c_at = none-some r o_at
  none_in_both (Some x) p c r s it o_at c_at = none-some s (sym it ∙ c_at)

  difference_agrees : ShardsAgree a d
  difference_agrees = record {
    files = λ q r s r_at s_at. absurd (none_in_both (get a.files q) (get b.files q) (get d.files q) r s (is.files q) r_at s_at);
    xorbs = λ q r s r_at s_at. absurd (none_in_both (get a.xorbs q) (get b.xorbs q) (get d.xorbs q) r s (is.xorbs q) r_at s_at);
  }

-- a file takes nothing from one whose parts it has
nothing_more : (v w : Bool) → (IsTrue v → IsTrue w) → (v && not w) ≡ false
nothing_more false w more = refl
nothing_more true true more = refl
nothing_more true false more = absurd (true≢false (sym (more refl)))

merged_kept : (r s : MDBFileInfo) → ((part : OptionalPart) → (has_part s part && not (has_part r part)) ≡ false) → merged_file r s ≡ r
merged_kept r s none =
    let flags : r.metadata.file_flags + flags_of (λ part. has_part s part && not (has_part r part)) ≡ r.metadata.file_flags =
    (λ i. r.metadata.file_flags + flags_of (λ part. none part i)) ∙ omega arith in
    (λ i. with_parts (record r.metadata { file_flags = flags i }) r.segments (λ part. if none part i then rows_of part s else rows_of part r)) ∙ with_parts-rows_of r

module _ (a b c d : Shard) (first : IsShard a) (second : IsShard b) (agree : ShardsAgree a b) (parts : HasPartsOf a b) (is : IsDifference a b d) (union : IsUnion a b c) where
  same_files : (q : DataHash) (o p : Option MDBFileInfo) → get a.files q ≡ o → get b.files q ≡ p → either_file o p ≡ either_file o (if is_some o then None else p)
  same_files q None p o_at p_at = refl
  same_files q (Some r) None o_at p_at = refl
  same_files q (Some r) (Some s) o_at p_at = ap Some (merged_kept r s (λ part. nothing_more (has_part s part) (has_part r part) (parts.parts part q r s o_at p_at)))

  same_xorbs : (q : DataHash) (o p : Option MDBXorbInfo) → get a.xorbs q ≡ o → get b.xorbs q ≡ p → option_or p o ≡ option_or (if is_some o then None else p) o
  same_xorbs q None p o_at p_at = refl
  same_xorbs q (Some r) None o_at p_at = refl
  same_xorbs q (Some r) (Some s) o_at p_at = ap Some (sym (agree.xorbs q r s o_at p_at))

  union_of_difference : IsUnion a d c
  union_of_difference = record {
    files = λ q. union.files q ∙ same_files q (get a.files q) (get b.files q) refl refl ∙ ap (either_file (get a.files q)) (sym (is.files q));
    xorbs = λ q. union.xorbs q ∙ same_xorbs q (get a.xorbs q) (get b.xorbs q) refl refl ∙ ap (λ o. option_or o (get a.xorbs q)) (sym (is.xorbs q));
  }

pub bytes_with_difference : (key : DataHash) (a b d : Shard) (a_1 a_2 b_1 d_1 x y : List ℕ) → ShardsAgree a b → HasPartsOf a b → IsDifference a b d
    → HoldsShard key a a_1 → HoldsShard key a a_2 → HoldsShard key b b_1 → HoldsShard key d d_1 → UnitesBytes a_1 b_1 x → UnitesBytes a_2 d_1 y → x ≡ y
bytes_with_difference key a b d a_1 a_2 b_1 d_1 x y agree parts is a_1_is a_2_is b_1_is d_1_is one other =
    let c = united_shard a b in
    let same = union_of_difference a b c d a_1_is.shard b_1_is.shard agree parts is (union_exists a b) in
    (held_union a b c key a_1 b_1 a_1_is b_1_is agree (union_exists a b) x one).0 ∙ sym (held_union a d c key a_2 d_1 a_2_is d_1_is (difference_agrees a b d is) same y other).0
