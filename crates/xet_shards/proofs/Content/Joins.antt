-- Joins of sets of shards: a set has at most one, and the join of two sets of shards that agree is the union of theirs.
use Rattle.std.proofs.Common.{◌≡◌, ◌⊎◌, inl, inr, zero, suc, Bool, true, false, not, ◌&&◌, ◌||◌, List, [], ◌∷◌, ◌++◌, ◌+◌, length, Option, None, Some, is_some, refl, sym, ap, ◌∙◌, subst, if◌then◌else◌, arith}
use Rattle.std.specs.Prelude.{◌↔◌, Contains, IsTrue, option_map, option_and_then, unwrap_or}
use Rattle.std.specs.Option.{option_or}
use Rattle.std.specs.FinMap.{get, get-empty}
use Rattle.std.proofs.lemmas.List.Elements.{Contains-push, Contains-append_left, Contains-append_right, Contains-append_cases}
use Rattle.std.proofs.lemmas.Option.{same_Some, none-some, option_and_then_some}
use Rattle.xet_base.specs.declared.merklehash.DataHash.{DataHash}
use Rattle.xet_base.specs.Hash.{hash_cmp}
use Rattle.xet_records.specs.declared.file_structs.rows.FileDataSequenceEntry.{FileDataSequenceEntry}
use Rattle.xet_records.specs.declared.file_structs.rows.HashRow.{HashRow}
use Rattle.xet_records.specs.declared.file_structs.part.OptionalPart.{OptionalPart}
use Rattle.xet_records.specs.declared.file_structs.MDBFileInfo.{MDBFileInfo}
use Rattle.xet_records.specs.Part.{flags_of, rows_of, with_parts}
use Rattle.xet_records.specs.Merging.{Agree, has_part, merged_file, part_in, file_with}
use Rattle.xet_records.proofs.Parts.{with_parts-rows_of, rows_of-with_parts_if}
use Rattle.xet_records.proofs.Merging.{flags_added, part_absent, has_part-merged_file, rows_of-merged_file}
use Rattle.xet_shards.specs.Content.Shard.{Shard, IsShard, empty_shard, file_hash_of}
use Rattle.xet_shards.specs.Content.Joining.{either_file}
use Rattle.xet_shards.specs.Content.SetOperations.{IsUnion, ShardsAgree}
use Rattle.xet_shards.specs.Content.Joins.{segments_under, part_under, HasWhatAnyHas, FollowsParts, IsJoinOf}
use Rattle.xet_shards.proofs.Content.Joining.{or_none}
use Rattle.xet_shards.proofs.Content.Unions.{IsKnown, is_known, same_shard, same_either}

-- one of two optional parts that are equal if both are present
pub either_part : {X : Type 0} (o p : Option X) → ((x y : X) → o ≡ Some x → p ≡ Some y → x ≡ y) → (x : X) → (option_or o p ≡ Some x) ↔ ((o ≡ Some x) ⊎ (p ≡ Some x))
either_part o p same x = (λ is. grind arith, λ (either : (o ≡ Some x) ⊎ (p ≡ Some x)). grind (arith, same_either o p same))

-- a part of a merged record
part_in-merged_file : (part : OptionalPart) (a b : MDBFileInfo) → part_in part (merged_file a b) ≡ option_or (part_in part a) (part_in part b)
part_in-merged_file part a b =
    (λ i. if has_part-merged_file a b part i then Some (rows_of-merged_file a b part i) else None) ∙ by_cases (has_part a part) (has_part b part) (rows_of part a) (rows_of part b)
  where
    by_cases : (v w : Bool) (xs ys : List HashRow) → (if v || w then Some (if w && not v then ys else xs) else None) ≡ option_or (if v then Some xs else None) (if w then Some ys else None)
    by_cases true true xs ys = refl
    by_cases true false xs ys = refl
    by_cases false true xs ys = refl
    by_cases false false xs ys = refl

-- a file that its parts determine
module _ (q : DataHash) where
  abbrev IsPlain : MDBFileInfo → Type 0
  IsPlain r = r ≡ file_with q r.segments (λ part. part_in part r)

  pub record HasPlainHeader (r : MDBFileInfo) : Type 0 where
    pub keyed : q ≡ file_hash_of r
    pub reserved : r.metadata._unused ≡ 0
    pub flags : r.metadata.file_flags ≡ flags_of (has_part r)
    pub segments : length r.segments ≡ r.metadata.num_entries
    pub absent : (part : OptionalPart) → has_part r part ≡ false → rows_of part r ≡ []

  is_some-cond : (v : Bool) (xs : List HashRow) → v ≡ is_some (if v then Some xs else None)
  is_some-cond v xs = grind arith

  rows_there : (v : Bool) (xs : List HashRow) → (v ≡ false → xs ≡ []) → xs ≡ unwrap_or (if v then Some xs else None) []
  rows_there v xs absent = grind arith

  rows_kept : (v : Bool) (xs : List HashRow) → unwrap_or (if v then Some xs else None) [] ≡ (if v then xs else [])
  rows_kept v xs = grind arith

  pub plain_by_header : (r : MDBFileInfo) → HasPlainHeader r → IsPlain r
  plain_by_header r has =
      let flags : r.metadata.file_flags ≡ flags_of (λ part. is_some (part_in part r)) = has.flags ∙ (λ i. flags_of (λ part. is_some-cond (has_part r part) (rows_of part r) i)) in
      sym (with_parts-rows_of r)
      ∙ (λ i. with_parts (record { file_hash = sym has.keyed i; file_flags = flags i; num_entries = sym has.segments i; _unused = has.reserved i }) r.segments
      (λ part. rows_there (has_part r part) (rows_of part r) (has.absent part) i))

  plain_header : (r : MDBFileInfo) → IsPlain r → HasPlainHeader r
  plain_header r is =
      let header = (file_with q r.segments (λ part. part_in part r)).metadata in
      record {
        keyed = sym (ap file_hash_of is);
        reserved = ap (λ (s : MDBFileInfo). s.metadata._unused) is;
        flags = ap (λ (s : MDBFileInfo). s.metadata.file_flags) is ∙ (λ i. flags_of (λ part. sym (is_some-cond (has_part r part) (rows_of part r)) i));
        segments = sym (ap (λ (s : MDBFileInfo). s.metadata.num_entries) is);
        absent = λ part none. ap (rows_of part) (is ∙ (λ i. with_parts header r.segments (λ p. rows_kept (has_part r p) (rows_of p r) i)))
            ∙ rows_of-with_parts_if (has_part r) header r part ∙ ap (λ (v : Bool). if v then rows_of part r else []) none;
      }

  known_header : (r : MDBFileInfo) → IsKnown q r → HasPlainHeader r
  known_header r known = record {
    keyed = known.keyed;
    reserved = known.well_formed.reserved;
    flags = known.well_formed.known_flags;
    segments = known.well_formed.whole.segments;
    absent = part_absent r known.well_formed.whole;
  }

  merged_header : (r s : MDBFileInfo) → HasPlainHeader r → HasPlainHeader s → HasPlainHeader (merged_file r s)
  merged_header r s one other = record {
    keyed = one.keyed;
    reserved = one.reserved;
    flags = ap (λ n. n + flags_of (λ part. has_part s part && not (has_part r part))) one.flags ∙ flags_added (has_part r) (has_part s)
        ∙ (λ i. flags_of (λ part. sym (has_part-merged_file r s part) i));
    segments = one.segments;
    absent = λ part none. rows_of-merged_file r s part
        ∙ neither (has_part r part) (has_part s part) (rows_of part r) (rows_of part s) (sym (has_part-merged_file r s part) ∙ none) (one.absent part);
  } where
    neither : (v w : Bool) (xs ys : List HashRow) → (v || w) ≡ false → (v ≡ false → xs ≡ []) → (if w && not v then ys else xs) ≡ []
    neither v w xs ys none absent = grind arith

  -- the parts of the file of a union
  segments_either : (o p : Option MDBFileInfo) → option_map (λ (r : MDBFileInfo). r.segments) (either_file o p) ≡ option_or (option_map (λ r. r.segments) o) (option_map (λ r. r.segments) p)
  segments_either o p = grind arith

  part_either : (part : OptionalPart) (o p : Option MDBFileInfo) → option_and_then (part_in part) (either_file o p) ≡ option_or (option_and_then (part_in part) o) (option_and_then (part_in part) p)
  part_either part None p = refl
  part_either part (Some r) None = sym (or_none (part_in part r))
  part_either part (Some r) (Some s) = part_in-merged_file part r s

  abbrev IsPlainFile : Option MDBFileInfo → Type 0
  IsPlainFile o = (r : MDBFileInfo) → o ≡ Some r → HasPlainHeader r

  plain_either : (o p : Option MDBFileInfo) → IsPlainFile o → IsPlainFile p → IsPlainFile (either_file o p)
  plain_either None p first second t is = second t is
  plain_either (Some r) None first second t is = first t is
  plain_either (Some r) (Some s) first second t is = subst HasPlainHeader (same_Some (merged_file r s) t is) (merged_header r s (first r refl) (second s refl))

  -- parts of files that agree
  pub same_segments : (o p : Option MDBFileInfo) → ((r s : MDBFileInfo) → o ≡ Some r → p ≡ Some s → Agree r s) → (x y : List FileDataSequenceEntry)
      → option_map (λ (r : MDBFileInfo). r.segments) o ≡ Some x → option_map (λ (r : MDBFileInfo). r.segments) p ≡ Some y → x ≡ y
  same_segments None p agree x y one other = absurd (none-some x one)
  same_segments (Some r) None agree x y one other = absurd (none-some y other)
  same_segments (Some r) (Some s) agree x y one other = cc (agree r s refl refl).segments

  same_rows : (v w : Bool) (x y a b : List HashRow) → (IsTrue v → IsTrue w → a ≡ b) → (if v then Some a else None) ≡ Some x → (if w then Some b else None) ≡ Some y → x ≡ y
  same_rows v w x y a b agree one other = grind arith

  pub same_part : (part : OptionalPart) (o p : Option MDBFileInfo) → ((r s : MDBFileInfo) → o ≡ Some r → p ≡ Some s → Agree r s) → (x y : List HashRow)
      → option_and_then (part_in part) o ≡ Some x → option_and_then (part_in part) p ≡ Some y → x ≡ y
  same_part part o p agree x y one other =
      option_and_then_some (part_in part) o x one (λ r at mine. option_and_then_some (part_in part) p y other (λ s there others.
      same_rows (has_part r part) (has_part s part) x y (rows_of part r) (rows_of part s) ((agree r s at there).parts part) mine others))

-- each file of a shard is determined by its parts
pub follows_parts : (s : Shard) → IsShard s → FollowsParts s
follows_parts s shard q r at = plain_by_header q r (known_header q r (is_known s q r shard at))

pub plain_file : (s : Shard) → FollowsParts s → (q : DataHash) → IsPlainFile q (get s.files q)
plain_file s follows q r at = plain_header q r (follows q r at)

-- the union of the joins of two lists of shards is the join of both
module _ (xs ys : List Shard) (a b c : Shard) (first : IsJoinOf (Contains xs) a) (second : IsJoinOf (Contains ys) b) (agree : ShardsAgree a b) (union : IsUnion a b c) where
  of_either : {X : Type 0} (part : Shard → Option X) → part c ≡ option_or (part a) (part b) → ((x y : X) → part a ≡ Some x → part b ≡ Some y → x ≡ y)
      → HasWhatAnyHas (Contains xs) a part → HasWhatAnyHas (Contains ys) b part → HasWhatAnyHas (Contains (xs ++ ys)) c part
  of_either part is same one other = λ x. (
    λ at. elim ((either_part (part a) (part b) same x).0 (sym is ∙ at)) [
      | inl own ↦ let found = (one x).0 own in (found.0, Contains-append_left xs ys found.0 found.1, found.2)
      | inr others ↦ let found = (other x).0 others in (found.0, Contains-append_right xs ys found.0 found.1, found.2)
    ],
    λ (found : (s : Shard) × Contains (xs ++ ys) s × (part s ≡ Some x)). is ∙ (either_part (part a) (part b) same x).1
        (elim (Contains-append_cases xs ys found.0 found.1) [
          | inl mine ↦ inl ((one x).1 (found.0, mine, found.2))
          | inr others ↦ inr ((other x).1 (found.0, others, found.2))
        ]),
  )

  pub join-append : IsJoinOf (Contains (xs ++ ys)) c
  join-append = record {
    xorbs = λ q. of_either (λ s. get s.xorbs q) (union.xorbs q ∙ same_either (get a.xorbs q) (get b.xorbs q) (agree.xorbs q)) (agree.xorbs q) (first.xorbs q) (second.xorbs q);
    segments = λ q. of_either (segments_under q) (ap (option_map (λ r. r.segments)) (union.files q) ∙ segments_either q (get a.files q) (get b.files q))
        (same_segments q (get a.files q) (get b.files q) (agree.files q)) (first.segments q) (second.segments q);
    parts = λ part q. of_either (part_under part q) (ap (option_and_then (part_in part)) (union.files q) ∙ part_either q part (get a.files q) (get b.files q))
        (same_part q part (get a.files q) (get b.files q) (agree.files q)) (first.parts part q) (second.parts part q);
    follows = λ q t at. plain_by_header q t (plain_either q (get a.files q) (get b.files q) (plain_file a first.follows q) (plain_file b second.follows q) t (sym (union.files q) ∙ at));
  }

same_option : {X : Type 0} (o p : Option X) → ((x : X) → o ≡ Some x → p ≡ Some x) → ((x : X) → p ≡ Some x → o ≡ Some x) → o ≡ p
same_option o p to from = grind arith

file_unique : (q : DataHash) (o p : Option MDBFileInfo) → ((r : MDBFileInfo) → o ≡ Some r → IsPlain q r) → ((s : MDBFileInfo) → p ≡ Some s → IsPlain q s)
    → option_map (λ (r : MDBFileInfo). r.segments) o ≡ option_map (λ r. r.segments) p
    → ((part : OptionalPart) → option_and_then (part_in part) o ≡ option_and_then (part_in part) p) → o ≡ p
file_unique q None None first second segments parts = refl
file_unique q None (Some s) first second segments parts = absurd (none-some s.segments segments)
file_unique q (Some r) None first second segments parts = absurd (none-some r.segments (sym segments))
file_unique q (Some r) (Some s) first second segments parts =
    ap Some (first r refl ∙ (λ i. file_with q (same_Some r.segments s.segments segments i) (λ part. parts part i)) ∙ sym (second s refl))

-- a set of shards has at most one join
module _ (IsOne : Shard → Type 0) (c d : Shard) where
  part_unique : {X : Type 0} (part : Shard → Option X) → HasWhatAnyHas IsOne c part → HasWhatAnyHas IsOne d part → part c ≡ part d
  part_unique part one other = same_option (part c) (part d) (λ x at. (other x).1 ((one x).0 at)) (λ x at. (one x).1 ((other x).0 at))

  pub join-unique : IsJoinOf IsOne c → IsJoinOf IsOne d → c ≡ d
  join-unique one other = same_shard c d (λ q. file_unique q (get c.files q) (get d.files q) (one.follows q) (other.follows q)
      (part_unique (segments_under q) (one.segments q) (other.segments q))
      (λ part. part_unique (part_under part q) (one.parts part q) (other.parts part q)))
      (λ q. part_unique (λ s. get s.xorbs q) (one.xorbs q) (other.xorbs q))

-- the join of one shard is this shard
module _ (c : Shard) where
  alone : (s : Shard) → Contains (c ∷ []) s → c ≡ s
  alone s (zero, below, is) = is
  alone s (suc k, below, is) = absurd (omega (arith, below))

  has_of_one : {X : Type 0} (part : Shard → Option X) → HasWhatAnyHas (Contains (c ∷ [])) c part
  has_of_one part = λ x. (
    λ at. (c, Contains-push [] c, at),
    λ (found : (s : Shard) × Contains (c ∷ []) s × (part s ≡ Some x)). ap part (alone found.0 found.1) ∙ found.2,
  )

  pub join-one : FollowsParts c → IsJoinOf (Contains (c ∷ [])) c
  join-one follows = record {
    xorbs = λ q. has_of_one (λ s. get s.xorbs q);
    segments = λ q. has_of_one (segments_under q);
    parts = λ part q. has_of_one (part_under part q);
    follows = follows;
  }

-- that of none is the empty shard
has_of_none : {X : Type 0} (part : Shard → Option X) → part empty_shard ≡ None → HasWhatAnyHas (Contains []) empty_shard part
has_of_none part is = λ x. (
  λ at. absurd (none-some x (sym is ∙ at)),
  λ (found : (s : Shard) × Contains [] s × (part s ≡ Some x)). absurd (omega (arith, found.1.1)),
)

pub join-none : IsJoinOf (Contains []) empty_shard
join-none = record {
  xorbs = λ q. has_of_none (λ s. get s.xorbs q) (get-empty hash_cmp q);
  segments = λ q. has_of_none (segments_under q) (ap (option_map (λ r. r.segments)) (get-empty hash_cmp q));
  parts = λ part q. has_of_none (part_under part q) (ap (option_and_then (part_in part)) (get-empty hash_cmp q));
  follows = λ q r at. absurd (none-some r (sym (get-empty hash_cmp q) ∙ at));
}

-- the union of two shards that agree is their join
pub union_is_join : (a b c : Shard) → IsShard a → IsShard b → ShardsAgree a b → IsUnion a b c → IsJoinOf (Contains (a ∷ b ∷ [])) c
union_is_join a b c first second agree union = join-append (a ∷ []) (b ∷ []) a b c (join-one a (follows_parts a first)) (join-one b (follows_parts b second)) agree union
