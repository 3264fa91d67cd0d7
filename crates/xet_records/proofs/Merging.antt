-- Records of one file and their parts: what merging gives, in which order, and what agreement passes on.
use Rattle.std.proofs.Common.{◌≡◌, ℕ, ◌+◌, ◌*◌, ◌^◌, ◌<◌, ◌≤◌, List, [], ◌∷◌, length, Bool, true, false, not, ◌&&◌, ◌||◌, ◌==◌, IsTrue, refl, sym, ap, ◌∙◌, subst, arith, true≢false, if◌then◌else◌}
use Rattle.std.specs.Prelude.{All, sum_by}
use Rattle.std.specs.Int.{bit_at}
use Rattle.std.proofs.lemmas.List.Sums.{sum_by-cons}
use Rattle.std.proofs.lemmas.Nat.Bits.{bit_at-lt}
use Rattle.std.proofs.lemmas.Bool.Decides.{nat_tests}
use Rattle.xet_records.specs.declared.file_structs.header.FileDataSequenceHeader.{FileDataSequenceHeader}
use Rattle.xet_records.specs.declared.file_structs.part.OptionalPart.{OptionalPart}
use Rattle.xet_records.specs.declared.file_structs.part.OptionalPart.TheVariants.{Verification, MetadataExt, AuxExt}
use Rattle.xet_records.specs.declared.file_structs.rows.HashRow.{HashRow}
use Rattle.xet_records.specs.declared.file_structs.MDBFileInfo.{MDBFileInfo}
use Rattle.xet_records.specs.FileRow.{FitsHashRow}
use Rattle.xet_records.specs.Part.{parts, bit_of, announces, flags_of, size_of_part, part_rows, rows_of, optional_rows, with_parts}
use Rattle.xet_records.specs.FileRecord.{rows_after, row_count, FitsItsHeader, IsWellFormed}
use Rattle.xet_records.specs.Merging.{IsSameFile, mixed_header, has_part, merged_file, Agree, joined_file}
use Rattle.xet_records.proofs.Parts.{for_parts, PartHolds, holds_own_rows, length-parts, fewer_rows, rows_of_both, rows_of-with_parts, with_parts-rows_of, All-part, All-parts}

-- a flag as a number
abbrev pub bit_if : Bool → ℕ
bit_if true = 1
bit_if false = 0

bit_if_small : (b : Bool) → bit_if b < 2
bit_if_small true = omega arith
bit_if_small false = omega arith

pub bit_if_times : (b : Bool) (n : ℕ) → (if b then n else 0) ≡ bit_if b * n
bit_if_times true n = omega arith
bit_if_times false n = omega arith

bit_if_shows : (n : ℕ) (b : Bool) → n ≡ bit_if b → (n == 1) ≡ b
bit_if_shows n true is = ap (λ k. k == 1) is
bit_if_shows n false is = ap (λ k. k == 1) is

pub bit_if_announced : (flags : ℕ) (part : OptionalPart) → bit_at flags (bit_of part) ≡ bit_if (announces flags part)
bit_if_announced flags part = by_cases (announces flags part) refl
  where
    by_cases : (b : Bool) → announces flags part ≡ b → bit_at flags (bit_of part) ≡ bit_if b
    by_cases true is = grind (arith, nat_tests, is)
    by_cases false is = grind (arith, nat_tests, is, bit_at-lt flags (bit_of part))

-- the bit of a part is one of 32
pub bit_within : (part : OptionalPart) → bit_of part < 32
bit_within part = for_parts (λ p. bit_of p < 32) (omega arith) (omega arith) (omega arith) part

-- the bits of flags to which those of parts that they don't announce are added
bits_added : (flags : ℕ) (wanted : OptionalPart → Bool) → ((part : OptionalPart) → bit_at flags (bit_of part) + bit_if (wanted part) < 2)
    → (part : OptionalPart) → bit_at (flags + flags_of wanted) (bit_of part) ≡ bit_at flags (bit_of part) + bit_if (wanted part)
bits_added flags wanted free Verification = omega (arith, free Verification, free MetadataExt, free AuxExt, bit_if_times (wanted Verification) 2147483648, bit_if_times (wanted MetadataExt) 1073741824, bit_if_times (wanted AuxExt) 536870912)
bits_added flags wanted free MetadataExt = omega (arith, free Verification, free MetadataExt, free AuxExt, bit_if_times (wanted Verification) 2147483648, bit_if_times (wanted MetadataExt) 1073741824, bit_if_times (wanted AuxExt) 536870912)
bits_added flags wanted free AuxExt = omega (arith, free Verification, free MetadataExt, free AuxExt, bit_if_times (wanted Verification) 2147483648, bit_if_times (wanted MetadataExt) 1073741824, bit_if_times (wanted AuxExt) 536870912)

pub flags_fit : (wanted : OptionalPart → Bool) → flags_of wanted < 2 ^ 32
flags_fit wanted = omega (
  arith,
  bit_if_times (wanted Verification) 2147483648,
  bit_if_times (wanted MetadataExt) 1073741824,
  bit_if_times (wanted AuxExt) 536870912,
  bit_if_small (wanted Verification),
  bit_if_small (wanted MetadataExt),
  bit_if_small (wanted AuxExt),
)

pub announces-flags_of : (wanted : OptionalPart → Bool) (part : OptionalPart) → announces (flags_of wanted) part ≡ wanted part
announces-flags_of wanted part =
    bit_if_shows (bit_at (flags_of wanted) (bit_of part)) (wanted part)
    (ap (λ n. bit_at n (bit_of part)) (omega arith) ∙ bits_added 0 wanted (λ p. omega (arith, bit_if_small (wanted p), none p)) part ∙ omega (arith, none part))
  where
    none : (part : OptionalPart) → bit_at 0 (bit_of part) ≡ 0
    none Verification = refl
    none MetadataExt = refl
    none AuxExt = refl

-- flags whose other bits are zero are those of the parts that they announce
pub flags_are_known : (wanted : OptionalPart → Bool) → flags_of wanted ≡ flags_of (announces (flags_of wanted))
flags_are_known wanted = λ i. flags_of (λ part. sym (announces-flags_of wanted part) i)

-- sums over parts
sums_added : (f g h : OptionalPart → ℕ) → ((part : OptionalPart) → f part + g part ≡ h part) → (ps : List OptionalPart) → sum_by f ps + sum_by g ps ≡ sum_by h ps
sums_added f g h each [] = refl
sums_added f g h each (part ∷ ps) = omega (arith, sum_by-cons f part ps, sum_by-cons g part ps, sum_by-cons h part ps, each part, sums_added f g h each ps)

flag_added : (v w : Bool) (n : ℕ) → (if v then n else 0) + (if w && not v then n else 0) ≡ (if v || w then n else 0)
flag_added true true n = omega arith
flag_added true false n = omega arith
flag_added false true n = omega arith
flag_added false false n = refl

pub flags_added : (v w : OptionalPart → Bool) → flags_of v + flags_of (λ part. w part && not (v part)) ≡ flags_of (λ part. v part || w part)
flags_added v w = sums_added _ _ _ (λ part. flag_added (v part) (w part) (2 ^ bit_of part)) parts

-- a part that is not announced is not there
no_rows : {X : Type 0} (xs : List X) → length xs ≡ 0 → xs ≡ []
no_rows [] none = refl
no_rows (x ∷ xs) none = absurd (omega (arith, none))

pub part_absent : (r : MDBFileInfo) → FitsItsHeader r → (part : OptionalPart) → has_part r part ≡ false → rows_of part r ≡ []
part_absent r whole part absent =
    no_rows (rows_of part r) (whole.parts part ∙ ap (λ (b : Bool). if b then size_of_part part r.metadata.num_entries else 0) absent)

-- a record takes nothing from one whose parts it has
pub nothing_taken : (a b : MDBFileInfo) → ((part : OptionalPart) → IsTrue (has_part b part) → IsTrue (has_part a part)) → merged_file a b ≡ a
nothing_taken a b has_all =
    let none : (part : OptionalPart) → (has_part b part && not (has_part a part)) ≡ false = λ part. none_gained (has_part a part) (has_part b part) (has_all part) in
    let flags : a.metadata.file_flags + flags_of (λ part. has_part b part && not (has_part a part)) ≡ a.metadata.file_flags =
    (λ i. a.metadata.file_flags + flags_of (λ part. none part i)) ∙ omega arith in
    (λ i. with_parts (record a.metadata { file_flags = flags i }) a.segments (λ part. if none part i then rows_of part b else rows_of part a)) ∙ with_parts-rows_of a
  where
    none_gained : (has gives : Bool) → (IsTrue gives → IsTrue has) → (gives && not has) ≡ false
    none_gained true true has_it = refl
    none_gained true false has_it = refl
    none_gained false true has_it = sym (has_it refl)
    none_gained false false has_it = refl

-- one of two parts
module _ {X : Type 0} where
  cond-takes : (v w : Bool) (x y : X) → (v ≡ false → w ≡ false → x ≡ y) → (if w && not v then y else x) ≡ (if v then x else y)
  cond-takes true true x y none = refl
  cond-takes true false x y none = refl
  cond-takes false true x y none = refl
  cond-takes false false x y none = none refl refl

  cond-turns : (v w : Bool) (x y : X) → (IsTrue v → IsTrue w → x ≡ y) → (v ≡ false → w ≡ false → x ≡ y) → (if v then x else y) ≡ (if w then y else x)
  cond-turns true true x y both none = both refl refl
  cond-turns true false x y both none = refl
  cond-turns false true x y both none = refl
  cond-turns false false x y both none = sym (none refl refl)

  itself : (v : Bool) (x : X) → (if v then x else x) ≡ x
  itself true x = refl
  itself false x = refl

or_turned : (v w : Bool) → (v || w) ≡ (w || v)
or_turned true true = refl
or_turned true false = refl
or_turned false true = refl
or_turned false false = refl

or_itself : (v : Bool) → (v || v) ≡ v
or_itself true = refl
or_itself false = refl

-- the parts of a record that took over parts, whatever its flags were
either_holds : (part : OptionalPart) (v : Bool) (xs ys : List HashRow) → PartHolds part xs → PartHolds part ys → PartHolds part (if v then xs else ys)
either_holds part true xs ys first second = first
either_holds part false xs ys first second = second

bit_if-or : (v w : Bool) → bit_if v + bit_if (w && not v) ≡ bit_if (v || w)
bit_if-or true true = refl
bit_if-or true false = refl
bit_if-or false true = refl
bit_if-or false false = refl

module _ (a b : MDBFileInfo) where
  pub has_part-merged_file : (part : OptionalPart) → has_part (merged_file a b) part ≡ (has_part a part || has_part b part)
  has_part-merged_file part =
      let takes : OptionalPart → Bool = λ p. has_part b p && not (has_part a p) in
      let sum : (p : OptionalPart) → bit_at a.metadata.file_flags (bit_of p) + bit_if (takes p) ≡ bit_if (has_part a p || has_part b p) =
      λ p. ap (λ n. n + bit_if (takes p)) (bit_if_announced a.metadata.file_flags p) ∙ bit_if-or (has_part a p) (has_part b p) in
      bit_if_shows _ (has_part a part || has_part b part)
      (bits_added a.metadata.file_flags takes (λ p. omega (arith, sum p, bit_if_small (has_part a p || has_part b p))) part ∙ sum part)

  pub rows_of-merged_file : (part : OptionalPart) → rows_of part (merged_file a b) ≡ (if has_part b part && not (has_part a part) then rows_of part b else rows_of part a)
  rows_of-merged_file part = rows_of-with_parts _ _ _ (λ p. either_holds p (has_part b p && not (has_part a p)) (rows_of p b) (rows_of p a) (holds_own_rows b p) (holds_own_rows a p)) part

  has_part-joined_file : (part : OptionalPart) → has_part (joined_file a b) part ≡ (has_part a part || has_part b part)
  has_part-joined_file part = announces-flags_of (λ p. has_part a p || has_part b p) part

  pub rows_of-joined_file : (part : OptionalPart) → rows_of part (joined_file a b) ≡ (if has_part a part then rows_of part a else rows_of part b)
  rows_of-joined_file part = rows_of-with_parts _ _ _ (λ p. either_holds p (has_part a p) (rows_of p a) (rows_of p b) (holds_own_rows a p) (holds_own_rows b p)) part

-- the rows of a merged record are those that the header of a mix announces
taken_rows : {X : Type 0} (v w : Bool) (n : ℕ) (xs ys : List X) → length xs ≡ (if v then n else 0) → length ys ≡ (if w then n else 0)
    → length (if w && not v then ys else xs) ≡ (if v || w then n else 0)
taken_rows true true n xs ys first second = first
taken_rows true false n xs ys first second = first
taken_rows false true n xs ys first second = second
taken_rows false false n xs ys first second = first

pub merged_rows : (a b : MDBFileInfo) → FitsItsHeader a → FitsItsHeader b → IsSameFile a.metadata b.metadata → row_count (merged_file a b) ≡ 1 + rows_after (mixed_header a.metadata b.metadata)
merged_rows a b a_whole b_whole same =
    let h = mixed_header a.metadata b.metadata in
    let each : (part : OptionalPart) → length (rows_of part (merged_file a b)) ≡ part_rows part h =
    λ part. ap length (rows_of-merged_file a b part)
    ∙ taken_rows (has_part a part) (has_part b part) (size_of_part part a.metadata.num_entries) (rows_of part a) (rows_of part b) (a_whole.parts part)
    (b_whole.parts part ∙ ap (λ n. if has_part b part then size_of_part part n else 0) (sym same.num_entries))
    ∙ ap (λ (u : Bool). if u then size_of_part part a.metadata.num_entries else 0) (sym (announces-flags_of (λ p. has_part a p || has_part b p) part)) in
    omega (arith, a_whole.segments, length-parts (λ part. rows_of part (merged_file a b)) h each)

-- as many as those of the second at least, and of both at most
pub merged_more : (a b : MDBFileInfo) → FitsItsHeader a → FitsItsHeader b → IsSameFile a.metadata b.metadata → row_count b ≤ row_count (merged_file a b)
merged_more a b a_whole b_whole same = omega (
  arith,
  a_whole.segments,
  b_whole.segments,
  same.num_entries,
  fewer_rows (λ p. rows_of p b) (λ p. rows_of p (merged_file a b)) (λ p. subst (λ n. length (rows_of p b) ≤ n) (ap length (sym (rows_of-merged_file a b p)))
      (of_second (has_part a p) (has_part b p) (size_of_part p a.metadata.num_entries) (rows_of p a) (rows_of p b) (a_whole.parts p)
      (b_whole.parts p ∙ ap (λ n. if has_part b p then size_of_part p n else 0) (sym same.num_entries)))) parts,
) where
  of_second : {X : Type 0} (v w : Bool) (n : ℕ) (xs ys : List X) → length xs ≡ (if v then n else 0) → length ys ≡ (if w then n else 0) → length ys ≤ length (if w && not v then ys else xs)
  of_second true true n xs ys first second = omega (arith, first, second)
  of_second true false n xs ys first second = omega (arith, second)
  of_second false true n xs ys first second = omega arith
  of_second false false n xs ys first second = omega (arith, second)

pub merged_within : (a b : MDBFileInfo) → row_count (merged_file a b) + 1 ≤ row_count a + row_count b
merged_within a b = omega (
  arith,
  rows_of_both (λ p. rows_of p (merged_file a b)) (λ p. rows_of p a) (λ p. rows_of p b)
      (λ p. subst (λ n. n ≤ length (rows_of p a) + length (rows_of p b)) (ap length (sym (rows_of-merged_file a b p))) (of_either (has_part b p && not (has_part a p)) (rows_of p a) (rows_of p b))) parts,
) where
  of_either : {X : Type 0} (v : Bool) (xs ys : List X) → length (if v then ys else xs) ≤ length xs + length ys
  of_either true xs ys = omega arith
  of_either false xs ys = omega arith

-- so merging three records is the same in either grouping
flag_regained : (u v w : Bool) (n : ℕ) → (if v && not u then n else 0) + (if w && not (u || v) then n else 0) ≡ (if (v || w) && not u then n else 0)
flag_regained true true true n = refl
flag_regained true true false n = refl
flag_regained true false true n = refl
flag_regained true false false n = refl
flag_regained false true true n = omega arith
flag_regained false true false n = omega arith
flag_regained false false true n = omega arith
flag_regained false false false n = refl

part_regained : {X : Type 0} (u v w : Bool) (x y z : X)
    → (if w && not (u || v) then z else (if v && not u then y else x)) ≡ (if (v || w) && not u then (if w && not v then z else y) else x)
part_regained true true true x y z = refl
part_regained true true false x y z = refl
part_regained true false true x y z = refl
part_regained true false false x y z = refl
part_regained false true true x y z = refl
part_regained false true false x y z = refl
part_regained false false true x y z = refl
part_regained false false false x y z = refl

pub merged_file-assoc : (a b c : MDBFileInfo) → merged_file (merged_file a b) c ≡ merged_file a (merged_file b c)
merged_file-assoc a b c =
    let u : OptionalPart → Bool = λ part. has_part a part in
    let v : OptionalPart → Bool = λ part. has_part b part in
    let w : OptionalPart → Bool = λ part. has_part c part in
    let front : flags_of (λ part. v part && not (u part)) + flags_of (λ part. w part && not (u part || v part)) ≡ flags_of (λ part. (v part || w part) && not (u part)) =
    sums_added _ _ _ (λ part. flag_regained (u part) (v part) (w part) (2 ^ bit_of part)) parts in
    let flags : (merged_file (merged_file a b) c).metadata.file_flags ≡ (merged_file a (merged_file b c)).metadata.file_flags =
    (λ i. a.metadata.file_flags + flags_of (λ part. v part && not (u part)) + flags_of (λ part. w part && not (has_part-merged_file a b part i)))
    ∙ omega (arith, front)
    ∙ (λ i. a.metadata.file_flags + flags_of (λ part. sym (has_part-merged_file b c part) i && not (u part))) in
    let rows : (part : OptionalPart) → (if w part && not (has_part (merged_file a b) part) then rows_of part c else rows_of part (merged_file a b))
    ≡ (if has_part (merged_file b c) part && not (u part) then rows_of part (merged_file b c) else rows_of part a) =
    λ part. (λ i. if w part && not (has_part-merged_file a b part i) then rows_of part c else rows_of-merged_file a b part i)
    ∙ part_regained (u part) (v part) (w part) (rows_of part a) (rows_of part b) (rows_of part c)
    ∙ (λ i. if sym (has_part-merged_file b c part) i && not (u part) then sym (rows_of-merged_file b c part) i else rows_of part a) in
    λ i. with_parts (record a.metadata { file_flags = flags i }) a.segments (λ part. rows part i)

-- agreement of two records with a third passes to what merging makes of them
part_agreed : {X : Type 0} (u v w : Bool) (x y z : X) → (IsTrue u → IsTrue w → x ≡ z) → (IsTrue v → IsTrue w → y ≡ z) → IsTrue (u || v) → IsTrue w
    → (if v && not u then y else x) ≡ z
part_agreed true true w x y z first second either third = first refl third
part_agreed true false w x y z first second either third = first refl third
part_agreed false true w x y z first second either third = second refl third
part_agreed false false w x y z first second either third = absurd (true≢false (sym either))

pub agree-merged_file : (a b c : MDBFileInfo) → Agree a c → Agree b c → Agree (merged_file a b) c
agree-merged_file a b c first second = record {
  segments = first.segments;
  parts = λ part v w. rows_of-merged_file a b part ∙ part_agreed (has_part a part) (has_part b part) (has_part c part) (rows_of part a) (rows_of part b) (rows_of part c)
      (first.parts part) (second.parts part) (sym (has_part-merged_file a b part) ∙ v) w;
}

-- merging well-formed records gives the record with the parts of both
both_absent : (a b : MDBFileInfo) → FitsItsHeader a → FitsItsHeader b → (part : OptionalPart) → has_part a part ≡ false → has_part b part ≡ false → rows_of part a ≡ rows_of part b
both_absent a b a_whole b_whole part v w = part_absent a a_whole part v ∙ sym (part_absent b b_whole part w)

pub merged_is_joined : (a b : MDBFileInfo) → IsWellFormed a → IsWellFormed b → merged_file a b ≡ joined_file a b
merged_is_joined a b a_formed b_formed =
    let flags = ap (λ n. n + flags_of (λ part. has_part b part && not (has_part a part))) a_formed.known_flags ∙ flags_added (has_part a) (has_part b) in
    λ i. with_parts (record a.metadata { file_flags = flags i }) a.segments
    (λ part. cond-takes (has_part a part) (has_part b part) (rows_of part a) (rows_of part b) (both_absent a b a_formed.whole b_formed.whole part) i)

-- the order, the grouping and the repetition of well-formed records that agree don't matter
same_header : (h k : FileDataSequenceHeader) (flags : ℕ) → IsSameFile h k → h._unused ≡ k._unused → record h { file_flags = flags } ≡ record k { file_flags = flags }
same_header h k flags same reserved = λ i. record { file_hash = same.file_hash i; file_flags = flags; num_entries = same.num_entries i; _unused = reserved i }

pub same_file_if_agree : (a b : MDBFileInfo) → FitsItsHeader a → FitsItsHeader b → a.metadata.file_hash ≡ b.metadata.file_hash → Agree a b → IsSameFile a.metadata b.metadata
same_file_if_agree a b a_whole b_whole same_hash agree = record {
  file_hash = same_hash;
  num_entries = sym a_whole.segments ∙ ap length agree.segments ∙ b_whole.segments;
}

pub joined_file-comm : (a b : MDBFileInfo) → IsWellFormed a → IsWellFormed b → a.metadata.file_hash ≡ b.metadata.file_hash → Agree a b → joined_file a b ≡ joined_file b a
joined_file-comm a b a_formed b_formed same_hash agree =
    let header = same_header a.metadata b.metadata (flags_of (λ part. has_part a part || has_part b part))
    (same_file_if_agree a b a_formed.whole b_formed.whole same_hash agree) (a_formed.reserved ∙ sym b_formed.reserved)
    ∙ (λ i. record b.metadata { file_flags = flags_of (λ part. or_turned (has_part a part) (has_part b part) i) }) in
    λ i. with_parts (header i) (agree.segments i)
    (λ part. cond-turns (has_part a part) (has_part b part) (rows_of part a) (rows_of part b) (agree.parts part) (both_absent a b a_formed.whole b_formed.whole part) i)

pub joined_file-idem : (a : MDBFileInfo) → IsWellFormed a → joined_file a a ≡ a
joined_file-idem a formed =
    let flags = (λ i. flags_of (λ part. or_itself (has_part a part) i)) ∙ sym formed.known_flags in
    (λ i. with_parts (record a.metadata { file_flags = flags i }) a.segments (λ part. itself (has_part a part) (rows_of part a) i)) ∙ with_parts-rows_of a

-- the record with the parts of two well-formed records of one file is well-formed, but for the limit on rows
pub joined_whole : (a b : MDBFileInfo) → FitsItsHeader a → FitsItsHeader b → IsSameFile a.metadata b.metadata → FitsItsHeader (joined_file a b)
joined_whole a b a_whole b_whole same = record {
  segments = a_whole.segments;
  parts = λ part. ap length (rows_of-joined_file a b part)
      ∙ lengths (has_part a part) (has_part b part) (rows_of part a) (rows_of part b) (size_of_part part a.metadata.num_entries) (a_whole.parts part)
      (b_whole.parts part ∙ ap (λ n. if has_part b part then size_of_part part n else 0) (sym same.num_entries))
      ∙ ap (λ (u : Bool). if u then size_of_part part a.metadata.num_entries else 0) (sym (has_part-joined_file a b part));
} where
  lengths : {X : Type 0} (v w : Bool) (xs ys : List X) (n : ℕ) → length xs ≡ (if v then n else 0) → length ys ≡ (if w then n else 0)
      → length (if v then xs else ys) ≡ (if v || w then n else 0)
  lengths true w xs ys n first second = first
  lengths false w xs ys n first second = second

either_part : {X : Type 0} (P : X → Type 0) (v : Bool) (x y : X) → P x → P y → P (if v then x else y)
either_part P true x y first second = first
either_part P false x y first second = second

-- a fact of each optional row of two records is one of those of their join
pub All-joined_file : (P : HashRow → Type 0) (a b : MDBFileInfo) → All P (optional_rows a) → All P (optional_rows b) → All P (optional_rows (joined_file a b))
All-joined_file P a b first second = All-parts P (λ part. rows_of part (joined_file a b)) (λ part. subst (All P) (sym (rows_of-joined_file a b part))
    (either_part (All P) (has_part a part) (rows_of part a) (rows_of part b) (All-part P (λ p. rows_of p a) first part) (All-part P (λ p. rows_of p b) second part)))

joined_well_formed : (a b : MDBFileInfo) → IsWellFormed a → IsWellFormed b → IsSameFile a.metadata b.metadata → row_count (joined_file a b) ≤ 4294967295 → IsWellFormed (joined_file a b)
joined_well_formed a b a_formed b_formed same few = record {
  is_file = a_formed.is_file;
  known_flags = flags_are_known (λ part. has_part a part || has_part b part);
  reserved = a_formed.reserved;
  whole = joined_whole a b a_formed.whole b_formed.whole same;
  clear = All-joined_file (λ row. row._unused ≡ 0 ∷ 0 ∷ []) a b a_formed.clear b_formed.clear;
  rows = few;
  widths = record {
    metadata = record {
      file_hash = a_formed.widths.metadata.file_hash;
      file_flags = flags_fit (λ part. has_part a part || has_part b part);
      num_entries = a_formed.widths.metadata.num_entries;
      unused = a_formed.widths.metadata.unused;
    };
    segments = a_formed.widths.segments;
    parts = All-joined_file FitsHashRow a b a_formed.widths.parts b_formed.widths.parts;
  };
}

pub merged_well_formed : (a b : MDBFileInfo) → IsWellFormed a → IsWellFormed b → IsSameFile a.metadata b.metadata → row_count (merged_file a b) ≤ 4294967295 → IsWellFormed (merged_file a b)
merged_well_formed a b a_formed b_formed same few =
    let is = merged_is_joined a b a_formed b_formed in
    subst IsWellFormed (sym is) (joined_well_formed a b a_formed b_formed same (subst (λ r. row_count r ≤ 4294967295) is few))
