-- On shards that agree the byte union is their union, and the union of their bytes the layout of it.
use Rattle.std.proofs.Common.{◌≡◌, ◌⊎◌, inl, inr, ℕ, zero, suc, ◌^◌, ◌<◌, ◌≤◌, Bool, true, false, ◌||◌, List, Option, None, Some, IfSome, refl, sym, ap, ◌∙◌, subst, if◌then◌else◌, ◌==◌, true≢false, arith}
use Rattle.xet_shards.specs.Write.WithOptions.{FitsSection}
use Rattle.std.specs.Int.{bit_at}
use Rattle.std.specs.FinMap.{get, values}
use Rattle.std.proofs.lemmas.Bool.Decides.{nat_tests}
use Rattle.std.proofs.lemmas.Nat.Bits.{bit_at-lt}
use Rattle.xet_base.specs.declared.error.CoreError.{CoreError}
use Rattle.xet_base.specs.Hash.{IsHash}
use Rattle.xet_base.specs.KeyedHash.{no_key}
use Rattle.xet_base.specs.declared.merklehash.DataHash.{DataHash}
use Rattle.xet_records.specs.declared.file_structs.MDBFileInfo.{MDBFileInfo}
use Rattle.xet_records.specs.declared.record_reader.FormatVersion.{FormatVersion}
use Rattle.xet_records.specs.declared.file_structs.part.OptionalPart.{OptionalPart}
use Rattle.xet_records.specs.FileRecord.{file_records_in}
use Rattle.xet_records.specs.Part.{bit_of, flags_of, rows_of, with_parts}
use Rattle.xet_records.specs.Merging.{IncludesBits, has_part, Agree, joined_file}
use Rattle.xet_records.proofs.Parts.{with_parts-rows_of}
use Rattle.xet_records.proofs.Merging.{bit_within, part_absent, joined_file-comm, same_file_if_agree, merged_is_joined}
use Rattle.xet_shards.specs.declared.shard_format.ends.info.MDBShardInfo.{MDBShardInfo}
use Rattle.xet_shards.specs.Ends.Ends.{HasHeaderAndFooter}
use Rattle.xet_shards.specs.Content.Joining.{either_file}
use Rattle.xet_shards.specs.declared.shard_format.ends.options.LayoutOptions.{LayoutOptions}
use Rattle.xet_shards.specs.Write.Layout.{layout_of, plain_options, plain_options_in, info_of}
use Rattle.xet_shards.specs.Content.SetOperations.{IsUnion, ShardsAgree, RowsFitU32}
use Rattle.xet_shards.specs.Content.Shard.{Shard, IsShard}
use Rattle.xet_shards.specs.Write.WrittenShard.{HasFilesIn, IsBytesOf}
use Rattle.xet_shards.proofs.Content.AgreeingJoins.{union_is_shard}
use Rattle.xet_shards.proofs.Ends.EndsUnique.{only_info, ends_of_layout, not_unsupported, not_too_short}
use Rattle.xet_shards.proofs.Content.Overlays.{union_unique}
use Rattle.xet_shards.proofs.Write.Sections.{files_fit, files_fit_in, xorbs_fit}
use Rattle.xet_shards.proofs.Content.Unions.{IsKnown, is_known, same_either}
use Rattle.xet_shards.proofs.Ends.Widths.{fits_with_options}
use Rattle.xet_core_structures.specs.Records.ByteUnion.{mixed_file, IsUnitedFile, IsEitherFile, IsByteUnion}
use Rattle.xet_core_structures.specs.TwoShards.ByteResults.{keyed_options, keyed_layout, key_of, HaveNoUnion, UnionRefusal, UnitesBytes, LoadRefusal, BytesRefusal}
use Rattle.xet_core_structures.specs.Trees.ExportTrees.{FitsOptions}
use Rattle.xet_core_structures.specs.Records.ShardContents.{HoldsShard}
use Rattle.xet_core_structures.specs.Trees.MergeTrees.{MergeRefused}
use Rattle.xet_core_structures.proofs.Records.ShardContents.{only_shard, held_whole, held_well, holds_with_options}

-- whether one set of bits includes another is decided
bit_is : (x : ℕ) → x < 2 → (x ≡ 0) ⊎ (x ≡ 1)
bit_is zero small = inl refl
bit_is (suc zero) small = inr refl
bit_is (suc (suc x)) small = absurd (omega (arith, small))

module _ (a b : ℕ) where
  abbrev IncludesBelow : ℕ → Type 0
  IncludesBelow n = (i : ℕ) → i < n → bit_at b i ≡ 1 → bit_at a i ≡ 1

  one_more : (n : ℕ) → IncludesBelow n → (bit_at b n ≡ 1 → bit_at a n ≡ 1) → IncludesBelow (suc n)
  one_more n below here i low set = elim (lower i low) [
    | inl less ↦ below i less set
    | inr is ↦ subst (λ k. bit_at a k ≡ 1) (sym is) (here (subst (λ k. bit_at b k ≡ 1) is set))
  ] where
    lower : (i : ℕ) → i < suc n → (i < n) ⊎ (i ≡ n)
    lower i low = apart i n low where
      apart : (i n : ℕ) → i < suc n → (i < n) ⊎ (i ≡ n)
      apart zero zero low = inr refl
      apart zero (suc n) low = inl (omega arith)
      apart (suc i) zero low = absurd (omega (arith, low))
      apart (suc i) (suc n) low = elim (apart i n (omega (arith, low))) [ inl less ↦ inl (omega (arith, less)) | inr is ↦ inr (ap suc is) ]

  included_below : (n : ℕ) → n ≤ 32 → IncludesBelow n ⊎ (¬ IncludesBits a b)
  included_below zero low = inl (λ i none set. absurd (omega (arith, none)))
  included_below (suc n) low = elim (included_below n (omega (arith, low))) [
    | inr lacks ↦ inr lacks
    | inl below ↦ elim (bit_is (bit_at b n) (bit_at-lt b n)) [
      | inl unset ↦ inl (one_more n below (λ set. absurd (omega (arith, unset, set))))
      | inr set ↦ elim (bit_is (bit_at a n) (bit_at-lt a n)) [
        | inr has ↦ inl (one_more n below (λ _. has))
        | inl lacks ↦ inr (λ all. omega (arith, lacks, all n (omega (arith, low)) set))
      ]
    ]
  ]

  pub includes_or_not : IncludesBits a b ⊎ (¬ IncludesBits a b)
  includes_or_not = included_below 32 (omega arith)

-- a record whose flags include the other's is the join of both
bit_kept : (a b : ℕ) (k : ℕ) → k < 32 → IncludesBits a b → ((bit_at b k == 1) ≡ true → (bit_at a k == 1) ≡ true)
bit_kept a b k low all set = ap (λ n. n == 1) (all k low (is_one (bit_at b k) set)) where
  is_one : (n : ℕ) → (n == 1) ≡ true → n ≡ 1
  is_one n is = grind (arith, nat_tests, is)

or_more : (v w : Bool) → (w ≡ true → v ≡ true) → (v || w) ≡ v
or_more true w more = refl
or_more false true more = absurd (true≢false (sym (more refl)))
or_more false false more = refl

part_more : {X : Type 0} (v w : Bool) (x y : X) → (w ≡ true → v ≡ true) → (v ≡ false → w ≡ false → x ≡ y) → (if v then x else y) ≡ x
part_more true w x y more none = refl
part_more false true x y more none = absurd (true≢false (sym (more refl)))
part_more false false x y more none = sym (none refl refl)

module _ (q : DataHash) (a b : MDBFileInfo) (one : IsKnown q a) (other : IsKnown q b) where
  joined_file-more : IncludesBits a.metadata.file_flags b.metadata.file_flags → joined_file a b ≡ a
  joined_file-more all =
      let more : (part : OptionalPart) → has_part b part ≡ true → has_part a part ≡ true =
      λ part. bit_kept a.metadata.file_flags b.metadata.file_flags (bit_of part) (bit_within part) all in
      let flags = (λ i. flags_of (λ part. or_more (has_part a part) (has_part b part) (more part) i)) ∙ sym one.well_formed.known_flags in
      (λ i. with_parts (record a.metadata { file_flags = flags i }) a.segments
      (λ part. part_more (has_part a part) (has_part b part) (rows_of part a) (rows_of part b) (more part)
      (λ n k. part_absent a one.well_formed.whole part n ∙ sym (part_absent b other.well_formed.whole part k)) i))
      ∙ with_parts-rows_of a

  mixed_is_joined : mixed_file a b ≡ joined_file a b
  mixed_is_joined = λ i. record (joined_file a b) { metadata = record (joined_file a b).metadata { _unused = sym one.well_formed.reserved i } }

module _ (q : DataHash) (a b : MDBFileInfo) (one : IsKnown q a) (other : IsKnown q b) (agree : Agree a b) where
  joined_file-less : IncludesBits b.metadata.file_flags a.metadata.file_flags → joined_file a b ≡ b
  joined_file-less all = joined_file-comm a b one.well_formed other.well_formed (sym one.keyed ∙ other.keyed) agree ∙ joined_file-more q b a other one all

  united_is_joined : (c : MDBFileInfo) → IsUnitedFile a b c → c ≡ joined_file a b
  united_is_joined c (inl (all, is)) = is ∙ sym (joined_file-more q a b one other all)
  united_is_joined c (inr (inl (lacks, all, is))) = is ∙ sym (joined_file-less all)
  united_is_joined c (inr (inr (lacks, wants, counts, is))) = is ∙ mixed_is_joined q a b one other

  joined_is_united : IsUnitedFile a b (joined_file a b)
  joined_is_united = elim (includes_or_not a.metadata.file_flags b.metadata.file_flags) [
    | inl all ↦ inl (all, joined_file-more q a b one other all)
    | inr lacks ↦ elim (includes_or_not b.metadata.file_flags a.metadata.file_flags) [
      | inl all ↦ inr (inl (lacks, all, joined_file-less all))
      | inr wants ↦ inr (inr (
        lacks,
        wants,
        (same_file_if_agree a b one.well_formed.whole other.well_formed.whole (sym one.keyed ∙ other.keyed) agree).num_entries,
        sym (mixed_is_joined q a b one other),
      ))
    ]
  ]

-- the byte union of shards that agree is their union
module _ (q : DataHash) where
  either_is : (o p r : Option MDBFileInfo) → ((x : MDBFileInfo) → o ≡ Some x → IsKnown q x) → ((y : MDBFileInfo) → p ≡ Some y → IsKnown q y)
      → ((x y : MDBFileInfo) → o ≡ Some x → p ≡ Some y → Agree x y) → IsEitherFile o p r → r ≡ either_file o p
  either_is None p r first second agree is = is
  either_is (Some x) None r first second agree is = is
  either_is (Some x) (Some y) r first second agree (z, is, united) =
      let own = first x refl in
      let others = second y refl in
      is ∙ ap Some (united_is_joined q x y own others (agree x y refl refl) z united ∙ sym (merged_is_joined x y own.well_formed others.well_formed))

  is_either : (o p : Option MDBFileInfo) → ((x : MDBFileInfo) → o ≡ Some x → IsKnown q x) → ((y : MDBFileInfo) → p ≡ Some y → IsKnown q y)
      → ((x y : MDBFileInfo) → o ≡ Some x → p ≡ Some y → Agree x y) → IsEitherFile o p (either_file o p)
  is_either None p first second agree = refl
  is_either (Some x) None first second agree = refl
  is_either (Some x) (Some y) first second agree =
      let own = first x refl in
      let others = second y refl in
      (joined_file x y, ap Some (merged_is_joined x y own.well_formed others.well_formed), joined_is_united q x y own others (agree x y refl refl))

module _ (a b c : Shard) (first : IsShard a) (second : IsShard b) (agree : ShardsAgree a b) where
  pub byte_union_is_union : IsByteUnion a b c → IsUnion a b c
  byte_union_is_union union = record {
    files = λ q. either_is q (get a.files q) (get b.files q) (get c.files q) (λ r. is_known a q r first) (λ r. is_known b q r second) (agree.files q) (union.files q);
    xorbs = λ q. union.xorbs q ∙ sym (same_either (get a.xorbs q) (get b.xorbs q) (agree.xorbs q));
  }

  pub union_is_byte_union : IsUnion a b c → IsByteUnion a b c
  union_is_byte_union union = record {
    files = λ q. subst (IsEitherFile (get a.files q) (get b.files q)) (sym (union.files q))
        (is_either q (get a.files q) (get b.files q) (λ r. is_known a q r first) (λ r. is_known b q r second) (agree.files q));
    xorbs = λ q. union.xorbs q ∙ same_either (get a.xorbs q) (get b.xorbs q) (agree.xorbs q);
  }

-- the bytes of a shard with layout options
abbrev pub layout_in : Shard → LayoutOptions → List ℕ
layout_in s options = layout_of (values s.files) (values s.xorbs) options

abbrev info_in : Shard → LayoutOptions → MDBShardInfo
info_in s options = info_of (values s.files) (values s.xorbs) options

module _ (s : Shard) (options : LayoutOptions) (shard : IsShard s) (fits : FitsOptions options) where
  ends_with_options : HasHeaderAndFooter (layout_in s options) (info_in s options)
  ends_with_options =
      ends_of_layout (values s.files) (values s.xorbs) options
      (fits_with_options (values s.files) (values s.xorbs) options (files_fit s shard) (xorbs_fit s shard) fits.key fits.creation fits.expiry)

  -- the bytes of a shard with layout options hold it, under the options' key
  pub held_with_options : FitsSection (file_records_in options.version) (values s.files) → HoldsShard options.key s (layout_in s options)
  held_with_options files = record { shard = shard; has = record { info = info_in s options; ends = ends_with_options; holds = holds_with_options s options shard files }; under = refl }

module _ (key : DataHash) (s : Shard) (bytes : List ℕ) (held : HoldsShard key s bytes) where
  -- they have no other header and footer
  pub info_found : (i : MDBShardInfo) → HasHeaderAndFooter bytes i → i ≡ held.has.info
  info_found i ends = only_info bytes i held.has.info ends held.has.ends

  pub loads_well : (e : CoreError) → ¬ LoadRefusal bytes e
  loads_well e (inl (is, unsupported)) = not_unsupported bytes held.has.info held.has.ends unsupported
  loads_well e (inr (is, short)) = not_too_short bytes held.has.info held.has.ends short

  pub fits_key : IsHash key
  fits_key = subst IsHash held.under held.has.ends.footer_widths.key

-- the union of bytes that hold two shards that agree, under one key
module _ (a b c : Shard) (key : DataHash) (x y : List ℕ) (one : HoldsShard key a x) (other : HoldsShard key b y) (agree : ShardsAgree a b) (union : IsUnion a b c) where
  union_found : (out : List ℕ) → UnitesBytes x y out → (out ≡ keyed_layout c key) × RowsFitU32 c
  union_found out (i, j, d, i_ends, j_ends, have, is) =
      let a_is = only_shard x a have.first one.has (record { info = i; ends = i_ends; holds = have.holds_first }) in
      let b_is = only_shard y b have.second other.has (record { info = j; ends = j_ends; holds = have.holds_second }) in
      let bytes : IsByteUnion a b d = subst (λ p. p) (λ k. IsByteUnion (a_is k) (b_is k) d) have.result in
      let d_is = union_unique a b d c (byte_union_is_union a b d one.shard other.shard agree bytes) union in
      (is ∙ (λ k. keyed_layout (d_is k) (key_of (info_found key a x one i i_ends k))) ∙ ap (keyed_layout c) one.under, subst RowsFitU32 d_is have.rows)

  -- it is the layout of their union under the key, and holds it
  pub held_union : (out : List ℕ) → UnitesBytes x y out → (out ≡ keyed_layout c key) × HoldsShard key c out
  held_union out unites =
      let found = union_found out unites in
      let shard = union_is_shard a b c one.shard other.shard agree union found.1 in
      let fits : FitsOptions (keyed_options key) = record { key = fits_key key a x one; creation = omega arith; expiry = omega arith } in
      (found.0, subst (HoldsShard key c) (sym found.0) (held_with_options c (keyed_options key) shard fits (files_fit c shard)))

  no_union : RowsFitU32 c → ¬ HaveNoUnion x one.has.info y other.has.info
  no_union few (inl files) = files.none a.files b.files c.files one.has.holds.files other.has.holds.files (union_is_byte_union a b c one.shard other.shard agree union).files few.files
  no_union few (inr xorbs) = xorbs.none a.xorbs b.xorbs c.xorbs one.has.holds.xorbs other.has.holds.xorbs (union_is_byte_union a b c one.shard other.shard agree union).xorbs few.xorbs

  union_refuses : (err : CoreError) → UnionRefusal x one.has.info y other.has.info err → MergeRefused c err
  union_refuses err (inl (is, differ)) = absurd (differ (one.under ∙ sym other.under))
  union_refuses err (inr (same, inl (inl no_memory))) = inl no_memory
  union_refuses err (inr (same, inl (inr (inl (is, inl cut))))) = absurd (held_whole x one.has.info a one.has.holds cut)
  union_refuses err (inr (same, inl (inr (inl (is, inr cut))))) = absurd (held_whole y other.has.info b other.has.holds cut)
  union_refuses err (inr (same, inl (inr (inr (is, inl bad))))) = absurd (held_well x one.has.info a one.has.holds bad)
  union_refuses err (inr (same, inl (inr (inr (is, inr bad))))) = absurd (held_well y other.has.info b other.has.holds bad)
  union_refuses err (inr (same, inr (is, none))) = inr (is, λ few. no_union few none)

  pub refused_union : (err : CoreError) → BytesRefusal x y err → MergeRefused c err
  refused_union err (inl load) = absurd (loads_well key a x one err load)
  refused_union err (inr (inl (i, i_ends, load))) = absurd (loads_well key b y other err load)
  refused_union err (inr (inr (i, j, i_ends, j_ends, why))) =
      union_refuses err (subst (λ p. p) (λ k. UnionRefusal x (info_found key a x one i i_ends k) y (info_found key b y other j j_ends k) err) why)

-- the bytes of a shard hold it, with any layout options whose version has its files
pub form_held : (s : Shard) (options : LayoutOptions) → IsShard s → HasFilesIn options.version s → FitsOptions options → HoldsShard options.key s (layout_in s options)
form_held s options shard has fits = held_with_options s options shard fits (files_fit_in options.version s shard has)

-- those that are written without options hold it without a key
expiry_fits : (expiry : Option ℕ) → IfSome expiry (λ e. e < 2 ^ 64) → (plain_options expiry).expiry < 2 ^ 64
expiry_fits None fits = omega arith
expiry_fits (Some e) fits = fits

plain_fits : (version : FormatVersion) (expiry : Option ℕ) → IfSome expiry (λ e. e < 2 ^ 64) → FitsOptions (plain_options_in version expiry)
plain_fits version expiry fits = record {
  key = record { word0 = omega arith; word1 = omega arith; word2 = omega arith; word3 = omega arith };
  creation = omega arith;
  expiry = expiry_fits expiry fits;
}

pub written_held : (s : Shard) (bytes : List ℕ) → IsBytesOf s bytes → HoldsShard no_key s bytes
written_held s bytes is =
    subst (HoldsShard no_key s) (sym is.bytes_are) (form_held s (plain_options_in is.version is.expiry) is.shard is.files (plain_fits is.version is.expiry is.expiry_fits))
