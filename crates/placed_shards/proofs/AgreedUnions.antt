-- What agrees with the union of two shards that agree is what agrees with both.
use Rattle.std.proofs.Common.{◌≡◌, ◌↔◌, inl, inr, Bool, true, false, ◌||◌, Option, None, Some, refl, sym, ap, ◌∙◌, subst, if◌then◌else◌}
use Rattle.std.specs.Prelude.{IsTrue}
use Rattle.xet_base.specs.declared.error.CoreError.{CoreError}
use Rattle.xet_records.specs.declared.file_structs.MDBFileInfo.{MDBFileInfo}
use Rattle.xet_records.specs.declared.file_structs.part.OptionalPart.{OptionalPart}
use Rattle.xet_records.specs.declared.xorb_structs.MDBXorbInfo.{MDBXorbInfo}
use Rattle.xet_records.specs.FileRecord.{file_records}
use Rattle.xet_records.specs.Merging.{Agree, has_part}
use Rattle.xet_records.specs.Part.{rows_of}
use Rattle.xet_records.specs.XorbRecord.{xorb_records}
use Rattle.xet_records.proofs.Merging.{announces-flags_of, rows_of-joined_file}
use Rattle.xet_core_structures.specs.Records.ByteUnion.{mixed_file, IsUnitedFile, IsEitherFile, IsEitherXorb}
use Rattle.xet_core_structures.specs.Records.RecordPairs.{with_hash}
use Rattle.xet_core_structures.proofs.TwoShards.Mixing.{rows_of-mixed_file}
use Rattle.placed_shards.specs.declared.findings.RecordHash.{RecordHash}
use Rattle.placed_shards.specs.declared.findings.RecordHash.TheVariants.{File, Xorb}
use Rattle.placed_shards.specs.Agreement.{AgreeIfBoth, AreEqual, IsAgreedFile, IsAgreedXorb}
use Rattle.placed_shards.specs.Content.{Content}
use Rattle.placed_shards.specs.Findings.{AgreeUnder, AgreeInAll}
use Rattle.placed_shards.specs.Unions.{Unites, Refuses, IsUnionOf, UnionRefusal}
use Rattle.placed_shards.proofs.Agreeing.{agrees_with_itself}
use Rattle.placed_shards.proofs.Equalities.{agrees_too, announces_more}

-- files agree either way
pub turned_files : (a b : MDBFileInfo) → Agree a b → Agree b a
turned_files a b agree = record { segments = sym agree.segments; parts = λ part has also. sym (agree.parts part also has) }

-- what agrees with two files that agree
module _ (a b : MDBFileInfo) (agree : Agree a b) where
  has_mixed : (part : OptionalPart) → has_part (mixed_file a b) part ≡ (has_part a part || has_part b part)
  has_mixed part = announces-flags_of (λ p. has_part a p || has_part b p) part

  rows_mixed : (part : OptionalPart) → rows_of part (mixed_file a b) ≡ (if has_part a part then rows_of part a else rows_of part b)
  rows_mixed part = rows_of-mixed_file a b part ∙ rows_of-joined_file a b part

  either_has : (v w : Bool) → IsTrue w → IsTrue (v || w)
  either_has true w has = refl
  either_has false w has = has

  second_rows : (part : OptionalPart) → IsTrue (has_part b part) → (v : Bool) → has_part a part ≡ v → (if v then rows_of part a else rows_of part b) ≡ rows_of part b
  second_rows part has true is = agree.parts part is has
  second_rows part has false is = refl

  module _ (t : MDBFileInfo) where
    mixed_rows : Agree t a → Agree t b → (part : OptionalPart) → IsTrue (has_part t part) → (v : Bool) → has_part a part ≡ v → IsTrue (v || has_part b part) → rows_of part t ≡ (if v then rows_of part a else rows_of part b)
    mixed_rows one other part has true is either = one.parts part has is
    mixed_rows one other part has false is either = other.parts part has either

    with_mix : Agree t a → Agree t b → Agree t (mixed_file a b)
    with_mix one other = record {
      segments = one.segments;
      parts = λ part has also. mixed_rows one other part has (has_part a part) refl (sym (has_mixed part) ∙ also) ∙ sym (rows_mixed part);
    }

    with_first : Agree t (mixed_file a b) → Agree t a
    with_first mix = record {
      segments = mix.segments;
      parts = λ part has also.
          mix.parts part has (has_mixed part ∙ ap (λ (v : Bool). v || has_part b part) also)
          ∙ rows_mixed part ∙ ap (λ (v : Bool). if v then rows_of part a else rows_of part b) also;
    }

    with_second : Agree t (mixed_file a b) → Agree t b
    with_second mix = record {
      segments = mix.segments ∙ agree.segments;
      parts = λ part has also.
          mix.parts part has (has_mixed part ∙ either_has (has_part a part) (has_part b part) also)
          ∙ rows_mixed part ∙ second_rows part also (has_part a part) refl;
    }

    -- and with the file that their union has
    with_united : (c : MDBFileInfo) → IsUnitedFile a b c → Agree t c ↔ (Agree t a × Agree t b)
    with_united c (inl (more, is)) = (
      λ all.
          let first = subst (Agree t) is all in
          (first, turned_files b t (agrees_too a b t (λ part. announces_more a.metadata.file_flags b.metadata.file_flags part more) agree (turned_files t a first))),
      λ both. subst (Agree t) (sym is) both.0,
    )
    with_united c (inr (inl (lacks, more, is))) = (
      λ all.
          let second = subst (Agree t) is all in
          (turned_files a t (agrees_too b a t (λ part. announces_more b.metadata.file_flags a.metadata.file_flags part more) (turned_files a b agree) (turned_files t b second)), second),
      λ both. subst (Agree t) (sym is) both.1,
    )
    with_united c (inr (inr (lacks, wants, count, is))) = (
      λ all. let mix = subst (Agree t) is all in (with_first mix, with_second mix),
      λ both. subst (Agree t) (sym is) (with_mix both.0 both.1),
    )

-- the same of records that may be there
file_agreed : (t a b c : Option MDBFileInfo) → AgreeIfBoth Agree a b → IsEitherFile a b c → AgreeIfBoth Agree t c ↔ (AgreeIfBoth Agree t a × AgreeIfBoth Agree t b)
file_agreed None a b c both is = (λ all. (tt, tt), λ all. tt)
file_agreed (Some t) None b c both is = (λ all. (tt, subst (AgreeIfBoth Agree (Some t)) is all), λ all. subst (AgreeIfBoth Agree (Some t)) (sym is) all.1)
file_agreed (Some t) (Some a) None c both is = (λ all. (subst (AgreeIfBoth Agree (Some t)) is all, tt), λ all. subst (AgreeIfBoth Agree (Some t)) (sym is) all.0)
file_agreed (Some t) (Some a) (Some b) c both (d, is, united) =
    let each = with_united a b both t d united in
    (λ all. each.0 (subst (AgreeIfBoth Agree (Some t)) is all), λ all. subst (AgreeIfBoth Agree (Some t)) (sym is) (each.1 all))

xorb_agreed : (t a b c : Option MDBXorbInfo) → AgreeIfBoth AreEqual a b → IsEitherXorb a b c → AgreeIfBoth AreEqual t c ↔ (AgreeIfBoth AreEqual t a × AgreeIfBoth AreEqual t b)
xorb_agreed None a b c both is = (λ all. (tt, tt), λ all. tt)
xorb_agreed (Some t) None b c both is = (λ all. (tt, subst (AgreeIfBoth AreEqual (Some t)) is all), λ all. subst (AgreeIfBoth AreEqual (Some t)) (sym is) all.1)
xorb_agreed (Some t) (Some a) None c both is = (λ all. (subst (AgreeIfBoth AreEqual (Some t)) is all, tt), λ all. subst (AgreeIfBoth AreEqual (Some t)) (sym is) all.0)
xorb_agreed (Some t) (Some a) (Some b) c both is = (
  λ all. let first : t ≡ a = subst (AgreeIfBoth AreEqual (Some t)) is all in (first, first ∙ both),
  λ all. subst (AgreeIfBoth AreEqual (Some t)) (sym is) all.0,
)

either_way : {R : Type 0} (agree : R → R → Type 0) → ((r s : R) → agree r s → agree s r) → (o p : Option R) → AgreeIfBoth agree o p → AgreeIfBoth agree p o
either_way agree turn None None is = tt
either_way agree turn None (Some s) is = tt
either_way agree turn (Some r) None is = tt
either_way agree turn (Some r) (Some s) is = turn r s is

with_itself : {R : Type 0} (agree : R → R → Type 0) → ((r : R) → agree r r) → (o : Option R) → AgreeIfBoth agree o o
with_itself agree same None = tt
with_itself agree same (Some r) = same r

-- shards agree either way, and each with itself
pub turned : (c d : Content) → AgreeInAll c d → AgreeInAll d c
turned c d agree (File q) = either_way Agree turned_files (with_hash file_records c.files q) (with_hash file_records d.files q) (agree (File q))
turned c d agree (Xorb q) = either_way AreEqual (λ r s. sym) (with_hash xorb_records c.xorbs q) (with_hash xorb_records d.xorbs q) (agree (Xorb q))

pub itself : (c : Content) → AgreeInAll c c
itself c (File q) = with_itself Agree agrees_with_itself (with_hash file_records c.files q)
itself c (Xorb q) = with_itself AreEqual (λ r. refl) (with_hash xorb_records c.xorbs q)

-- the union of two shards that agree
module _ (c d made : Content) where
  module _ (unites : Unites IsAgreedFile IsAgreedXorb c d made) where
    pub both_agree : AgreeInAll c d
    both_agree (File q) = (unites.files.combined.each q).0
    both_agree (Xorb q) = (unites.xorbs.combined.each q).0

    pub as_union : IsUnionOf c d made
    as_union = record {
      same_key = unites.same_key;
      files = record {
        combined = record { ascends = unites.files.combined.ascends; each = λ q. (unites.files.combined.each q).1; stored = unites.files.combined.stored };
        rows = unites.files.rows;
      };
      xorbs = record {
        combined = record { ascends = unites.xorbs.combined.ascends; each = λ q. (unites.xorbs.combined.each q).1; stored = unites.xorbs.combined.stored };
        rows = unites.xorbs.rows;
      };
      options_are = unites.options_are;
    }

    agreed_under : (t : Content) (h : RecordHash) → AgreeUnder h t made ↔ (AgreeUnder h t c × AgreeUnder h t d)
    agreed_under t (File q) =
        let each = unites.files.combined.each q in
        file_agreed (with_hash file_records t.files q) (with_hash file_records c.files q) (with_hash file_records d.files q) (with_hash file_records made.files q) each.0 each.1
    agreed_under t (Xorb q) =
        let each = unites.xorbs.combined.each q in
        xorb_agreed (with_hash xorb_records t.xorbs q) (with_hash xorb_records c.xorbs q) (with_hash xorb_records d.xorbs q) (with_hash xorb_records made.xorbs q) each.0 each.1

    pub agreed_with : (t : Content) → AgreeInAll t made ↔ (AgreeInAll t c × AgreeInAll t d)
    agreed_with t = (
      λ all. (λ h. ((agreed_under t h).0 (all h)).0, λ h. ((agreed_under t h).0 (all h)).1),
      λ both. λ h. (agreed_under t h).1 (both.0 h, both.1 h),
    )

  pub agreed_union : AgreeInAll c d → IsUnionOf c d made → Unites IsAgreedFile IsAgreedXorb c d made
  agreed_union agree unites = record {
    same_key = unites.same_key;
    files = record {
      combined = record { ascends = unites.files.combined.ascends; each = λ q. (agree (File q), unites.files.combined.each q); stored = unites.files.combined.stored };
      rows = unites.files.rows;
    };
    xorbs = record {
      combined = record { ascends = unites.xorbs.combined.ascends; each = λ q. (agree (Xorb q), unites.xorbs.combined.each q); stored = unites.xorbs.combined.stored };
      rows = unites.xorbs.rows;
    };
    options_are = unites.options_are;
  }

-- if two shards agree, and have no union of shards that agree, they have none
pub as_refusal : (c d : Content) (e : CoreError) → AgreeInAll c d → Refuses IsAgreedFile IsAgreedXorb c d e → UnionRefusal c d e
as_refusal c d e agree (inl none) = inl none
as_refusal c d e agree (inr (inl differ)) = inr (inl differ)
as_refusal c d e agree (inr (inr (invalid, same, never))) = inr (inr (invalid, same, λ made unites. never made (agreed_union c d made agree unites)))
