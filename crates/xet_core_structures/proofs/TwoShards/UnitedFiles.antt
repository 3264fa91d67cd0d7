-- Two files with one hash: which of them is written, or a mix of both, or why neither is.
use Rattle.std.proofs.Common.{◌≡◌, ◌⊎◌, inl, inr, ℕ, ◌+◌, ◌<◌, ◌≤◌, Bool, true, false, if◌then◌else◌, List, length, Option, Some, Ok, Err, refl, sym, ap, ◌∙◌, subst, arith, append-nil}
use Rattle.std.specs.declared.result.Result.{Result}
use Rattle.std.specs.Io.KnownBytes.{Appends}
use Rattle.std.proofs.lemmas.Option.{same_Some}
use Rattle.xet_base.specs.Source.{Source, ReadsBytes}
use Rattle.xet_records.specs.declared.file_structs.header.FileDataSequenceHeader.{FileDataSequenceHeader}
use Rattle.xet_records.specs.declared.file_structs.header.SupersetResult.{SupersetResult}
use Rattle.xet_records.specs.declared.file_structs.header.SupersetResult.TheVariants.{SuperA, SuperB, Neither, Equal}
use Rattle.xet_records.specs.declared.file_structs.MDBFileInfo.{MDBFileInfo}
use Rattle.xet_records.specs.declared.row_copier.CopyFailure.{CopyFailure}
use Rattle.xet_records.specs.FileRecord.{file_records, file_record_bytes, row_count, rows_after}
use Rattle.xet_records.specs.Merging.{IncludesBits, Compares, has_part, mixed_header}
use Rattle.xet_records.specs.declared.file_structs.rows.HashRow.{HashRow}
use Rattle.xet_records.specs.Part.{parts, rows_of}
use Rattle.xet_records.proofs.Parts.{rows_of_both}
use Rattle.xet_records.proofs.Merging.{rows_of-joined_file}
use Rattle.xet_records.specs.Reading.{ReadsRowsAfter}
use Rattle.xet_records.proofs.RecordKinds.{file_laws}
use Rattle.xet_core_structures.specs.Records.ByteUnion.{mixed_file, IsEitherFile}
use Rattle.xet_core_structures.specs.Records.RecordPairs.{IsMadeOf}
use Rattle.xet_core_structures.specs.Steps.MixedFiles.{MixesFiles, MixHasTooManyRows}
use Rattle.xet_core_structures.specs.Steps.MergeJoin.{IsRecordHeader, ReadsOptionalRecord, MakesRecord, CannotMake}
use Rattle.xet_core_structures.specs.Steps.MergeJoin.CannotMake.{nothing_made, too_many_rows}
use Rattle.xet_core_structures.specs.TwoShards.Streams.{streams}
use Rattle.xet_core_structures.specs.Steps.StreamsSteps.{sources}
use Rattle.xet_core_structures.proofs.TwoShards.Mixing.{mixed_stored, rows_of_mix, rows_of-mixed_file}
use Rattle.xet_core_structures.proofs.TwoShards.Pairs.{fails_so, record_of}
use Rattle.xet_core_structures.proofs.TwoShards.OneSection.{header_of_found}

-- which flags include the other's
pub first_includes : (a b : ℕ) (r : SupersetResult) → Compares a b r → (r ≡ Equal) ⊎ (r ≡ SuperA) → IncludesBits a b
first_includes a b r compares (inl is) = (subst (Compares a b) is compares).0
first_includes a b r compares (inr is) = (subst (Compares a b) is compares).0

pub second_includes : (a b : ℕ) (r : SupersetResult) → Compares a b r → r ≡ SuperB → (¬ IncludesBits a b) × IncludesBits b a
second_includes a b r compares is = subst (Compares a b) is compares

pub neither_includes : (a b : ℕ) (r : SupersetResult) → Compares a b r → r ≡ Neither → (¬ IncludesBits a b) × (¬ IncludesBits b a)
neither_includes a b r compares is = subst (Compares a b) is compares

-- two files neither of whose flags include the other's
module _ (g h : FileDataSequenceHeader) (lacks : ¬ IncludesBits g.file_flags h.file_flags) (wants : ¬ IncludesBits h.file_flags g.file_flags) (r s : MDBFileInfo)
    (r_is : g ≡ r.metadata) (s_is : h ≡ s.metadata) where
  lacks_all : ¬ IncludesBits r.metadata.file_flags s.metadata.file_flags
  lacks_all all = lacks (subst (λ p. p) (λ i. IncludesBits (sym r_is i).file_flags (sym s_is i).file_flags) all)

  wants_all : ¬ IncludesBits s.metadata.file_flags r.metadata.file_flags
  wants_all all = wants (subst (λ p. p) (λ i. IncludesBits (sym s_is i).file_flags (sym r_is i).file_flags) all)

  pub makes_mix : g.num_entries ≡ h.num_entries → IsEitherFile (Some r) (Some s) (Some (mixed_file r s))
  makes_mix count = (
    mixed_file r s,
    refl,
    inr (inr (
      lacks_all,
      wants_all,
      ap (λ (k : FileDataSequenceHeader). k.num_entries) (sym r_is) ∙ count ∙ ap (λ (k : FileDataSequenceHeader). k.num_entries) s_is,
      refl,
    )),
  )

  makes_none : ¬ (g.num_entries ≡ h.num_entries) → (made : Option MDBFileInfo) → ¬ IsEitherFile (Some r) (Some s) made
  makes_none other made (t, is, inl (all, _)) = lacks_all all
  makes_none other made (t, is, inr (inl (_, all, _))) = wants_all all
  makes_none other made (t, is, inr (inr (_, _, count, _))) =
      other (ap (λ (k : FileDataSequenceHeader). k.num_entries) r_is ∙ count ∙ ap (λ (k : FileDataSequenceHeader). k.num_entries) (sym s_is))

-- what is made of two files, by their headers
module _ (g h : FileDataSequenceHeader) (old_1 new_1 old_2 new_2 : Source) where
  flags_1 : (r : MDBFileInfo) → ReadsRowsAfter file_records g (ReadsBytes old_1 new_1) r → g ≡ r.metadata
  flags_1 r read = sym (header_of_found file_records file_laws (ReadsBytes old_1 new_1) g r read)

  flags_2 : (r : MDBFileInfo) → ReadsRowsAfter file_records h (ReadsBytes old_2 new_2) r → h ≡ r.metadata
  flags_2 r read = sym (header_of_found file_records file_laws (ReadsBytes old_2 new_2) h r read)

  pub makes_first : IncludesBits g.file_flags h.file_flags → (r : MDBFileInfo) (other : Option MDBFileInfo) → ReadsRowsAfter file_records g (ReadsBytes old_1 new_1) r
      → ReadsOptionalRecord file_records (Some h) old_2 new_2 other → IsEitherFile (Some r) other (Some r)
  makes_first includes r other read (s, is, also) =
      subst (λ o. IsEitherFile (Some r) o (Some r)) (sym is)
      (r, refl, inl (subst (λ p. p) (λ i. IncludesBits (flags_1 r read i).file_flags (flags_2 s also i).file_flags) includes, refl))

  -- the second is written, where its flags have more
  pub makes_second : (¬ IncludesBits h.file_flags g.file_flags) → IncludesBits g.file_flags h.file_flags → (r : MDBFileInfo) (other : Option MDBFileInfo) → ReadsRowsAfter file_records g (ReadsBytes old_1 new_1) r
      → ReadsOptionalRecord file_records (Some h) old_2 new_2 other → IsEitherFile other (Some r) (Some r)
  makes_second lacks includes r other read (s, is, also) =
      subst (λ o. IsEitherFile o (Some r) (Some r)) (sym is) (
        r,
        refl,
        inr (inl (
          λ all. lacks (subst (λ p. p) (λ i. IncludesBits (sym (flags_2 s also) i).file_flags (sym (flags_1 r read) i).file_flags) all),
          subst (λ p. p) (λ i. IncludesBits (flags_1 r read i).file_flags (flags_2 s also i).file_flags) includes,
          refl,
        )),
      )

  -- no file is made of both, if their counts differ
  pub cannot_unite : (rows : ℕ) → (¬ IncludesBits g.file_flags h.file_flags) × (¬ IncludesBits h.file_flags g.file_flags) → ¬ (g.num_entries ≡ h.num_entries) → (one other : Option MDBFileInfo)
      → ReadsOptionalRecord file_records (Some g) old_1 new_1 one → ReadsOptionalRecord file_records (Some h) old_2 new_2 other → CannotMake file_records IsEitherFile rows one other
  cannot_unite rows neither counts one other (r, is, read) (s, at, also) = nothing_made r s is at (makes_none g h neither.0 neither.1 r s (flags_1 r read) (flags_2 s also) counts)

  -- a mix of both is made
  either_rows : (v : Bool) (xs ys : List HashRow) → length (if v then xs else ys) ≤ length xs + length ys
  either_rows true xs ys = omega arith
  either_rows false xs ys = omega arith

  module _ (first : IsRecordHeader file_records g) (second : IsRecordHeader file_records h) (hash : g.file_hash ≡ h.file_hash) (count : g.num_entries ≡ h.num_entries)
      (neither : (¬ IncludesBits g.file_flags h.file_flags) × (¬ IncludesBits h.file_flags g.file_flags)) where
    mix_of : (r s : MDBFileInfo) → ReadsRowsAfter file_records g (ReadsBytes old_1 new_1) r → ReadsRowsAfter file_records h (ReadsBytes old_2 new_2) s → IsMadeOf file_records (Some r) (Some s) (mixed_file r s)
    mix_of r s read also =
        let r_is = sym (flags_1 r read) in
        let s_is = sym (flags_2 s also) in
        let same : r.metadata.file_hash ≡ s.metadata.file_hash = ap (λ (k : FileDataSequenceHeader). k.file_hash) r_is ∙ hash ∙ ap (λ (k : FileDataSequenceHeader). k.file_hash) (sym s_is) in
        record {
          stored = mixed_stored r s (record_of file_records file_laws g old_1 new_1 r read first).2 (record_of file_records file_laws h old_2 new_2 s also second).2 same
              (ap (λ (k : FileDataSequenceHeader). k.num_entries) r_is ∙ count ∙ ap (λ (k : FileDataSequenceHeader). k.num_entries) (sym s_is));
          rows = omega (
            arith,
            rows_of_both (λ p. rows_of p (mixed_file r s)) (λ p. rows_of p r) (λ p. rows_of p s) (λ p. subst (λ n. n ≤ length (rows_of p r) + length (rows_of p s))
                (ap length (sym (rows_of-mixed_file r s p ∙ rows_of-joined_file r s p))) (either_rows (has_part r p) (rows_of p r) (rows_of p s))) parts,
          );
          hash = of_either same;
        } where
          of_either : r.metadata.file_hash ≡ s.metadata.file_hash → (x : MDBFileInfo) → (Some r ≡ Some x) ⊎ (Some s ≡ Some x) → r.metadata.file_hash ≡ x.metadata.file_hash
          of_either same x (inl is) = ap (λ (t : MDBFileInfo). t.metadata.file_hash) (same_Some r x is)
          of_either same x (inr is) = same ∙ ap (λ (t : MDBFileInfo). t.metadata.file_hash) (same_Some s x is)

    pub mix_made : (rows : ℕ) (Before After : List MDBFileInfo → Type 0) (old new : Option (List ℕ)) {T : Type 0} (r : Result T CopyFailure)
        → MixesFiles g h (streams old_1 old_2 old) (streams new_1 new_2 new) rows Before After r
        → MakesRecord file_records IsEitherFile (Some g) (Some h) (streams old_1 old_2 old) (streams new_1 new_2 new) rows Before After r
    mix_made rows Before After old new (Ok v) mixes = record {
      one = Some mixes.one;
      other = Some mixes.other;
      made = Some (mixed_file mixes.one mixes.other);
      reads_first = (mixes.one, refl, mixes.reads_first);
      reads_second = (mixes.other, refl, mixes.reads_second);
      is_made = makes_mix g h neither.0 neither.1 mixes.one mixes.other (flags_1 mixes.one mixes.reads_first) (flags_2 mixes.other mixes.reads_second) count;
      made_of = mix_of mixes.one mixes.other mixes.reads_first mixes.reads_second;
      few = mixes.few;
      bytes = subst (Appends old new) (sym (append-nil (file_record_bytes (mixed_file mixes.one mixes.other)))) mixes.bytes;
      written = mixes.written;
    }
    mix_made rows Before After old new (Err failure) fails =
        fails_so file_records (Some g) (Some h) (sources old_1 old_2) (sources new_1 new_2) (MixHasTooManyRows rows) (CannotMake file_records IsEitherFile rows) cannot failure fails
      where
        cannot : (one other : Option MDBFileInfo) → ReadsOptionalRecord file_records (Some g) old_1 new_1 one → ReadsOptionalRecord file_records (Some h) old_2 new_2 other → MixHasTooManyRows rows one other
            → CannotMake file_records IsEitherFile rows one other
        cannot one other (r, is, read) (s, at, also) many =
            subst (λ p. p) (λ i. CannotMake file_records IsEitherFile rows (sym is i) (sym at i))
            (too_many_rows (mixed_file r s) (makes_mix g h neither.0 neither.1 r s (flags_1 r read) (flags_2 s also) count) (mix_of r s read also) (many r s is at))

  -- the rows of a mix have no room
  module _ (first : IsRecordHeader file_records g) (second : IsRecordHeader file_records h) (hash : g.file_hash ≡ h.file_hash) (count : g.num_entries ≡ h.num_entries) where
    pub mix_rows : (rows total : ℕ) → total ≡ 1 + rows_after (mixed_header g h) → 4294967295 < rows + total → (one other : Option MDBFileInfo)
        → ReadsOptionalRecord file_records (Some g) old_1 new_1 one → ReadsOptionalRecord file_records (Some h) old_2 new_2 other → MixHasTooManyRows rows one other
    mix_rows rows total counted many one other (r, is, read) (s, at, also) = λ x y x_is y_is.
        subst (λ p. p) (λ i. 4294967295 < rows + row_count (mixed_file (same_Some r x (sym is ∙ x_is) i) (same_Some s y (sym at ∙ y_is) i)))
        (omega (
          arith,
          many,
          counted,
          rows_of_mix g h r s (sym (flags_1 r read)) (sym (flags_2 s also)) (record_of file_records file_laws g old_1 new_1 r read first).2
              (record_of file_records file_laws h old_2 new_2 s also second).2 hash count,
        ))
