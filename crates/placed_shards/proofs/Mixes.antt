-- What the union makes of two records with one hash.
use Rattle.std.proofs.Common.{◌≡◌, inl, inr, ℕ, ◌+◌, ◌-◌, ◌<◌, List, [], ◌∷◌, ◌++◌, length, length-drop, take, drop, refl, sym, ap, ◌∙◌, subst, arith, append-nil, append_assoc}
use Rattle.std.proofs.lemmas.List.{take_all}
use Rattle.xet_base.specs.Source.{Source, ReadsBytes, bytes_left}
use Rattle.xet_base.proofs.Reading.{ReadsBytes-consumes}
use Rattle.xet_records.specs.declared.file_structs.MDBFileInfo.{MDBFileInfo}
use Rattle.xet_records.specs.declared.file_structs.header.FileDataSequenceHeader.{FileDataSequenceHeader}
use Rattle.xet_records.specs.FileRow.{header_row}
use Rattle.xet_records.specs.FileRecord.{file_records, as_read, IsStored, row_count, rows_after, file_rows_bytes, file_record_bytes}
use Rattle.xet_records.specs.Merging.{IncludesBits, mixed_header}
use Rattle.xet_records.specs.Reading.{ReadsRowsAfter}
use Rattle.xet_records.specs.RecordKind.{RecordKind, KindLaws}
use Rattle.xet_records.proofs.RecordKinds.{file_laws}
use Rattle.xet_core_structures.specs.Records.ByteUnion.{mixed_file, IsEitherFile}
use Rattle.xet_core_structures.specs.Records.RecordPairs.{rows_in}
use Rattle.xet_core_structures.proofs.TwoShards.Mixing.{mixed_stored}
use Rattle.xet_core_structures.proofs.TwoShards.Readable.{handed_twice, mixed_readable}
use Rattle.placed_shards.specs.Steps.SetsSteps.{MakesNone, MakesRecord}

-- what is behind the front of bytes
drop_front : (xs ys : List ℕ) (n : ℕ) → length xs ≡ n → drop n (xs ++ ys) ≡ ys
drop_front [] ys n is = subst (λ k. drop k ys ≡ ys) is refl
drop_front (x ∷ xs) ys n is = subst (λ k. drop k ((x ∷ xs) ++ ys) ≡ ys) is (drop_front xs ys (length xs) refl)

-- a record that is read from its rows alone
module _ {H R : Type 0} (K : RecordKind H R) (laws : KindLaws K) where
  pub rows_behind : (r : R) (bytes : List ℕ) → bytes ≡ K.record_bytes r → take (length bytes - 48) (drop 48 bytes) ≡ K.bytes_after r
  rows_behind r bytes is =
      take_all (length bytes - 48) (drop 48 bytes) (omega (arith, length-drop 48 bytes))
      ∙ ap (drop 48) (is ∙ laws.record_bytes_are r) ∙ drop_front (K.header_bytes (K.header_of r)) (K.bytes_after r) 48 (laws.header_size (K.header_of r))

  pub read_again : (r found : R) → K.IsStored r → (from to : Source) → bytes_left from ≡ K.bytes_after r → ReadsRowsAfter K (K.header_of r) (ReadsBytes from to) found → found ≡ K.as_read r
  read_again r found stored from to left read =
      let is_stored = read.is_stored (laws.is_record r stored) (laws.header_fits r stored) in
      let bytes : K.record_bytes read.stored ++ bytes_left to ≡ K.record_bytes r ++ [] =
      ap (λ bs. bs ++ bytes_left to) (laws.record_bytes_are read.stored) ∙ append_assoc (K.header_bytes (K.header_of read.stored)) (K.bytes_after read.stored) (bytes_left to)
      ∙ (λ i. K.header_bytes (read.same_header i) ++ (sym (ReadsBytes-consumes from to (K.bytes_after read.stored) read.taken) ∙ left) i)
      ∙ sym (laws.record_bytes_are r) ∙ sym (append-nil (K.record_bytes r)) in
      sym read.returned ∙ ap K.as_read (laws.front read.stored r (bytes_left to) [] is_stored stored bytes).0

module _ (r s : MDBFileInfo) (hash : r.metadata.file_hash ≡ s.metadata.file_hash) where
  -- one of both
  pub keeps_first : IncludesBits r.metadata.file_flags s.metadata.file_flags → MakesRecord file_records IsEitherFile r s r
  keeps_first all = (refl, (as_read r, refl, inl (all, refl)))

  pub keeps_second : ¬ IncludesBits r.metadata.file_flags s.metadata.file_flags → IncludesBits s.metadata.file_flags r.metadata.file_flags → MakesRecord file_records IsEitherFile r s s
  keeps_second lacks all = (sym hash, (as_read s, refl, inr (inl (lacks, all, refl))))

  module _ (lacks : ¬ IncludesBits r.metadata.file_flags s.metadata.file_flags) (wants : ¬ IncludesBits s.metadata.file_flags r.metadata.file_flags) where
    pub no_mix : ¬ (r.metadata.num_entries ≡ s.metadata.num_entries) → MakesNone file_records IsEitherFile r s
    no_mix differ t (m, is, inl (all, _)) = absurd (lacks all)
    no_mix differ t (m, is, inr (inl (_, all, _))) = absurd (wants all)
    no_mix differ t (m, is, inr (inr (_, _, counts, _))) = absurd (differ counts)

    module _ (one : IsStored r) (other : IsStored s) (counts : r.metadata.num_entries ≡ s.metadata.num_entries) where
      abbrev pub mix : MDBFileInfo
      mix = mixed_file (as_read r) (as_read s)

      pub mix_stored : IsStored mix
      mix_stored = mixed_stored (as_read r) (as_read s) (file_laws.as_read_stored r one) (file_laws.as_read_stored s other) hash counts

      pub mix_rows : row_count mix ≡ 1 + rows_after (mixed_header r.metadata s.metadata)
      mix_rows = file_laws.rows mix mix_stored

      pub large_mix : 4294967295 < rows_after (mixed_header r.metadata s.metadata) → MakesNone file_records IsEitherFile r s
      large_mix many t (m, is, inl (all, _)) = absurd (lacks all)
      large_mix many t (m, is, inr (inl (_, all, _))) = absurd (wants all)
      large_mix many t (m, is, inr (inr (_, _, _, mixed))) =
          subst (λ o. 4294967295 < rows_in file_records o) (sym is) (subst (λ (f : MDBFileInfo). 4294967295 < row_count f) (sym mixed) (omega (arith, many, mix_rows)))

      mix_read : as_read mix ≡ mix
      mix_read = (mixed_readable r.metadata.file_hash (as_read r) (as_read s)
          (record { keyed = refl; stored = file_laws.as_read_stored r one; unchanged = handed_twice r })
          (record { keyed = hash; stored = file_laws.as_read_stored s other; unchanged = handed_twice s }) counts).unchanged

      pub makes_mix : (t : MDBFileInfo) → t ≡ mix → MakesRecord file_records IsEitherFile r s t
      makes_mix t is = subst (MakesRecord file_records IsEitherFile r s) (sym is) (refl, (as_read mix, refl, inr (inr (lacks, wants, counts, mix_read))))

-- the bytes of a mix, of which the rows were written behind the header
pub mix_bytes : (a b x y : MDBFileInfo) (g h : FileDataSequenceHeader) → x ≡ as_read a → y ≡ as_read b → g ≡ a.metadata → h ≡ b.metadata
    → (start written : List ℕ) → start ≡ header_row (mixed_header g h) → written ≡ start ++ file_rows_bytes (mixed_file x y) → written ≡ file_record_bytes (mixed_file (as_read a) (as_read b))
mix_bytes a b x y g h x_is y_is g_is h_is start written start_is is =
    is ∙ (λ i. (start_is ∙ (λ j. header_row (mixed_header (g_is j) (h_is j)))) i ++ file_rows_bytes (mixed_file (x_is i) (y_is i)))
    ∙ sym (file_laws.record_bytes_are (mixed_file (as_read a) (as_read b)))
