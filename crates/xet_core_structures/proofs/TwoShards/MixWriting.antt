-- A mix of two files, written part by part while both are read; and why it is not.
use Rattle.std.proofs.Common.{◌≡◌, ◌==◌, ℕ, ◌+◌, ◌*◌, ◌≤◌, ◌<◌, if◌then◌else◌, List, [], ◌∷◌, ◌++◌, length, take, get_or, flat_map, sum_by, Option, Some, refl, sym, ap, ◌∙◌, subst, arith, append-nil}
use Rattle.xet_records.specs.Merging.{mixed_header}
use Rattle.std.specs.Io.KnownBytes.{Appends}
use Rattle.std.proofs.KnownBytes.{Appends-trans}
use Rattle.std.proofs.lemmas.List.{length-append}
use Rattle.std.proofs.lemmas.List.Sums.{sum_by-cons, sum_by_more_le}
use Rattle.xet_base.specs.declared.error.CoreError.{CoreError}
use Rattle.xet_base.specs.declared.error.CoreError.TheVariants.{OutOfMemory}
use Rattle.xet_base.specs.Errors.{IsWriteError}
use Rattle.xet_base.specs.InputLaws.{ReadsBytes-nil, ReadsBytes-trans, source_fails_later}
use Rattle.xet_base.specs.Source.{Source, ReadsBytes, NoFailure}
use Rattle.xet_records.specs.declared.file_structs.header.FileDataSequenceHeader.{FileDataSequenceHeader}
use Rattle.xet_records.specs.declared.file_structs.rows.FileDataSequenceEntry.{FileDataSequenceEntry}
use Rattle.xet_records.specs.declared.file_structs.MDBFileInfo.{MDBFileInfo}
use Rattle.xet_records.specs.declared.row_copier.CopyFailure.{CopyFailure}
use Rattle.xet_records.specs.declared.row_copier.CopyFailure.TheVariants.{Input, Output}
use Rattle.xet_records.specs.Copying.{CopiesRows, IsOutputFailure}
use Rattle.xet_records.specs.declared.file_structs.part.OptionalPart.{OptionalPart}
use Rattle.xet_records.specs.declared.file_structs.part.OptionalPart.TheVariants.{Verification, MetadataExt, AuxExt}
use Rattle.xet_records.specs.declared.file_structs.rows.HashRow.{HashRow}
use Rattle.xet_records.specs.FileRow.{header_row, segment_row, hash_row, FitsSegment, FitsHashRow, clear}
use Rattle.xet_records.specs.Part.{parts, announces, size_of_part, part_rows, rows_of, optional_rows, with_parts}
use Rattle.xet_records.specs.FileRecord.{file_records, file_record_bytes, file_rows_bytes, row_count, rows_after}
use Rattle.xet_records.specs.Rows.{ReadsRows}
use Rattle.xet_records.proofs.Reading.{length-read}
use Rattle.xet_records.proofs.Parts.{these_rows, these_counted, rows_of-counted, rows_bytes}
use Rattle.xet_records.proofs.Merging.{rows_of-joined_file}
use Rattle.xet_records.proofs.RecordKinds.{file_laws, parts_read}
use Rattle.xet_shards.specs.declared.shard_format.write.written.WrittenFiles.{WrittenFiles}
use Rattle.xet_shards.specs.Write.Written.{IsFileOf, HasWritten}
use Rattle.xet_core_structures.specs.Records.ByteUnion.{mixed_file}
use Rattle.xet_core_structures.specs.Steps.MixedFiles.{WritesMix, WritesMixRows, WritesEither, EitherFails}
use Rattle.xet_core_structures.specs.Steps.MixedFiles.EitherFails.{output_fails as either_output_fails, first_fails as either_first_fails, second_fails as either_second_fails}
use Rattle.xet_core_structures.specs.Steps.MergeJoin.{IsRecordHeader, PairFails}
use Rattle.xet_core_structures.specs.Steps.MergeJoin.PairFails.{output_fails, first_fails, second_fails}
use Rattle.xet_core_structures.specs.TwoShards.Streams.{Streams, streams}
use Rattle.xet_core_structures.specs.Steps.StreamsSteps.{Sources, sources}
use Rattle.xet_core_structures.proofs.TwoShards.Mixing.{rows_of_mix, rows_chosen}
use Rattle.xet_core_structures.proofs.TwoShards.Pairs.{record_of}
use Rattle.xet_core_structures.proofs.TwoShards.OneSection.{serves_on, taken_serves, header_of_found}

-- a failure at some part is one of the whole
module _ (g h : FileDataSequenceHeader) (Refused : Option MDBFileInfo → Option MDBFileInfo → Type 0) where
  pub part_fails : (old_1 mid_1 new_1 old_2 mid_2 new_2 : Source) (xs ys : List ℕ) (count_1 count_2 : ℕ) (failure : CopyFailure) → ReadsBytes old_1 mid_1 xs → ReadsBytes old_2 mid_2 ys
      → length xs + 48 * count_1 ≤ 48 * rows_after g → length ys + 48 * count_2 ≤ 48 * rows_after h → EitherFails (sources mid_1 mid_2) (sources new_1 new_2) count_1 count_2 failure
      → PairFails file_records (Some g) (Some h) (sources old_1 old_2) (sources new_1 new_2) Refused failure
  part_fails old_1 mid_1 new_1 old_2 mid_2 new_2 xs ys count_1 count_2 failure first second in_1 in_2 (either_output_fails e is device one two) =
      output_fails e is device (one ∙ (taken_serves old_1 mid_1 xs first).bytes) (two ∙ (taken_serves old_2 mid_2 ys second).bytes)
  part_fails old_1 mid_1 new_1 old_2 mid_2 new_2 xs ys count_1 count_2 failure first second in_1 in_2 (either_first_fails e is fails no_failure) =
      first_fails e is g refl (source_fails_later old_1 mid_1 new_1 xs (48 * count_1) (48 * rows_after g) e first fails in_1) (serves_on old_2 mid_2 new_2 (taken_serves old_2 mid_2 ys second) no_failure)
  part_fails old_1 mid_1 new_1 old_2 mid_2 new_2 xs ys count_1 count_2 failure first second in_1 in_2 (either_second_fails e is fails no_failure) =
      second_fails e is h refl (source_fails_later old_2 mid_2 new_2 ys (48 * count_2) (48 * rows_after h) e second fails in_2) (serves_on old_1 mid_1 new_1 (taken_serves old_1 mid_1 xs first) no_failure)

  pub no_output : (one two : Source) (failure : CopyFailure) → IsOutputFailure failure → PairFails file_records (Some g) (Some h) (sources one two) (sources one two) Refused failure
  no_output one two (Input e) none = absurd none
  no_output one two (Output e) is = output_fails e refl is refl refl

  pub not_added : (old_1 new_1 old_2 new_2 : Source) (e : CoreError) → NoFailure old_1 new_1 → NoFailure old_2 new_2 → e ≡ OutOfMemory → PairFails file_records (Some g) (Some h) (sources old_1 old_2) (sources new_1 new_2) Refused (Output e)
  not_added old_1 new_1 old_2 new_2 e first second is = output_fails e refl (subst IsWriteError (sym is) (tt, λ none. none)) first.bytes second.bytes

-- so many rows were read
abbrev pub TookRows : Source → Source → ℕ → Type 0
TookRows old new count = (bytes : List ℕ) × ReadsBytes old new bytes × (length bytes ≡ 48 * count)

more_taken : (a b c : Source) (m n k : ℕ) → m + n ≡ k → TookRows a b m → TookRows b c n → TookRows a c k
more_taken a b c m n k sum one other =
    (one.0 ++ other.0, ReadsBytes-trans a b c _ _ one.1 other.1, omega (arith, length-append one.0 other.0, one.2, other.2, sum))

-- they and those of the next part are no more than the header announces
pub next_within : (k : FileDataSequenceHeader) (i : ℕ) (front bytes : List ℕ) → i < length parts → length front ≡ 48 * k.num_entries → length bytes ≡ 48 * sum_by (λ part. part_rows part k) (take i parts)
    → length (front ++ bytes) + 48 * part_rows (get_or parts i Verification) k ≤ 48 * rows_after k
next_within k i front bytes below first second = omega (arith, length-append front bytes, first, second, sum_by_more_le (λ part. part_rows part k) parts i Verification below)

-- parts of two files, mixed one after another
module _ (g h : FileDataSequenceHeader) where
  unfoldable pub AreMixed : List OptionalPart → Streams → Streams → Type 0
  AreMixed [] old new = old ≡ new
  AreMixed (part ∷ ps) old new = (mid : Streams) × WritesEither hash_row FitsHashRow clear old mid (part_rows part g) (part_rows part h) × AreMixed ps mid new

  pub one_more : (ps : List OptionalPart) (part : OptionalPart) (old mid new : Streams) → AreMixed ps old mid
      → WritesEither hash_row FitsHashRow clear mid new (part_rows part g) (part_rows part h) → AreMixed (ps ++ part ∷ []) old new
  unfolding AreMixed
  one_more [] part old mid new same last = (new, subst (λ s. WritesEither hash_row FitsHashRow clear s new (part_rows part g) (part_rows part h)) (sym same) last, refl)
  one_more (p ∷ ps) part old mid new (next, first, rest) last = (next, first, one_more ps part next mid new rest last)

  pub both_read : (ps : List OptionalPart) (old new : Streams) → AreMixed ps old new
      → TookRows old.first new.first (sum_by (λ part. part_rows part g) ps) × TookRows old.second new.second (sum_by (λ part. part_rows part h) ps)
  unfolding AreMixed
  both_read [] old new same =
      let none : (s : Source) → TookRows s s 0 = λ s. ([], ReadsBytes-nil s, omega arith) in
      subst (λ (s : Streams). TookRows old.first s.first 0 × TookRows old.second s.second 0) same (none old.first, none old.second)
  both_read (part ∷ ps) old new (mid, both, rest) =
      let more = both_read ps mid new rest in (
        more_taken old.first mid.first new.first (part_rows part g) _ _ (sym (sum_by-cons (λ p. part_rows p g) part ps)) (flat_map hash_row both.first.stored, both.first.taken, both.first.size) more.0,
        more_taken old.second mid.second new.second (part_rows part h) _ _ (sym (sum_by-cons (λ p. part_rows p h) part ps)) (flat_map hash_row both.second.stored, both.second.taken, both.second.size) more.1,
      )

module _ (g h : FileDataSequenceHeader) (old_1 a_1 new_1 old_2 a_2 new_2 : Source) (w0 w1 w4 : Option (List ℕ)) where
  pub rows_mixed : (ss ts : List FileDataSequenceEntry) (size : ℕ)
      → CopiesRows segment_row FitsSegment (λ s. s) (ReadsBytes old_1 a_1) w0 w1 g.num_entries ss → size ≡ sum_by (λ s. s.unpacked_segment_bytes) ss
      → ReadsRows segment_row FitsSegment (λ s. s) (ReadsBytes old_2 a_2) h.num_entries ts → AreMixed g h parts (streams a_1 a_2 w1) (streams new_1 new_2 w4)
      → WritesMixRows g h (streams old_1 old_2 w0) (streams new_1 new_2 w4) size
  unfolding file_rows_bytes AreMixed
  rows_mixed ss ts size segments sized skipped (b, vs, (c, ms, (d, last, same))) =
      let xs = subst (λ s. WritesEither hash_row FitsHashRow clear c s (part_rows AuxExt g) (part_rows AuxExt h)) same last in
      let firsts = these_rows vs.firsts ms.firsts xs.firsts in
      let seconds = these_rows vs.seconds ms.seconds xs.seconds in
      let one : MDBFileInfo = with_parts g ss firsts in
      let two : MDBFileInfo = with_parts h ts seconds in
      let len_1 = these_counted g vs.firsts ms.firsts xs.firsts (length-read hash_row FitsHashRow clear _ _ _ vs.first) (length-read hash_row FitsHashRow clear _ _ _ ms.first)
      (length-read hash_row FitsHashRow clear _ _ _ xs.first) in
      let len_2 = these_counted h vs.seconds ms.seconds xs.seconds (length-read hash_row FitsHashRow clear _ _ _ vs.second) (length-read hash_row FitsHashRow clear _ _ _ ms.second)
      (length-read hash_row FitsHashRow clear _ _ _ xs.second) in
      let chosen : OptionalPart → List HashRow = λ part. if part_rows part g == 0 then seconds part else firsts part in
      let each : g.num_entries ≡ h.num_entries → (part : OptionalPart) → (if announces g.file_flags part then rows_of part one else rows_of part two) ≡ chosen part =
      λ count part. (λ i. if announces g.file_flags part then rows_of-counted g ss firsts len_1 part i else rows_of-counted h ts seconds len_2 part i)
      ∙ rows_chosen (announces g.file_flags part) (announces h.file_flags part) (size_of_part part g.num_entries) (part_rows part g) (part_rows part h) (firsts part) (seconds part) refl
      (ap (λ n. if announces h.file_flags part then size_of_part part n else 0) (sym count)) (len_1 part) (len_2 part) in
      let all : g.num_entries ≡ h.num_entries → optional_rows (mixed_file one two) ≡ flat_map chosen parts = λ count. λ i. flat_map (λ part. (rows_of-joined_file one two part ∙ each count part) i) parts in
      record {
        one = one;
        other = two;
        reads_first = parts_read (λ a b bytes. ReadsBytes a b bytes) ReadsBytes-nil ReadsBytes-trans g old_1 a_1 b.first c.first new_1 ss vs.firsts ms.firsts xs.firsts segments.read vs.first ms.first xs.first;
        reads_second = parts_read (λ a b bytes. ReadsBytes a b bytes) ReadsBytes-nil ReadsBytes-trans h old_2 a_2 b.second c.second new_2 ts vs.seconds ms.seconds xs.seconds skipped vs.second ms.second xs.second;
        rows = λ count. subst (λ bs. Appends w0 w4 (flat_map segment_row ss ++ bs)) (sym (ap (flat_map hash_row) (all count) ∙ rows_bytes hash_row chosen parts))
            (subst (λ bs. Appends w0 w4 (flat_map segment_row ss ++ (flat_map hash_row (chosen Verification) ++ (flat_map hash_row (chosen MetadataExt) ++ bs))))
            (sym (append-nil (flat_map hash_row (chosen AuxExt))))
            (Appends-trans w0 w1 w4 _ _ segments.written (Appends-trans w1 b.out w4 _ _ vs.bytes (Appends-trans b.out c.out w4 _ _ ms.bytes xs.bytes))));
        size = sym sized;
      }

-- a header was written before these rows
module _ (g h : FileDataSequenceHeader) (old new : Sources) (start w0 w1 : Option (List ℕ)) where
  pub mix_written : (size rows total : ℕ) (v w : WrittenFiles) → IsRecordHeader file_records g → IsRecordHeader file_records h
      → g.file_hash ≡ h.file_hash → g.num_entries ≡ h.num_entries → total ≡ 1 + rows_after (mixed_header g h) → rows + total ≤ 4294967295 → Appends start w0 (header_row (mixed_header g h))
      → WritesMixRows g h (streams old.first old.second w0) (streams new.first new.second w1) size
      → ((before : List MDBFileInfo) → (file : MDBFileInfo) → HasWritten v before → IsFileOf g.file_hash.word0 total size file → HasWritten w (before ++ file ∷ []))
      → WritesMix g h (streams old.first old.second start) (streams new.first new.second w1) rows (HasWritten v) (HasWritten w)
  unfolding file_record_bytes
  mix_written size rows total v w first second hash count counted fits front mixes adds =
      let one_is = header_of_found file_records file_laws _ g mixes.one mixes.reads_first in
      let two_is = header_of_found file_records file_laws _ h mixes.other mixes.reads_second in
      let row_total : row_count (mixed_file mixes.one mixes.other) ≡ 1 + rows_after (mixed_header g h) =
      rows_of_mix g h mixes.one mixes.other one_is two_is (record_of file_records file_laws g old.first new.first mixes.one mixes.reads_first first).2
      (record_of file_records file_laws h old.second new.second mixes.other mixes.reads_second second).2 hash count in
      record {
        one = mixes.one;
        other = mixes.other;
        reads_first = mixes.reads_first;
        reads_second = mixes.reads_second;
        few = omega (arith, fits, counted, row_total);
        bytes = subst (λ k. Appends start w1 (header_row k ++ file_rows_bytes (mixed_file mixes.one mixes.other))) (λ i. mixed_header (sym one_is i) (sym two_is i))
            (Appends-trans start w0 w1 _ _ front (mixes.rows count));
        written = λ before have. adds before (mixed_file mixes.one mixes.other) have (record { word = ap (λ (k : FileDataSequenceHeader). k.file_hash.word0) one_is; rows = row_total ∙ sym counted; bytes = mixes.size });
      }
