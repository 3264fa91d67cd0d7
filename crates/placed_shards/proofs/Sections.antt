-- The records of a section that are read so far.
use Rattle.std.proofs.Common.{◌≡◌, ℕ, ◌+◌, ◌-◌, ◌*◌, List, [], ◌∷◌, ◌++◌, drop, flat_map, refl, sym, ap, ◌∙◌, subst, append_assoc, append-nil, inl, inr, arith}
use Rattle.std.specs.Prelude.{All}
use Rattle.std.proofs.lemmas.Grind.{flat_map-append}
use Rattle.std.proofs.lemmas.List.{drop-drop}
use Rattle.std.proofs.lemmas.List.Sums.{sum_by_push}
use Rattle.std.proofs.lemmas.List.Elements.{All-nil, All-push}
use Rattle.xet_base.specs.declared.error.CoreError.{CoreError}
use Rattle.xet_base.specs.Source.ReadCase.{out_of_bytes}
use Rattle.xet_base.proofs.Lists.{rest_is}
use Rattle.xet_records.specs.Reading.{BeginsWithBookend, BeginsRefused, EndsEarly}
use Rattle.xet_records.specs.RecordKind.{RecordKind, KindLaws}
use Rattle.xet_records.proofs.Lengths.{length-all_record_bytes}
use Rattle.xet_records.proofs.RecordKinds.{length-record_bytes}
use Rattle.xet_shards.specs.Export.KeyedExport.{BadSection}
use Rattle.xet_shards.specs.Read.SectionReading.{HoldsRecords, IsSection}
use Rattle.xet_shards.specs.Read.SectionReading.SectionCase.{not_read, passes_limit}
use Rattle.xet_shards.specs.Write.Section.{total_rows}
use Rattle.placed_shards.specs.TakenRecords.{TakesRecord, StopsBefore}

module _ {H R : Type 0} (K : RecordKind H R) where
  -- records were taken from the front of bytes, and their rows counted down from 4294967295
  pub record HasTaken (bytes : List ℕ) (rs : List R) (rest : List ℕ) (left : ℕ) : Type 0 where
    pub stored : All K.IsStored rs
    pub rows : left + total_rows K rs ≡ 4294967295
    pub bytes_are : bytes ≡ flat_map K.record_bytes rs ++ rest

  pub none_taken : (bytes : List ℕ) → HasTaken bytes [] bytes 4294967295
  none_taken bytes = record { stored = All-nil K.IsStored; rows = refl; bytes_are = refl }

  module _ (bytes : List ℕ) (rs : List R) (rest : List ℕ) (left : ℕ) (taken : HasTaken bytes rs rest left) where
    pub holds : HoldsRecords K bytes rs rest
    holds = record { are_stored = taken.stored; rows = omega (arith, taken.rows); bytes_are = taken.bytes_are }

    pub taken_more : (r : R) (others : List ℕ) (after : ℕ) → TakesRecord K rest left after r others → HasTaken bytes (rs ++ r ∷ []) others after
    taken_more r others after next = record {
      stored = All-push K.IsStored rs r taken.stored next.stored;
      rows = omega (arith, taken.rows, next.rows, sum_by_push K.row_count rs r);
      bytes_are = taken.bytes_are ∙ ap (λ l. flat_map K.record_bytes rs ++ l) next.bytes_are ∙ sym (append_assoc (flat_map K.record_bytes rs) (K.record_bytes r) others)
          ∙ ap (λ l. l ++ others) (sym (flat_map-append K.record_bytes rs (r ∷ []) ∙ ap (λ l. flat_map K.record_bytes rs ++ l) (append-nil (K.record_bytes r))));
    }

    pub section_ends : BeginsWithBookend K rest → IsSection K bytes rs
    section_ends ends = record { rest = rest; records = holds; bookend = ends }

    pub rows_left_are : left ≡ 4294967295 - total_rows K rs
    rows_left_are = omega (arith, taken.rows)

    pub section_stops : (e : CoreError) → StopsBefore K rest left e → BadSection K bytes e
    section_stops e (inl stops) = not_read (out_of_bytes stops.0 (rs, rest, holds, subst (λ n. EndsEarly K n rest) rows_left_are stops.1))
    section_stops e (inr stops) = passes_limit stops.0 (rs, rest, holds, subst (λ n. BeginsRefused K n rest) rows_left_are stops.1)

    pub behind_section : KindLaws K → drop 48 rest ≡ drop (48 * (total_rows K rs + 1)) bytes
    behind_section laws =
        let size = length-all_record_bytes K.record_bytes K.row_count K.IsStored (length-record_bytes K laws) rs taken.stored in
        ap (drop 48) (sym (rest_is (48 * total_rows K rs) bytes (flat_map K.record_bytes rs) rest size taken.bytes_are))
        ∙ drop-drop 48 (48 * total_rows K rs) bytes ∙ ap (λ n. drop n bytes) (omega arith)
