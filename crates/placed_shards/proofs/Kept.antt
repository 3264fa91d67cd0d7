-- Files with some of their optional parts: their header, and their rows in the bytes of the file.
use Rattle.std.proofs.Common.{◌≡◌, ℕ, zero, suc, ◌+◌, ◌*◌, ◌<◌, ◌≤◌, Bool, true, false, List, [], ◌∷◌, length, take, drop, get_or, flat_map, refl, sym, ap, ◌∙◌, arith, true≢false, if◌then◌else◌}
use Rattle.std.specs.Prelude.{not, ◌&&◌, ◌||◌, IsTrue, sum_by}
use Rattle.xet_records.specs.declared.file_structs.header.FileDataSequenceHeader.{FileDataSequenceHeader}
use Rattle.xet_records.specs.declared.file_structs.part.OptionalPart.{OptionalPart}
use Rattle.xet_records.specs.declared.file_structs.part.OptionalPart.TheVariants.{Verification}
use Rattle.xet_records.specs.declared.file_structs.MDBFileInfo.{MDBFileInfo}
use Rattle.xet_records.specs.FileRow.{hash_row, FitsHashRow}
use Rattle.xet_records.specs.Part.{parts, announces, part_rows, rows_before, rows_of}
use Rattle.std.proofs.lemmas.List.Elements.{All-cons, All-nil}
use Rattle.xet_records.specs.FileRecord.{has_verification, has_aux_ext, file_records, rows_after, FitsItsHeader, IsStored}
use Rattle.xet_records.specs.declared.file_structs.view.KeptParts.{KeptParts}
use Rattle.xet_records.specs.View.{IsWholeFile, Shows, with_aux_if, without_verification, as_kept}
use Rattle.xet_records.specs.Steps.ViewSteps.{keeps}
use Rattle.xet_records.proofs.KeptParts.{kept-whole, rows-kept, rows_of-kept}
use Rattle.xet_records.proofs.Parts.{for_parts}
use Rattle.xet_records.proofs.Record.{rows_whole}
use Rattle.xet_records.proofs.RowsWithin.{hash_laws, rows_within, bytes_of_rows}
use Rattle.xet_records.proofs.Views.{has_part_rows, part_count}
use Rattle.xet_shards.proofs.StreamingShard.MinimalWriting.{fit_as_kept}

-- no part is announced but those that are kept
module _ (kept : KeptParts) (flags : ℕ) where
  pub none_dropped : ((kept.verification || not (has_verification flags)) && (kept.aux_ext || not (has_aux_ext flags))) ≡ true
      → (part : OptionalPart) → IsTrue (announces flags part) → IsTrue (keeps kept part)
  none_dropped holds =
      for_parts (λ part. IsTrue (announces flags part) → IsTrue (keeps kept part))
      (λ has. verification kept.verification kept.aux_ext (has_verification flags) (has_aux_ext flags) holds has)
      (λ has. metadata kept.verification kept.aux_ext)
      (λ has. aux kept.verification kept.aux_ext (has_verification flags) (has_aux_ext flags) holds has)
    where
      verification : (v a hv ha : Bool) → ((v || not hv) && (a || not ha)) ≡ true → hv ≡ true → ((v || false) && (a || true)) ≡ true
      verification true true hv ha holds has = refl
      verification true false hv ha holds has = refl
      verification false a true ha holds has = absurd (true≢false (sym holds))
      verification false a false ha holds has = absurd (true≢false (sym has))

      metadata : (v a : Bool) → ((v || true) && (a || true)) ≡ true
      metadata true true = refl
      metadata true false = refl
      metadata false true = refl
      metadata false false = refl

      aux : (v a hv ha : Bool) → ((v || not hv) && (a || not ha)) ≡ true → ha ≡ true → ((v || true) && (a || false)) ≡ true
      aux true true hv ha holds has = refl
      aux false true hv ha holds has = refl
      aux true false hv true holds has = absurd (true≢false (sym holds))
      aux false false true true holds has = absurd (true≢false (sym holds))
      aux false false false true holds has = absurd (true≢false (sym holds))
      aux v false hv false holds has = absurd (true≢false (sym has))

-- the rows of a part that are kept
module _ (kept : KeptParts) (r : MDBFileInfo) (whole : FitsItsHeader r) (part : OptionalPart) where
  pub rows_stay : keeps kept part ≡ true → flat_map hash_row (rows_of part (as_kept kept r)) ≡ flat_map hash_row (rows_of part r)
  rows_stay is = ap (flat_map hash_row) (rows_of-kept kept r whole part ∙ ap (λ b. if b then rows_of part r else []) is)

  pub no_rows_stay : keeps kept part ≡ false → flat_map hash_row (rows_of part (as_kept kept r)) ≡ []
  no_rows_stay is = ap (flat_map hash_row) (rows_of-kept kept r whole part ∙ ap (λ b. if b then rows_of part r else []) is)

-- the row of a file at which a part starts, of which the parts before are counted
abbrev pub start_of : FileDataSequenceHeader → ℕ → ℕ
start_of h i = 1 + h.num_entries + sum_by (λ part. part_rows part h) (take i parts)

before_is : (h : FileDataSequenceHeader) (i : ℕ) → i < length parts → sum_by (λ part. part_rows part h) (take i parts) ≡ rows_before (get_or parts i Verification) h
before_is h zero within = refl
before_is h (suc zero) within = refl
before_is h (suc (suc zero)) within = refl
before_is h (suc (suc (suc i))) within = absurd (omega (arith, within))

-- the rows of a part in the bytes of a file
module _ (r : MDBFileInfo) (bytes : List ℕ) (shown : Shows file_records IsWholeFile r.metadata bytes r) (i : ℕ) (within : i < length parts) (at count : ℕ)
    (at_is : at ≡ start_of r.metadata i) (count_is : count ≡ part_rows (get_or parts i Verification) r.metadata) where
  abbrev the_part : OptionalPart
  the_part = get_or parts i Verification

  starts_there : at ≡ 1 + length r.segments + rows_before the_part r.metadata
  starts_there = omega (arith, at_is, before_is r.metadata i within, shown.whole.parts.segments)

  counted : count ≡ length (rows_of the_part r)
  counted = count_is ∙ sym (part_count r.metadata bytes r shown the_part)

  pub part_is_within : 48 * at + 48 * count ≤ length bytes
  part_is_within = omega (arith, starts_there, counted, rows_within hash_row FitsHashRow hash_laws bytes _ _ (has_part_rows r.metadata bytes r shown the_part))

  pub part_bytes : take (48 * count) (drop (48 * at) bytes) ≡ flat_map hash_row (rows_of the_part r)
  part_bytes = bytes_of_rows hash_row FitsHashRow hash_laws bytes _ _ at count (has_part_rows r.metadata bytes r shown the_part) starts_there counted

-- a file with some of its parts may be stored, and has no more rows
module _ (kept : KeptParts) (r : MDBFileInfo) (stored : IsStored r) where
  hash_kept : (as_kept kept r).metadata.file_hash ≡ r.metadata.file_hash
  hash_kept = either kept.aux_ext (has_verification r.metadata.file_flags && not kept.verification)
    where
      either : (aux leaves_out : Bool) → (with_aux_if aux (if leaves_out then without_verification r else r)).metadata.file_hash ≡ r.metadata.file_hash
      either true true = refl
      either true false = refl
      either false true = refl
      either false false = refl

  pub kept_stored : IsStored (as_kept kept r)
  kept_stored = record {
    is_file = λ ones. stored.is_file (sym hash_kept ∙ ones);
    whole = kept-whole kept r stored.whole;
    widths = fit_as_kept kept (r ∷ []) (All-cons IsStored r [] stored (All-nil IsStored)) 0 (as_kept kept r) (omega arith);
  }

  pub kept_few : rows_after r.metadata ≤ 4294967295 → rows_after (as_kept kept r).metadata ≤ 4294967295
  kept_few few = omega (arith, few, rows-kept kept r, rows_whole (as_kept kept r) (kept-whole kept r stored.whole), rows_whole r stored.whole)
