-- The parts of a record that are written, in the bytes of a view.
use Rattle.std.proofs.Common.{◌≡◌, ℕ, ◌+◌, ◌≤◌, ◌-◌, List, [], ◌∷◌, ◌++◌, length, flat_map, Bool, true, false, refl, sym, ap, ◌∙◌, arith, subst, ◌≢◌, true≢false, if◌then◌else◌}
use Rattle.std.specs.Prelude.{not, ◌&&◌, ◌||◌, ◌==◌, IsTrue, All}
use Rattle.std.specs.Int.{bit_at}
use Rattle.std.proofs.lemmas.List.{append_assoc}
use Rattle.std.proofs.lemmas.List.Elements.{All-nil}
use Rattle.xet_records.specs.declared.file_structs.header.FileDataSequenceHeader.{FileDataSequenceHeader}
use Rattle.xet_records.specs.declared.file_structs.part.OptionalPart.{OptionalPart}
use Rattle.xet_records.specs.declared.file_structs.part.OptionalPart.TheVariants.{Verification, MetadataExt, AuxExt}
use Rattle.xet_records.specs.declared.file_structs.rows.HashRow.{HashRow}
use Rattle.xet_records.specs.declared.file_structs.MDBFileInfo.{MDBFileInfo}
use Rattle.xet_records.specs.FileRow.{header_row, segment_row, hash_row, FitsHashRow}
use Rattle.xet_records.specs.Part.{parts, with_parts, announces, flags_of, size_of_part, rows_of, optional_rows, all_but, with_flag}
use Rattle.xet_records.specs.FileRecord.{has_verification, has_aux_ext, file_record_bytes, file_rows_bytes, row_count, FitsItsHeader, FitsRecord, IsStored, IsWellFormed}
use Rattle.xet_records.specs.View.{KeptParts, with_parts_if, without_verification, without_aux, with_verification_if, with_aux_if, as_kept}
use Rattle.xet_records.specs.Steps.ViewSteps.{keeps}
use Rattle.xet_records.proofs.Merging.{bit_if, bit_if_announced, part_absent, announces-flags_of}
use Rattle.xet_records.proofs.Parts.{for_parts, rows_bytes, length-cond-le, fewer_rows, rows_of-with_parts_if, same_record, All-part, All-parts}

-- the segments and the rows of each part
pub segments_kept : (kept : KeptParts) (r : MDBFileInfo) → (as_kept kept r).segments ≡ r.segments
segments_kept kept r = either kept.aux_ext (has_verification r.metadata.file_flags && not kept.verification)
  where
    either : (aux leaves_out : Bool) → (with_aux_if aux (if leaves_out then without_verification r else r)).segments ≡ r.segments
    either true true = refl
    either true false = refl
    either false true = refl
    either false false = refl

rows_of-wanted : (wanted : Bool) (r : MDBFileInfo) → FitsItsHeader r → (part : OptionalPart)
    → rows_of part (with_verification_if wanted r) ≡ (if wanted || all_but Verification part then rows_of part r else [])
rows_of-wanted wanted r whole part = by_cases wanted (has_verification r.metadata.file_flags) refl
  where
    by_cases : (wanted has : Bool) → has_verification r.metadata.file_flags ≡ has
        → rows_of part (if has && not wanted then without_verification r else r) ≡ (if wanted || all_but Verification part then rows_of part r else [])
    by_cases true true is = refl
    by_cases true false is = refl
    by_cases false true is = rows_of-with_parts_if (all_but Verification) _ r part
    by_cases false false is = for_parts (λ p. rows_of p r ≡ (if all_but Verification p then rows_of p r else [])) (part_absent r whole Verification is) refl refl part

rows_of-aux : (wanted : Bool) (r : MDBFileInfo) (part : OptionalPart) → rows_of part (with_aux_if wanted r) ≡ (if wanted || all_but AuxExt part then rows_of part r else [])
rows_of-aux true r part = refl
rows_of-aux false r part = rows_of-with_parts_if (all_but AuxExt) _ r part

pub rows_of-kept : (kept : KeptParts) (r : MDBFileInfo) → FitsItsHeader r → (part : OptionalPart) → rows_of part (as_kept kept r) ≡ (if keeps kept part then rows_of part r else [])
rows_of-kept kept r whole part =
    rows_of-aux kept.aux_ext (with_verification_if kept.verification r) part
    ∙ ap (λ (xs : List HashRow). if kept.aux_ext || all_but AuxExt part then xs else []) (rows_of-wanted kept.verification r whole part)
    ∙ both (kept.verification || all_but Verification part) (kept.aux_ext || all_but AuxExt part) (rows_of part r)
  where
    both : (v a : Bool) (xs : List HashRow) → (if a then (if v then xs else []) else []) ≡ (if v && a then xs else [])
    both true true xs = refl
    both true false xs = refl
    both false true xs = refl
    both false false xs = refl

-- a part of which rows are kept is kept as it is
pub part-kept : (kept : KeptParts) (r : MDBFileInfo) → FitsItsHeader r → (part : OptionalPart) (n : ℕ) → n ≡ length (rows_of part (as_kept kept r)) → n ≢ 0
    → rows_of part (as_kept kept r) ≡ rows_of part r
part-kept kept r whole part n counted some = rows_of-kept kept r whole part ∙ either (keeps kept part) (counted ∙ ap length (rows_of-kept kept r whole part))
  where
    either : (b : Bool) → n ≡ length (if b then rows_of part r else []) → (if b then rows_of part r else []) ≡ rows_of part r
    either true counts = refl
    either false counts = absurd (some counts)

pub fewer-kept : (kept : KeptParts) (r : MDBFileInfo) (part : OptionalPart) → length (rows_of part (as_kept kept r)) ≤ length (rows_of part r)
fewer-kept kept r part = either kept.aux_ext (has_verification r.metadata.file_flags && not kept.verification)
  where
    fewer_without : (stays : OptionalPart → Bool) (h : FileDataSequenceHeader) (s : MDBFileInfo) → length (rows_of part (with_parts_if stays h s)) ≤ length (rows_of part s)
    fewer_without stays h s = omega (arith, ap length (rows_of-with_parts_if stays h s part), length-cond-le (stays part) (rows_of part s))

    first : (leaves_out : Bool) → length (rows_of part (if leaves_out then without_verification r else r)) ≤ length (rows_of part r)
    first true = fewer_without (all_but Verification) _ r
    first false = omega arith

    either : (aux leaves_out : Bool) → length (rows_of part (with_aux_if aux (if leaves_out then without_verification r else r))) ≤ length (rows_of part r)
    either true leaves_out = first leaves_out
    either false leaves_out =
        let s = if leaves_out then without_verification r else r in
        omega (arith, fewer_without (all_but AuxExt) (without_aux s).metadata s, first leaves_out)

-- their bytes
pub parts_joined : (s : MDBFileInfo) (header_bytes segment_bytes : List ℕ) → header_bytes ≡ header_row s.metadata → segment_bytes ≡ flat_map segment_row s.segments
    → (header_bytes ++ segment_bytes) ++ flat_map (λ part. flat_map hash_row (rows_of part s)) parts ≡ file_record_bytes s
unfolding file_record_bytes file_rows_bytes
parts_joined s header_bytes segment_bytes header_is segments_are =
    (λ i. (header_is i ++ segments_are i) ++ sym (rows_bytes hash_row (λ part. rows_of part s) parts) i)
    ∙ append_assoc (header_row s.metadata) (flat_map segment_row s.segments) (flat_map hash_row (optional_rows s))

-- a record of which all parts are kept is as it is
no_aux : (r : MDBFileInfo) → FitsItsHeader r → has_aux_ext r.metadata.file_flags ≡ false → without_aux r ≡ r
no_aux r whole none =
    let flags = ap (λ (b : Bool). r.metadata.file_flags - (if b then 536870912 else 0) + 0) none ∙ omega arith in
    same_record (without_aux r) r (λ i. record r.metadata { file_flags = flags i }) refl
    (λ part. rows_of-with_parts_if (all_but AuxExt) _ r part
    ∙ for_parts (λ p. (if all_but AuxExt p then rows_of p r else []) ≡ rows_of p r) refl refl (sym (part_absent r whole AuxExt none)) part)

pub all_kept : (kept : KeptParts) (r : MDBFileInfo) → FitsItsHeader r → ((part : OptionalPart) → IsTrue (announces r.metadata.file_flags part) → IsTrue (keeps kept part)) → as_kept kept r ≡ r
all_kept kept r whole keeps_all =
    ap (λ b. with_aux_if kept.aux_ext (if b then without_verification r else r)) (none_out (has_verification r.metadata.file_flags) kept.verification kept.aux_ext (keeps_all Verification))
    ∙ aux_in kept.aux_ext kept.verification (has_aux_ext r.metadata.file_flags) refl (keeps_all AuxExt)
  where
    none_out : (has wanted aux : Bool) → (IsTrue has → IsTrue ((wanted || false) && (aux || true))) → (has && not wanted) ≡ false
    none_out false wanted aux stays = refl
    none_out true true aux stays = refl
    none_out true false aux stays = sym (stays refl)

    aux_in : (wanted verification has : Bool) → has_aux_ext r.metadata.file_flags ≡ has → (IsTrue (has_aux_ext r.metadata.file_flags) → IsTrue ((verification || true) && (wanted || false)))
        → with_aux_if wanted r ≡ r
    aux_in true verification has is stays = refl
    aux_in false verification false is stays = no_aux r whole is
    aux_in false true true is stays = absurd (true≢false (sym (stays is)))
    aux_in false false true is stays = absurd (true≢false (sym (stays is)))

-- a record that keeps some of its parts has no more rows, and fits a header that announces what is kept
module _ (stays : OptionalPart → Bool) (h : FileDataSequenceHeader) (r : MDBFileInfo) where
  with_parts_if-rows : length (optional_rows (with_parts_if stays h r)) ≤ length (optional_rows r)
  with_parts_if-rows =
      fewer_rows (λ p. rows_of p (with_parts_if stays h r)) (λ p. rows_of p r)
      (λ p. omega (arith, ap length (rows_of-with_parts_if stays h r p), length-cond-le (stays p) (rows_of p r))) parts

  -- they are kept once
  pub with_parts_if-again : (k : FileDataSequenceHeader) → k ≡ h → with_parts_if stays k (with_parts_if stays h r) ≡ with_parts_if stays h r
  with_parts_if-again k header =
      λ i. with_parts (header i) r.segments (λ p. (ap (λ (xs : List HashRow). if stays p then xs else []) (rows_of-with_parts_if stays h r p) ∙ once (stays p) (rows_of p r)) i)
    where
      once : (b : Bool) (xs : List HashRow) → (if b then (if b then xs else []) else []) ≡ (if b then xs else [])
      once true xs = refl
      once false xs = refl

  pub with_parts_if-all : (P : HashRow → Type 0) → All P (optional_rows r) → All P (optional_rows (with_parts_if stays h r))
  with_parts_if-all P all = All-parts P (λ p. rows_of p (with_parts_if stays h r)) (λ p. subst (All P) (sym (rows_of-with_parts_if stays h r p)) (some (rows_of p r) (stays p) (All-part P (λ q. rows_of q r) all p)))
    where
      some : (xs : List HashRow) (b : Bool) → All P xs → All P (if b then xs else [])
      some xs true each = each
      some xs false each = All-nil P

  pub with_parts_if-whole : FitsItsHeader r → h.num_entries ≡ r.metadata.num_entries
      → ((part : OptionalPart) → announces h.file_flags part ≡ (stays part && announces r.metadata.file_flags part)) → FitsItsHeader (with_parts_if stays h r)
  with_parts_if-whole whole same_count flags = record {
    segments = whole.segments ∙ sym same_count;
    parts = λ p. ap length (rows_of-with_parts_if stays h r p) ∙ length_of_cond (stays p) (announces r.metadata.file_flags p) _ (rows_of p r) (whole.parts p)
        ∙ (λ i. if sym (flags p) i then size_of_part p (sym same_count i) else 0);
  } where
    length_of_cond : (s b : Bool) (n : ℕ) (xs : List HashRow) → length xs ≡ (if b then n else 0) → length (if s then xs else []) ≡ (if s && b then n else 0)
    length_of_cond true b n xs len = len
    length_of_cond false b n xs len = refl

pub rows-kept : (kept : KeptParts) (r : MDBFileInfo) → row_count (as_kept kept r) ≤ row_count r
rows-kept kept r = omega (
  arith,
  ap length (segments_kept kept r),
  fewer_rows (λ p. rows_of p (as_kept kept r)) (λ p. rows_of p r)
      (fewer-kept kept r) parts,
)

-- flags with the bit of an auxiliary row cleared
pub announces-without_aux : (flags : ℕ) (part : OptionalPart) → announces (with_flag AuxExt false flags) part ≡ (all_but AuxExt part && announces flags part)
announces-without_aux flags = either (announces flags AuxExt) refl
  where
    either : (b : Bool) → announces flags AuxExt ≡ b → (part : OptionalPart)
        → announces (flags - (if b then 536870912 else 0) + 0) part ≡ (all_but AuxExt part && announces flags part)
    either true set =
        let bit : bit_at flags 29 ≡ 1 = bit_if_announced flags AuxExt ∙ ap bit_if set in
        let high : bit_at (flags - 536870912 + 0) 31 ≡ bit_at flags 31 = omega (arith, bit) in
        let middle : bit_at (flags - 536870912 + 0) 30 ≡ bit_at flags 30 = omega (arith, bit) in
        let low : bit_at (flags - 536870912 + 0) 29 ≡ 0 = omega (arith, bit) in
        for_parts (λ p. announces (flags - 536870912 + 0) p ≡ (all_but AuxExt p && announces flags p)) (ap (λ n. n == 1) high) (ap (λ n. n == 1) middle) (ap (λ n. n == 1) low)
    either false unset =
        let same : flags - 0 + 0 ≡ flags = omega arith in
        for_parts (λ p. announces (flags - 0 + 0) p ≡ (all_but AuxExt p && announces flags p))
        (ap (λ n. announces n Verification) same) (ap (λ n. announces n MetadataExt) same) (ap (λ n. announces n AuxExt) same ∙ unset)

pub cleared-known : (flags : ℕ) → flags ≡ flags_of (announces flags) → with_flag AuxExt false flags ≡ flags_of (λ part. all_but AuxExt part && announces flags part)
cleared-known flags known = omega (arith, known)

-- a record without its auxiliary row is as good as the record
module _ (r : MDBFileInfo) where
  without_aux-whole : FitsItsHeader r → FitsItsHeader (without_aux r)
  without_aux-whole whole = with_parts_if-whole (all_but AuxExt) (without_aux r).metadata r whole refl (announces-without_aux r.metadata.file_flags)

  pub without_aux-fits : FitsRecord r → FitsRecord (without_aux r)
  without_aux-fits fits = record {
    metadata = record {
      file_hash = fits.metadata.file_hash;
      file_flags = omega (arith, fits.metadata.file_flags);
      num_entries = fits.metadata.num_entries;
      unused = fits.metadata.unused;
    };
    segments = fits.segments;
    parts = with_parts_if-all (all_but AuxExt) (without_aux r).metadata r FitsHashRow fits.parts;
  }

  pub without_aux-stored : IsStored r → IsStored (without_aux r)
  without_aux-stored stored = record { is_file = stored.is_file; whole = without_aux-whole stored.whole; widths = without_aux-fits stored.widths }

  pub without_aux-rows : row_count (without_aux r) ≤ row_count r
  without_aux-rows = omega (arith, with_parts_if-rows (all_but AuxExt) (without_aux r).metadata r)

  pub without_aux-formed : IsWellFormed r → IsWellFormed (without_aux r)
  without_aux-formed formed = record {
    is_file = formed.is_file;
    known_flags = cleared-known r.metadata.file_flags formed.known_flags ∙ (λ i. flags_of (λ part. sym (announces-without_aux r.metadata.file_flags part) i));
    reserved = formed.reserved;
    whole = without_aux-whole formed.whole;
    clear = with_parts_if-all (all_but AuxExt) (without_aux r).metadata r (λ row. row._unused ≡ 0 ∷ 0 ∷ []) formed.clear;
    rows = omega (arith, without_aux-rows, formed.rows);
    widths = without_aux-fits formed.widths;
  }

-- a record fits its header with the parts that are kept
pub kept-whole : (kept : KeptParts) (r : MDBFileInfo) → FitsItsHeader r → FitsItsHeader (as_kept kept r)
kept-whole kept r whole = either kept.aux_ext (has_verification r.metadata.file_flags && not kept.verification)
  where
    first : (leaves_out : Bool) → FitsItsHeader (if leaves_out then without_verification r else r)
    first true =
        with_parts_if-whole (all_but Verification) (without_verification r).metadata r whole refl
        (announces-flags_of (λ part. all_but Verification part && announces r.metadata.file_flags part))
    first false = whole

    either : (aux leaves_out : Bool) → FitsItsHeader (with_aux_if aux (if leaves_out then without_verification r else r))
    either true leaves_out = first leaves_out
    either false leaves_out = without_aux-whole (if leaves_out then without_verification r else r) (first leaves_out)
