-- Minimal shards that are read from the bytes that were written of them.
use Rattle.std.proofs.Common.{◌≡◌, ◌≢◌, ℕ, ◌+◌, Bool, true, false, List, [], ◌∷◌, ◌++◌, map, flat_map, Option, None, Some, refl, sym, ap, ◌∙◌, subst, arith}
use Rattle.xet_shards.proofs.Ends.Loading.{header_of, one_version}
use Rattle.xet_records.specs.Version.{version_of}
use Rattle.std.specs.Prelude.{All, ◌&&◌, not, if◌then◌else◌}
use Rattle.std.specs.Io.KnownBytes.{Consumes}
use Rattle.std.specs.List.{enumerate_from}
use Rattle.std.proofs.lemmas.List.{append_assoc}
use Rattle.std.proofs.lemmas.List.Elements.{All-nil, All-cons, All-drop, All-map, All-weaker}
use Rattle.xet_base.specs.declared.merklehash.DataHash.{DataHash}
use Rattle.xet_base.specs.Hash.{all_ones}
use Rattle.xet_base.specs.Source.{Source, ReadsBytes, bytes_left}
use Rattle.xet_base.proofs.Reading.{ReadsBytes-consumes}
use Rattle.xet_base.proofs.Lists.{same_parts}
use Rattle.xet_records.specs.declared.file_structs.MDBFileInfo.{MDBFileInfo}
use Rattle.xet_records.specs.declared.xorb_structs.MDBXorbInfo.{MDBXorbInfo}
use Rattle.xet_records.specs.declared.xorb_structs.XorbChunkSequenceEntry.{XorbChunkSequenceEntry}
use Rattle.xet_records.specs.RecordKind.{RecordKind, KindLaws}
use Rattle.xet_records.specs.FileRecord.{file_records, has_verification, FitsItsHeader, IsStored, file_records_in}
use Rattle.xet_records.specs.declared.file_structs.part.OptionalPart.TheVariants.{Verification}
use Rattle.xet_records.specs.Part.{announces, all_but}
use Rattle.xet_records.specs.XorbRow.{FitsChunk}
use Rattle.xet_records.specs.XorbRecord.{xorb_records, IsStoredXorb}
use Rattle.xet_records.specs.declared.file_structs.view.KeptParts.{KeptParts}
use Rattle.xet_records.specs.View.{with_verification_if, without_verification, with_aux_if, as_kept}
use Rattle.xet_records.proofs.KeptParts.{with_parts_if-whole, without_aux-stored}
use Rattle.xet_records.proofs.Merging.{announces-flags_of}
use Rattle.xet_records.proofs.RecordKinds.{xorb_laws, version_known}
use Rattle.xet_shards.specs.declared.streaming_shard.file_start.FileStart.{FileStart}
use Rattle.xet_shards.specs.Write.WithOptions.{FitsSection}
use Rattle.xet_shards.specs.declared.shard_format.ends.options.LayoutOptions.{LayoutOptions}
use Rattle.xet_shards.specs.Write.Layout.{if_included, layout_of, header_value, shard_header_bytes}
use Rattle.xet_shards.specs.StreamingShard.MinimalReading.{ReadsViews, ReadsWantedXorbs, ReadsMinimal, ReadsEligible}
use Rattle.xet_shards.specs.StreamingShard.MinimalShard.{MinimalShard, FitsSections, IsKept, is_start, chunk_of, marked_if, mark_starts, eligible_in, eligible_hashes, ascending_hashes, minimal_options, WritesMinimalKept, WritesKept}
use Rattle.xet_shards.specs.Write.Section.{section_bytes}
use Rattle.xet_shards.specs.Read.SectionReading.{IsSection}
use Rattle.xet_shards.proofs.Write.Layouts.{length-shard_header_bytes}
use Rattle.xet_shards.proofs.StreamingShard.MinimalLaws.{subset_again, written_again}
use Rattle.xet_shards.proofs.StreamingShard.MinimalReading.{reads_fit, none_fit, kept_fit}
use Rattle.xet_shards.proofs.StreamingShard.MinimalWriting.{marked_whole, with_verification_if-fits, rows_as_kept, rows_kept}
use Rattle.xet_shards.proofs.Read.Readback.{after_section, after_xorbs, layout_from_48}
use Rattle.xet_shards.proofs.Write.Sections.{section_there, files_laws, fits_ever, section_bytes_in}
use Rattle.xet_shards.proofs.Read.SectionUnique.{only_list}

-- of known bytes that were consumed, the rest is known
known_rest : (x : List ℕ) (b : Option (List ℕ)) (bs : List ℕ) → Consumes (Some x) b bs → (y : List ℕ) × (b ≡ Some y) × (x ≡ bs ++ y)
known_rest x None bs never = absurd never
known_rest x (Some y) bs is = (y, refl, is)

-- from the bytes of a section, its records are read, and no byte more
module _ {H R : Type 0} (K : RecordKind H R) (laws : KindLaws K) where
  section_read : (x : List ℕ) (new : Option (List ℕ)) (found records : List R) (rest : List ℕ) → FitsSection K records → x ≡ section_bytes K records ++ rest
      → ReadsViews K (λ r. r) Consumes (Some x) new found → (found ≡ records) × (new ≡ Some rest)
  unfolding section_bytes
  section_read x new found records rest fits are read =
      let first = known_rest x read.mid (flat_map K.record_bytes found) read.records.taken in
      let y = first.0 in
      let last = known_rest y new (K.header_bytes read.bookend.header) (subst (λ b. Consumes b new (K.header_bytes read.bookend.header)) first.1 read.bookend.taken) in
      let z = last.0 in
      let are_then : x ≡ flat_map K.record_bytes records ++ (K.header_bytes K.bookend ++ rest) = are ∙ append_assoc (flat_map K.record_bytes records) (K.header_bytes K.bookend) rest in
      let here : IsSection K x found = record {
        rest = y;
        records = record { are_stored = read.records.are_stored; rows = omega (arith, read.records.rows); bytes_are = first.2 };
        bookend = record { header = read.bookend.header; rest = z; widths = read.bookend.widths; is_bookend = read.bookend.is_bookend; bytes_are = last.2 };
      } in
      let same : found ≡ records = only_list K laws x found records here (section_there K laws records fits x rest are_then) in
      let after : y ≡ K.header_bytes K.bookend ++ rest =
      (same_parts (flat_map K.record_bytes records) (flat_map K.record_bytes records) y (K.header_bytes K.bookend ++ rest) refl
      (ap (λ rs. flat_map K.record_bytes rs ++ y) (sym same) ∙ sym first.2 ∙ are_then)).1 in
      let end : z ≡ rest = (laws.header_front read.bookend.header K.bookend z rest read.bookend.widths laws.bookend_fits (sym last.2 ∙ after)).1 in
      (same, last.1 ∙ ap (λ bs. Some bs) end)

-- from a layout, its files, where they are wanted, and its xorbs are read
layout_read : (files : List MDBFileInfo) (xorbs : List MDBXorbInfo) (options : LayoutOptions) (y : List ℕ) (new : Option (List ℕ)) (with_files : Bool) (n : MinimalShard)
    → FitsSection (file_records_in options.version) files → FitsSection xorb_records xorbs → y ≡ layout_of files xorbs options → ReadsMinimal Consumes with_files true (Some y) new n
    → (n.files ≡ if_included with_files files) × (n.xorbs ≡ xorbs)
layout_read files xorbs options y new with_files n files_fit xorbs_fit are (mid, header, sections) =
    let first = known_rest y mid (shard_header_bytes header.header) header.taken in
    let z = first.0 in
    let after : z ≡ section_bytes file_records files ++ after_section files xorbs options =
    (same_parts (shard_header_bytes header.header) (shard_header_bytes (header_value options.version)) z (section_bytes file_records files ++ after_section files xorbs options)
    (length-shard_header_bytes header.header ∙ sym (length-shard_header_bytes (header_value options.version))) (sym first.2 ∙ are ∙ layout_from_48 files xorbs options)).1 in
    let same : version_of header.header.version ≡ options.version =
    one_version y (header_of y z header.header first.2 header.version) (header_of y _ (header_value options.version) (are ∙ layout_from_48 files xorbs options) (options.version, refl))
    ∙ version_known options.version in
    let file_part = section_read (file_records_in options.version) (files_laws options.version) z sections.mid sections.files files (after_section files xorbs options) files_fit (after ∙ ap (λ bs. bs ++ after_section files xorbs options) (sym (section_bytes_in file_records options.version files)))
    (subst (λ p. p) (λ i. ReadsViews (file_records_in (same i)) (λ r. r) Consumes (first.1 i) sections.mid sections.files) sections.file_section) in
    let xorb_part = section_read xorb_records xorb_laws (after_section files xorbs options) new n.xorbs xorbs (after_xorbs files xorbs options) xorbs_fit refl
    (subst (λ b. ReadsViews xorb_records (λ r. r) Consumes b new n.xorbs) file_part.1 sections.xorb_section) in
    (sections.kept ∙ ap (λ rs. if_included with_files rs) file_part.0, xorb_part.0)

-- what was read, from whatever reader, fits its sections
pub read_fits : (with_files with_xorbs : Bool) (old new : Option (List ℕ)) (m : MinimalShard) → ReadsMinimal Consumes with_files with_xorbs old new m → FitsSections m
read_fits with_files with_xorbs old new m (mid, header, sections) = record {
  files = subst (FitsSection file_records) (sym sections.kept) (kept_fit file_records with_files sections.files (fits_ever file_records (version_of header.header.version) sections.files
      (reads_fit (file_records_in (version_of header.header.version)) Consumes mid sections.mid sections.files sections.file_section)));
  xorbs = xorbs_too with_xorbs sections.mid m.xorbs sections.xorb_section;
}
  where
    xorbs_too : (wanted : Bool) (at : Option (List ℕ)) (xorbs : List MDBXorbInfo) → ReadsWantedXorbs Consumes wanted at new xorbs → FitsSection xorb_records xorbs
    xorbs_too true at xorbs read = reads_fit xorb_records Consumes at new xorbs read
    xorbs_too false at xorbs none = subst (FitsSection xorb_records) (sym none.1) (none_fit xorb_records)

-- without verification rows a record is stored as before
file_as_wanted : (wanted : Bool) (r : MDBFileInfo) → IsStored r → IsStored (with_verification_if wanted r)
file_as_wanted wanted r stored =
    let leaves_out = has_verification r.metadata.file_flags && not wanted in
    record { is_file = still_file leaves_out; whole = still_whole leaves_out; widths = with_verification_if-fits wanted r stored.widths }
  where
    still_file : (b : Bool) → (if b then without_verification r else r).metadata.file_hash ≢ all_ones
    still_file true = stored.is_file
    still_file false = stored.is_file

    still_whole : (b : Bool) → FitsItsHeader (if b then without_verification r else r)
    still_whole true =
        with_parts_if-whole (all_but Verification) (without_verification r).metadata r stored.whole refl
        (announces-flags_of (λ part. all_but Verification part && announces r.metadata.file_flags part))
    still_whole false = stored.whole

file_as_kept : (kept : KeptParts) (r : MDBFileInfo) → IsStored r → IsStored (as_kept kept r)
file_as_kept kept r stored = either kept.aux_ext
  where
    either : (b : Bool) → IsStored (with_aux_if b (with_verification_if kept.verification r))
    either true = file_as_wanted kept.verification r stored
    either false = without_aux-stored (with_verification_if kept.verification r) (file_as_wanted kept.verification r stored)

files_as_kept : (kept : KeptParts) (files : List MDBFileInfo) → FitsSection file_records files → FitsSection file_records (map (as_kept kept) files)
files_as_kept kept files fits = record {
  stored = All-map IsStored (as_kept kept) files (All-weaker IsStored (λ r. IsStored (as_kept kept r)) (file_as_kept kept) files fits.stored);
  rows = omega (arith, rows_as_kept kept files, fits.rows);
}

-- so is a xorb with marks
mark_fits : (b : Bool) (c : XorbChunkSequenceEntry) → FitsChunk c → FitsChunk (marked_if b c)
mark_fits true c fits = record {
  chunk_hash = fits.chunk_hash;
  chunk_byte_range_start = fits.chunk_byte_range_start;
  unpacked_segment_bytes = fits.unpacked_segment_bytes;
  flags = omega arith;
  unused = fits.unused;
}
mark_fits false c fits = fits

module _ (starts : FileStart → Bool) where
  xorb_marked : (x : MDBXorbInfo) → IsStoredXorb x → IsStoredXorb (mark_starts starts x)
  xorb_marked x stored =
      record { is_xorb = stored.is_xorb; count = marked_whole starts x stored.count; widths = record { metadata = stored.widths.metadata; chunks = each 0 x.chunks stored.widths.chunks } }
    where
      each : (n : ℕ) (cs : List XorbChunkSequenceEntry) → All FitsChunk cs
          → All FitsChunk (map (λ (e : ℕ × XorbChunkSequenceEntry). marked_if (starts (chunk_of x e.0)) e.1) (enumerate_from n cs))
      each n [] fit = All-nil FitsChunk
      each n (c ∷ cs) fit =
          All-cons FitsChunk (marked_if (starts (chunk_of x n)) c) (map (λ (e : ℕ × XorbChunkSequenceEntry). marked_if (starts (chunk_of x e.0)) e.1) (enumerate_from (n + 1) cs))
          (mark_fits (starts (chunk_of x n)) c (fit 0 c (omega arith))) (each (n + 1) cs (All-drop FitsChunk 1 (c ∷ cs) fit))

  module _ (answers : MDBXorbInfo → Bool → Type 0) where
    all_marked : (xs kept : List MDBXorbInfo) → IsKept answers xs kept → All IsStoredXorb xs → All IsStoredXorb (map (mark_starts starts) kept)
    all_marked [] kept is stored = subst (λ ks. All IsStoredXorb (map (mark_starts starts) ks)) (sym is) (All-nil IsStoredXorb)
    all_marked (x ∷ xs) kept (true, answer, rest, before, is) stored =
        subst (λ ks. All IsStoredXorb (map (mark_starts starts) ks)) (sym is)
        (All-cons IsStoredXorb (mark_starts starts x) (map (mark_starts starts) rest) (xorb_marked x (stored 0 x (omega arith)))
        (all_marked xs rest before (All-drop IsStoredXorb 1 (x ∷ xs) stored)))
    all_marked (x ∷ xs) kept (false, answer, rest, before, is) stored =
        subst (λ ks. All IsStoredXorb (map (mark_starts starts) ks)) (sym is) (all_marked xs rest before (All-drop IsStoredXorb 1 (x ∷ xs) stored))

    xorbs_marked : (xs kept : List MDBXorbInfo) → IsKept answers xs kept → FitsSection xorb_records xs → FitsSection xorb_records (map (mark_starts starts) kept)
    xorbs_marked xs kept is fits = record { stored = all_marked xs kept is fits.stored; rows = omega (arith, rows_kept answers starts xs kept is, fits.rows) }

none_in : (is_in : Bool) (none : List MDBFileInfo) → none ≡ if_included is_in [] → none ≡ []
none_in true none is = is
none_in false none is = is

-- a subset that is read again
pub subset_read : (answers : MDBXorbInfo → Bool → Type 0) (with_files : Bool) (m n : MinimalShard) (options : LayoutOptions) (y : List ℕ) (new : Option (List ℕ)) (k : ℕ) → FitsSections m
    → (kept : WritesKept answers (Some []) (Some y) [] m options k) → ReadsMinimal Consumes with_files true (Some y) new n
    → (n.files ≡ []) × (n.xorbs ≡ map (mark_starts (is_start m.files)) kept.kept) × (eligible_hashes n.files n.xorbs ≡ ascending_hashes (flat_map (eligible_in (is_start m.files)) kept.kept))
subset_read answers with_files m n options y new k fits kept read =
    let marked = map (mark_starts (is_start m.files)) kept.kept in
    let back = layout_read [] marked options y new with_files n (none_fit (file_records_in options.version)) (xorbs_marked (is_start m.files) answers m.xorbs kept.kept kept.is_kept fits.xorbs) kept.written.appended read in
    let no_files : n.files ≡ [] = none_in with_files n.files back.0 in
    (no_files, back.1, (λ i. eligible_hashes (no_files i) (back.1 i)) ∙ subset_again m.files kept.kept)

-- what is said of an input, of what its states have left
module _ {I J : Type 0} (view : I → J) (one : I → I → List ℕ → Type 0) (other : J → J → List ℕ → Type 0) (also : (a b : I) (xs : List ℕ) → one a b xs → other (view a) (view b) xs) where
  views_left : {H R : Type 0} (K : RecordKind H R) (old new : I) (records : List R) → ReadsViews K (λ r. r) one old new records → ReadsViews K (λ r. r) other (view old) (view new) records
  views_left K old new records read = record {
    mid = view read.mid;
    left = read.left;
    records = record { are_stored = read.records.are_stored; taken = also old read.mid _ read.records.taken; rows = read.records.rows };
    bookend = record { header = read.bookend.header; widths = read.bookend.widths; is_bookend = read.bookend.is_bookend; taken = also read.mid new _ read.bookend.taken };
  }

  sections_left : (with_files : Bool) (old new : I) (m : MinimalShard) → ReadsMinimal one with_files true old new m → ReadsMinimal other with_files true (view old) (view new) m
  sections_left with_files old new m (mid, header, sections) = (
    view mid,
    record { header = header.header; tag = header.tag; version = header.version; taken = also old mid _ header.taken },
    record {
      files = sections.files;
      mid = view sections.mid;
      file_section = views_left (file_records_in (version_of header.header.version)) mid sections.mid sections.files sections.file_section;
      kept = sections.kept;
      xorb_section = views_left xorb_records sections.mid new m.xorbs sections.xorb_section;
    },
  )

-- a subset that is read again from a source
pub subset_eligible : (answers : MDBXorbInfo → Bool → Type 0) (m : MinimalShard) (options : LayoutOptions) (y : List ℕ) (old new : Source) (hashes : List DataHash) (k : ℕ) → FitsSections m
    → (kept : WritesKept answers (Some []) (Some y) [] m options k) → bytes_left old ≡ y → ReadsEligible ReadsBytes old new hashes
    → hashes ≡ ascending_hashes (flat_map (eligible_in (is_start m.files)) kept.kept)
subset_eligible answers m options y old new hashes k fits kept are (n, read, hashes_are) =
    let taken : ReadsMinimal Consumes true true (Some (bytes_left old)) (Some (bytes_left new)) n = sections_left (λ s. Some (bytes_left s)) ReadsBytes Consumes ReadsBytes-consumes true old new n read in
    hashes_are ∙ (subset_read answers true m n options y (Some (bytes_left new)) k fits kept (subst (λ bs. ReadsMinimal Consumes true true (Some bs) (Some (bytes_left new)) n) are taken)).2

-- each xorb is accepted
each_kept : (xs : List MDBXorbInfo) → IsKept (λ x b. Unit {0}) xs xs
each_kept [] = refl
each_kept (x ∷ xs) = (true, tt, xs, each_kept xs, refl)

-- a shard that is read again, and written again
pub shard_read : (kept : KeptParts) (now : ℕ) (m n : MinimalShard) (y : List ℕ) (new : Option (List ℕ)) (k : ℕ) → FitsSections m
    → WritesMinimalKept (Some []) (Some y) kept now m k → ReadsMinimal Consumes true true (Some y) new n
    → (n.files ≡ map (as_kept kept) m.files) × (n.xorbs ≡ map (mark_starts (is_start m.files)) m.xorbs)
shard_read kept now m n y new k fits written read =
    layout_read (map (as_kept kept) m.files) (map (mark_starts (is_start m.files)) m.xorbs) (minimal_options now None) y new true n (files_as_kept kept m.files fits.files)
    (xorbs_marked (is_start m.files) (λ x b. Unit {0}) m.xorbs m.xorbs (each_kept m.xorbs) fits.xorbs) written.appended read

pub shard_again : (kept : KeptParts) (now : ℕ) (m n : MinimalShard) (y z : List ℕ) (new : Option (List ℕ)) (k l : ℕ) → FitsSections m
    → WritesMinimalKept (Some []) (Some y) kept now m k → ReadsMinimal Consumes true true (Some y) new n → WritesMinimalKept (Some []) (Some z) kept now n l → z ≡ y
shard_again kept now m n y z new k l fits written read again =
    let back = shard_read kept now m n y new k fits written read in
    let same = written_again kept m.files m.xorbs in
    again.appended
    ∙ (λ i. layout_of (map (as_kept kept) (back.0 i)) (map (mark_starts (is_start (back.0 i))) (back.1 i)) (minimal_options now None))
    ∙ (λ i. layout_of (same.0 i) (same.1 i) (minimal_options now None))
    ∙ sym written.appended
