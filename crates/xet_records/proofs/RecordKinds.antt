-- What the two kinds of records have in common, and what follows of reading them.
use Rattle.std.proofs.Common.{◌≡◌, ◌≢◌, true≢false, inl, inr, ℕ, ◌+◌, ◌*◌, ◌≤◌, Bool, true, false, if◌then◌else◌, flat_map, List, [], ◌++◌, length, Option, refl, sym, ap, ◌∙◌, subst, arith}
use Rattle.std.specs.Prelude.{◌⊎◌, map, option_to_list}
use Rattle.std.proofs.lemmas.List.{length-append, append_assoc, map-id}
use Rattle.std.proofs.lemmas.List.Elements.{All-same}
use Rattle.xet_base.specs.Hash.{all_ones}
use Rattle.xet_records.specs.declared.file_structs.header.FileDataSequenceHeader.{FileDataSequenceHeader}
use Rattle.xet_records.specs.declared.file_structs.rows.FileDataSequenceEntry.{FileDataSequenceEntry}
use Rattle.xet_records.specs.declared.file_structs.part.OptionalPart.{OptionalPart}
use Rattle.xet_records.specs.declared.file_structs.part.OptionalPart.TheVariants.{Verification, MetadataExt, AuxExt}
use Rattle.xet_records.specs.declared.file_structs.rows.HashRow.{HashRow}
use Rattle.xet_records.specs.declared.file_structs.MDBFileInfo.{MDBFileInfo}
use Rattle.xet_records.specs.declared.record_reader.FormatVersion.{FormatVersion}
use Rattle.xet_records.specs.declared.record_reader.FormatVersion.TheVariants.{V2, V3}
use Rattle.xet_records.specs.declared.xorb_structs.XorbChunkSequenceHeader.{XorbChunkSequenceHeader}
use Rattle.xet_records.specs.declared.xorb_structs.XorbChunkSequenceEntry.{XorbChunkSequenceEntry}
use Rattle.xet_records.specs.RecordKind.{RecordKind, in_version}
use Rattle.xet_records.specs.Version.{number_of, IsVersion, version_of}
pub use Rattle.xet_records.specs.RecordKind.{KindLaws}
use Rattle.xet_records.specs.FileRow.{header_row, segment_row, hash_row, FitsSegment, FitsHashRow, clear}
use Rattle.xet_records.specs.Rows.{ReadsRows, ReadsOptional}
use Rattle.xet_records.specs.XorbRow.{chunk_row, FitsChunk}
use Rattle.xet_records.specs.Part.{parts, announces, part_rows, optional_rows_after, rows_of, optional_rows, with_parts, part_of}
use Rattle.xet_records.specs.FileRecord.{rows_after, file_record_bytes, file_rows_bytes, as_read, file_records}
use Rattle.xet_records.specs.XorbRecord.{xorb_record_bytes, xorb_records}
use Rattle.xet_records.specs.Reading.{ReadsRowsAfter, ReadsRecord, BeginsWithHeader, BeginsWithBookend, BeginsRefused, EndsEarly}
use Rattle.xet_records.specs.Reading.IsRefused.{not_allowed, too_many_rows}
use Rattle.xet_records.proofs.RecordsAsRead.{row_count-returned, file_handed}
use Rattle.xet_records.proofs.Lengths.{length-header_row, length-file_record_bytes, length-xorb_header_row, length-chunk_rows}
use Rattle.xet_records.proofs.Parts.{PartHolds, these_rows, these_counted, rows_of-counted, with_parts-rows_of, part-of-parts, length-part_of, parts-of-rows, holds_announced, rows_of-with_parts, optional_rows-with_parts, same_record, rows_of-returned, part_of-map}
use Rattle.xet_records.proofs.Reading.{no_rows, length-read, rows_after_rows, optional_read}
use Rattle.xet_records.proofs.Record.{header_row-front, rows_whole}
use Rattle.xet_records.proofs.Unique.{record_front}
use Rattle.xet_records.proofs.XorbUnique.{xorb_header_row-front, xorb_front}

pub file_laws : KindLaws file_records
unfolding file_record_bytes
file_laws = record {
  header_size = length-header_row;
  header_front = header_row-front;
  bookend_fits = record { file_hash = record { word0 = omega arith; word1 = omega arith; word2 = omega arith; word3 = omega arith }; file_flags = omega arith; num_entries = omega arith; unused = omega arith };
  bookend_hash = refl;
  record_bytes_are = λ r. refl;
  size_after = λ r stored.
      omega (arith, length-append (header_row r.metadata) (file_rows_bytes r), length-header_row r.metadata, length-file_record_bytes r stored.widths, rows_whole r stored.whole);
  rows = λ r stored. rows_whole r stored.whole;
  header_fits = λ r stored. stored.widths.metadata;
  is_record = λ r stored. stored.is_file;
  allowed = λ r stored. refl;
  same_header = λ r. refl;
  same_rows = row_count-returned;
  as_read_stored = file_handed;
  front = record_front;
}

pub xorb_laws : KindLaws xorb_records
unfolding xorb_record_bytes
xorb_laws = record {
  header_size = length-xorb_header_row;
  header_front = xorb_header_row-front;
  bookend_fits = record {
    xorb_hash = record { word0 = omega arith; word1 = omega arith; word2 = omega arith; word3 = omega arith };
    xorb_flags = omega arith;
    num_entries = omega arith;
    num_bytes_in_xorb = omega arith;
    num_bytes_on_disk = omega arith;
  };
  bookend_hash = refl;
  record_bytes_are = λ r. refl;
  size_after = λ r stored. length-chunk_rows r.chunks ∙ ap (λ n. 48 * n) stored.count;
  rows = λ r stored. ap (λ n. 1 + n) stored.count;
  header_fits = λ r stored. stored.widths.metadata;
  is_record = λ r stored. stored.is_xorb;
  allowed = λ r stored. refl;
  same_header = λ r. refl;
  same_rows = λ r. refl;
  as_read_stored = λ r stored. stored;
  front = xorb_front;
}

-- a record of a version is one of the kind, and conversely unless a reader of the version refuses its header
module _ {H R : Type 0} (K : RecordKind H R) where
  pub stored_ever : (version : FormatVersion) (r : R) → (in_version K version).IsStored r → K.IsStored r
  stored_ever V2 r stored = stored.0
  stored_ever V3 r stored = stored

  pub stored_in : (version : FormatVersion) (r : R) → (in_version K version).refuses (K.header_of r) ≡ false → K.IsStored r → (in_version K version).IsStored r
  stored_in V2 r allowed stored = (stored, allowed)
  stored_in V3 r allowed stored = stored

  allowed_in : (version : FormatVersion) (r : R) → (in_version K version).IsStored r → (in_version K version).refuses (K.header_of r) ≡ false
  allowed_in V2 r stored = stored.1
  allowed_in V3 r stored = refl

  -- so what holds of a kind holds of it in each version
  pub laws_in : KindLaws K → (version : FormatVersion) → KindLaws (in_version K version)
  laws_in laws version = record {
    header_size = laws.header_size;
    header_front = laws.header_front;
    bookend_fits = laws.bookend_fits;
    bookend_hash = laws.bookend_hash;
    record_bytes_are = laws.record_bytes_are;
    size_after = λ r stored. laws.size_after r (stored_ever version r stored);
    rows = λ r stored. laws.rows r (stored_ever version r stored);
    header_fits = λ r stored. laws.header_fits r (stored_ever version r stored);
    is_record = λ r stored. laws.is_record r (stored_ever version r stored);
    allowed = allowed_in version;
    same_header = laws.same_header;
    same_rows = laws.same_rows;
    as_read_stored = λ r stored. stored_in version (K.as_read r)
        (ap (λ (h : H). (in_version K version).refuses h) (laws.same_header r) ∙ allowed_in version r stored) (laws.as_read_stored r (stored_ever version r stored));
    front = λ r s x y r_stored s_stored. laws.front r s x y (stored_ever version r r_stored) (stored_ever version s s_stored);
  }

-- the number of a version gives it back
pub version_known : (version : FormatVersion) → version_of (number_of version) ≡ version
version_known V2 = refl
version_known V3 = refl

-- and a number of a version that is read is its own
pub known_number : (n : ℕ) → IsVersion n → n ≡ number_of (version_of n)
known_number n (version, is) = is ∙ ap number_of (sym (ap version_of is ∙ version_known version))

-- what is after the records of a section that are read
abbrev pub StopsAt : {H R : Type 0} → RecordKind H R → ℕ → List ℕ → Type 0
StopsAt K left bytes = BeginsWithBookend K bytes ⊎ BeginsRefused K left bytes ⊎ EndsEarly K left bytes

module _ {H R : Type 0} (K : RecordKind H R) (laws : KindLaws K) where
  -- a record has 48 bytes a row
  pub length-record_bytes : (r : R) → K.IsStored r → length (K.record_bytes r) ≡ 48 * K.row_count r
  length-record_bytes r stored =
      ap length (laws.record_bytes_are r) ∙ length-append (K.header_bytes (K.header_of r)) (K.bytes_after r)
      ∙ omega (arith, laws.header_size (K.header_of r), laws.size_after r stored, laws.rows r stored)

  -- bytes that begin with a stored record begin with its header
  pub stored_begins : (bytes : List ℕ) (r : R) (rest : List ℕ) → K.IsStored r → bytes ≡ K.record_bytes r ++ rest → BeginsWithHeader K bytes (K.header_of r) (K.bytes_after r ++ rest)
  stored_begins bytes r rest stored are = record {
    widths = laws.header_fits r stored;
    is_record = laws.is_record r stored;
    bytes_are = are ∙ ap (λ bs. bs ++ rest) (laws.record_bytes_are r) ∙ append_assoc (K.header_bytes (K.header_of r)) (K.bytes_after r) rest;
  }

  -- two headers at the front of the same bytes are one
  pub same_front : (bytes : List ℕ) (g h : H) (rest after : List ℕ) → K.Fits g → bytes ≡ K.header_bytes g ++ rest → BeginsWithHeader K bytes h after → (h ≡ g) × (after ≡ rest)
  same_front bytes g h rest after fits are begins = laws.header_front h g after rest begins.widths fits (sym begins.bytes_are ∙ are)

  pub not_bookend : (bytes : List ℕ) (g h : H) (rest after : List ℕ) → K.Fits g → K.hash_of g ≡ all_ones → bytes ≡ K.header_bytes g ++ rest → ¬ BeginsWithHeader K bytes h after
  not_bookend bytes g h rest after fits ones are begins =
      begins.is_record (ap (λ (k : H). K.hash_of k) (same_front bytes g h rest after fits are begins).0 ∙ ones)

  pub header_within : (bytes : List ℕ) (g : H) (rest : List ℕ) → bytes ≡ K.header_bytes g ++ rest → length bytes ≡ 48 + length rest
  header_within bytes g rest are = omega (arith, ap length are, length-append (K.header_bytes g) rest, laws.header_size g)

  -- a bookend is the header of no record
  pub bookend_or_header : (bytes : List ℕ) (h : H) (rest : List ℕ) → BeginsWithBookend K bytes → ¬ BeginsWithHeader K bytes h rest
  bookend_or_header bytes h rest bookend = not_bookend bytes bookend.header h bookend.rest rest bookend.widths bookend.is_bookend bookend.bytes_are

  -- a bookend, a record too many and an early end exclude each other
  pub bookend_or_passes : (left : ℕ) (bytes : List ℕ) → BeginsWithBookend K bytes → ¬ BeginsRefused K left bytes
  bookend_or_passes left bytes bookend (h, rest, begins, past) = bookend_or_header bytes h rest bookend begins

  pub bookend_or_ends : (left : ℕ) (bytes : List ℕ) → BeginsWithBookend K bytes → ¬ EndsEarly K left bytes
  bookend_or_ends left bytes bookend (inl short) = omega (arith, short, header_within bytes bookend.header bookend.rest bookend.bytes_are)
  bookend_or_ends left bytes bookend (inr (h, rest, begins, few, short)) = bookend_or_header bytes h rest bookend begins

  -- nor does any of them go with a record within the rows that are left
  pub no_record : (left : ℕ) (bytes : List ℕ) (r : R) (rest : List ℕ) → K.IsStored r → K.row_count r ≤ left → bytes ≡ K.record_bytes r ++ rest → ¬ StopsAt K left bytes
  no_record left bytes r rest stored within are (inl bookend) =
      bookend_or_header bytes (K.header_of r) (K.bytes_after r ++ rest) bookend (stored_begins bytes r rest stored are)
  no_record left bytes r rest stored within are (inr (inl (h, after, begins, not_allowed refused))) =
      let begins_r = stored_begins bytes r rest stored are in
      let same = same_front bytes (K.header_of r) h (K.bytes_after r ++ rest) after begins_r.widths begins_r.bytes_are begins in
      true≢false (sym refused ∙ ap (λ (k : H). K.refuses k) same.0 ∙ laws.allowed r stored)
  no_record left bytes r rest stored within are (inr (inl (h, after, begins, too_many_rows past))) =
      let begins_r = stored_begins bytes r rest stored are in
      let same = same_front bytes (K.header_of r) h (K.bytes_after r ++ rest) after begins_r.widths begins_r.bytes_are begins in
      omega (arith, past, within, laws.rows r stored, ap (λ (k : H). K.rows_after k) same.0)
  no_record left bytes r rest stored within are (inr (inr (inl short))) =
      let begins_r = stored_begins bytes r rest stored are in
      omega (arith, short, header_within bytes (K.header_of r) (K.bytes_after r ++ rest) begins_r.bytes_are)
  no_record left bytes r rest stored within are (inr (inr (inr (h, after, begins, few, short)))) =
      let begins_r = stored_begins bytes r rest stored are in
      let same = same_front bytes (K.header_of r) h (K.bytes_after r ++ rest) after begins_r.widths begins_r.bytes_are begins in
      omega (arith, short, ap length same.1, length-append (K.bytes_after r) rest, laws.size_after r stored, ap (λ (k : H). K.rows_after k) same.0)

  -- a header that a reader of a version does not refuse and the rows after it are a record
  pub whole_record : (version : FormatVersion) (First Next Both : List ℕ → Type 0) (g : H) (found : R)
      → ((xs ys : List ℕ) → First xs → Next ys → Both (xs ++ ys)) → K.Fits g → K.hash_of g ≢ all_ones → (in_version K version).refuses g ≡ false
      → First (K.header_bytes g) → ReadsRowsAfter K g Next found → K.rows_after g ≤ 4294967295 → ReadsRecord (in_version K version) Both found
  whole_record version First Next Both g found joins fits is_record allowed taken read few = record {
    stored = read.stored;
    is_stored = stored_in K version read.stored (ap (λ (h : H). (in_version K version).refuses h) read.same_header ∙ allowed) (read.is_stored is_record fits);
    rows = subst (λ (h : H). K.rows_after h ≤ 4294967295) (sym read.same_header) few;
    taken = subst Both (ap (λ (h : H). K.header_bytes h ++ K.bytes_after read.stored) (sym read.same_header) ∙ sym (laws.record_bytes_are read.stored))
        (joins (K.header_bytes g) (K.bytes_after read.stored) taken read.taken);
    returned = read.returned;
  }

-- the segments after a file's header, and the rows of its parts after them
module _ (First Next Whole : List ℕ → Type 0) (joins : (xs ys : List ℕ) → First xs → Next ys → Whole (xs ++ ys)) where
  pub parts_after : (r : MDBFileInfo) → ((part : OptionalPart) → length (rows_of part r) ≡ part_rows part r.metadata)
      → ReadsRows segment_row FitsSegment (λ s. s) First r.metadata.num_entries r.segments
      → ReadsRows hash_row FitsHashRow clear Next (optional_rows_after r.metadata) (optional_rows r) → ReadsRowsAfter file_records r.metadata Whole r
  unfolding file_rows_bytes
  parts_after r each s e =
      let h = r.metadata in
      let rows : OptionalPart → List HashRow = λ part. part_of part h e.stored in
      let stored = with_parts h s.stored rows in
      let len : (part : OptionalPart) → length (rows part) ≡ part_rows part h = λ part. length-part_of h e.stored e.len part in
      let holds : (part : OptionalPart) → PartHolds part (rows part) = λ part. holds_announced h part (rows part) (len part) in
      let found : (part : OptionalPart) → rows_of part stored ≡ rows part = rows_of-with_parts h s.stored rows holds in
      let all : optional_rows stored ≡ e.stored = optional_rows-with_parts h s.stored rows holds ∙ parts-of-rows h e.stored e.len in
      record {
        stored = stored;
        same_header = refl;
        is_stored = λ is_file fits. record {
          is_file = is_file;
          whole = record { segments = s.len; parts = λ part. ap length (found part) ∙ len part };
          widths = record { metadata = fits; segments = s.widths; parts = All-same FitsHashRow (optional_rows stored) e.stored all e.widths };
        };
        size = ap (λ (xs : List HashRow). length (flat_map segment_row s.stored ++ flat_map hash_row xs)) all
            ∙ length-append (flat_map segment_row s.stored) (flat_map hash_row e.stored) ∙ omega (arith, s.size, e.size);
        taken = subst (λ (xs : List HashRow). Whole (flat_map segment_row s.stored ++ flat_map hash_row xs)) (sym all) (joins _ _ s.taken e.taken);
        returned = same_record (as_read stored) r refl (sym (map-id s.stored) ∙ s.returned) (λ part.
            rows_of-returned stored part ∙ ap (map clear) (found part) ∙ sym (part_of-map part h e.stored) ∙ ap (part_of part h) e.returned
            ∙ part-of-parts (λ p. rows_of p r) h each part);
      }

-- the same of parts that are read one after another
row_or_none : (b : Bool) → (if b then 48 else 0) ≡ 48 * (if b then 1 else 0)
row_or_none true = refl
row_or_none false = refl

module _ {I : Type 0} (reads : I → I → List ℕ → Type 0) (nothing : (a : I) → reads a a []) (joins : (a b c : I) (xs ys : List ℕ) → reads a b xs → reads b c ys → reads a c (xs ++ ys)) where
  pub parts_read : (h : FileDataSequenceHeader) (a b c d e : I) (ss : List FileDataSequenceEntry) (vs ms xs : List HashRow)
      → ReadsRows segment_row FitsSegment (λ s. s) (reads a b) h.num_entries ss → ReadsRows hash_row FitsHashRow clear (reads b c) (part_rows Verification h) vs
      → ReadsRows hash_row FitsHashRow clear (reads c d) (part_rows MetadataExt h) ms → ReadsRows hash_row FitsHashRow clear (reads d e) (part_rows AuxExt h) xs
      → ReadsRowsAfter file_records h (reads a e) (with_parts h ss (these_rows vs ms xs))
  parts_read h a b c d e ss vs ms xs s v m x =
      let rows = these_rows vs ms xs in
      let of = hash_row in
      let len = these_counted h vs ms xs (length-read of FitsHashRow clear (reads b c) _ vs v) (length-read of FitsHashRow clear (reads c d) _ ms m) (length-read of FitsHashRow clear (reads d e) _ xs x) in
      let join = rows_after_rows of FitsHashRow clear in
      let read = join (reads b c) (reads c e) (reads b e) _ _ vs _ (joins b c e) v
      (join (reads c d) (reads d e) (reads c e) _ _ ms _ (joins c d e) m
      (join (reads d e) (reads e e) (reads d e) _ 0 xs [] (joins d e e) x (no_rows of FitsHashRow clear (reads e e) (nothing e)))) in
      let all = optional_rows-with_parts h ss rows (λ part. holds_announced h part (rows part) (len part)) in
      parts_after (reads a b) (reads b e) (reads a e) (joins a b e) (with_parts h ss rows) (λ part. ap length (rows_of-counted h ss rows len part) ∙ len part) s
      (subst (λ xs. ReadsRows of FitsHashRow clear (reads b e) (optional_rows_after h) xs) (sym all)
      (subst (λ n. ReadsRows of FitsHashRow clear (reads b e) n (flat_map rows parts)) (omega arith) read))

  pub file_read : (h : FileDataSequenceHeader) (a b c d e : I) (count : ℕ) (m_wanted x_wanted : Bool) (ss : List FileDataSequenceEntry) (vs : List HashRow) (m x : Option HashRow)
      → count ≡ part_rows Verification h → m_wanted ≡ announces h.file_flags MetadataExt → x_wanted ≡ announces h.file_flags AuxExt
      → ReadsRows segment_row FitsSegment (λ s. s) (reads a b) h.num_entries ss → ReadsRows hash_row FitsHashRow clear (reads b c) count vs
      → ReadsOptional hash_row FitsHashRow clear (reads c d) m_wanted m → ReadsOptional hash_row FitsHashRow clear (reads d e) x_wanted x
      → ReadsRowsAfter file_records h (reads a e) (record { metadata = h; segments = ss; verification = vs; metadata_ext = m; aux_ext = x })
  file_read h a b c d e count m_wanted x_wanted ss vs m x counted m_wants x_wants s v m_read x_read =
      let r : MDBFileInfo = record { metadata = h; segments = ss; verification = vs; metadata_ext = m; aux_ext = x } in
      subst (ReadsRowsAfter file_records h (reads a e)) (with_parts-rows_of r)
      (parts_read h a b c d e ss vs (option_to_list m) (option_to_list x) s (subst (λ n. ReadsRows hash_row FitsHashRow clear (reads b c) n vs) counted v)
      (subst (λ (w : Bool). ReadsRows hash_row FitsHashRow clear (reads c d) (if w then 1 else 0) (option_to_list m)) m_wants (optional_read hash_row FitsHashRow clear (reads c d) m_wanted m m_read))
      (subst (λ (w : Bool). ReadsRows hash_row FitsHashRow clear (reads d e) (if w then 1 else 0) (option_to_list x)) x_wants (optional_read hash_row FitsHashRow clear (reads d e) x_wanted x x_read)))

-- the bytes of some parts, with those of the next one, are no more than the header announces
pub rows_within : (h : FileDataSequenceHeader) (count : ℕ) (wanted : Bool) (xs ys : List ℕ) → count ≡ part_rows Verification h
    → wanted ≡ announces h.file_flags MetadataExt → length xs ≡ 48 * h.num_entries → length ys ≡ 48 * count
    → length (xs ++ ys) + (if wanted then 48 else 0) ≤ 48 * rows_after h
rows_within h count wanted xs ys counted wants first second = omega (
  arith,
  length-append xs ys,
  first,
  second,
  counted,
  row_or_none wanted,
  ap {B = ℕ} (λ (b : Bool). if b then 1 else 0) wants,
)

pub rows_within_aux : (h : FileDataSequenceHeader) (count : ℕ) (m_wanted x_wanted : Bool) (xs ys zs : List ℕ) → count ≡ part_rows Verification h
    → m_wanted ≡ announces h.file_flags MetadataExt → x_wanted ≡ announces h.file_flags AuxExt → length xs ≡ 48 * h.num_entries → length ys ≡ 48 * count
    → length zs ≡ (if m_wanted then 48 else 0) → length ((xs ++ ys) ++ zs) + (if x_wanted then 48 else 0) ≤ 48 * rows_after h
rows_within_aux h count m_wanted x_wanted xs ys zs counted m_wants x_wants first second third = omega (
  arith,
  length-append xs ys,
  length-append (xs ++ ys) zs,
  first,
  second,
  third,
  counted,
  row_or_none m_wanted,
  row_or_none x_wanted,
  ap {B = ℕ} (λ (b : Bool). if b then 1 else 0) m_wants,
  ap {B = ℕ} (λ (b : Bool). if b then 1 else 0) x_wants,
)

-- the chunks after a header
pub chunks_after : (Took : List ℕ → Type 0) (g : XorbChunkSequenceHeader) (cs : List XorbChunkSequenceEntry) → ReadsRows chunk_row FitsChunk (λ c. c) Took g.num_entries cs
    → ReadsRowsAfter xorb_records g Took (record { metadata = g; chunks = cs })
chunks_after Took g cs read = record {
  stored = record { metadata = g; chunks = read.stored };
  same_header = refl;
  is_stored = λ is_xorb fits. record { is_xorb = is_xorb; count = read.len; widths = record { metadata = fits; chunks = read.widths } };
  size = read.size;
  taken = read.taken;
  returned = λ i. record { metadata = g; chunks = (sym (map-id read.stored) ∙ read.returned) i };
}
