-- Bytes that are put into a slice, one part after another.
use Rattle.std.proofs.Common.{◌≡◌, ℕ, zero, suc, ◌+◌, ◌*◌, ◌<◌, Bool, true, false, List, [], ◌∷◌, ◌++◌, length, take, drop, flat_map, refl, sym, ap, ◌∙◌, subst, arith, append-nil, append_assoc}
use Rattle.std.specs.Prelude.{All, map}
use Rattle.std.proofs.lemmas.Grind.{flat_map-append}
use Rattle.std.proofs.lemmas.List.{length-append, map-append, drop-drop, take-append-drop}
use Rattle.std.proofs.lemmas.List.Elements.{All-drop}
use Rattle.xet_base.specs.Bytes.{u64_bytes}
use Rattle.xet_base.specs.Hash.{hash_bytes}
use Rattle.xet_base.proofs.Bytes.{length-hash_bytes, length-u64_bytes}
use Rattle.xet_base.proofs.Lists.{front_is, rest_is}
use Rattle.xet_records.specs.declared.file_structs.part.OptionalPart.{OptionalPart}
use Rattle.xet_records.specs.declared.file_structs.rows.HashRow.{HashRow}
use Rattle.xet_records.specs.declared.file_structs.MDBFileInfo.{MDBFileInfo}
use Rattle.xet_records.specs.declared.record_reader.FormatVersion.{FormatVersion}
use Rattle.xet_records.specs.FileRow.{header_row, segment_row, hash_row, FitsHashRow, clear}
use Rattle.xet_records.specs.Part.{parts, rows_of, optional_rows}
use Rattle.xet_records.specs.FileRecord.{file_record_bytes, file_rows_bytes, as_read, rows_after, IsStored}
use Rattle.xet_records.specs.RecordKind.{RecordKind}
use Rattle.xet_records.proofs.Lengths.{length-header_row, length-segment_rows, length-hash_row, length-hash_rows}
use Rattle.xet_records.proofs.Parts.{rows_of-returned}
use Rattle.xet_records.proofs.RecordKinds.{file_laws}
use Rattle.xet_shards.specs.declared.shard_format.ends.header.MDBShardFileHeader.{MDBShardFileHeader}
use Rattle.xet_shards.specs.Write.Layout.{header_value, shard_header_bytes}
use Rattle.xet_shards.specs.declared.shard_format.write.written.WrittenFiles.{WrittenFiles}
use Rattle.xet_shards.specs.Write.Written.{HasWritten}
use Rattle.xet_shards.specs.Write.Puts.{Puts}
use Rattle.xet_shards.specs.Write.Section.{section_bytes}
use Rattle.xet_shards.proofs.Write.Puts.{puts_then}
use Rattle.placed_shards.specs.StoredFiles.{file_as, files_as}

-- what is put at the front of a slice
pub put_at_front : (old new : List ℕ) (end : ℕ) (bytes : List ℕ) → Puts old new 0 end bytes → new ≡ bytes ++ drop end old
put_at_front old new end bytes puts = sym (take-append-drop end new) ∙ (λ i. puts.front i ++ puts.rest i)

pub puts_word : (old new : List ℕ) (at end value : ℕ) → end ≡ at + 8 → take end new ≡ take at old ++ u64_bytes value → drop end new ≡ drop end old → Puts old new at end (u64_bytes value)
puts_word old new at end value end_is front rest = record { end_is = omega (arith, end_is, length-u64_bytes value); front = front; rest = rest }

-- a row of an optional part with zeros for its reserved words
pub cleared_row : (row : List ℕ) (old one two new : List ℕ) (at m n end : ℕ) (stored : HashRow) → row ≡ hash_row stored → Puts old one at m (take 32 row) → Puts one two m n (u64_bytes 0) → Puts two new n end (u64_bytes 0)
    → Puts old new at end (hash_row (clear stored))
unfolding hash_row
cleared_row row old one two new at m n end stored row_is first second third =
    let front : take 32 row ≡ hash_bytes stored.hash = front_is 32 row (hash_bytes stored.hash) (flat_map u64_bytes stored._unused) (length-hash_bytes stored.hash) row_is in
    subst (Puts old new at end) ((λ i. (front i ++ u64_bytes 0) ++ u64_bytes 0) ∙ append_assoc (hash_bytes stored.hash) (u64_bytes 0) (u64_bytes 0) ∙ ap (λ l. hash_bytes stored.hash ++ (u64_bytes 0 ++ l)) (sym (append-nil (u64_bytes 0))))
    (puts_then old two new at n end (take 32 row ++ u64_bytes 0) (u64_bytes 0) (puts_then old one two at m n (take 32 row) (u64_bytes 0) first second) third)

-- the next of some rows that are cleared
pub record NextCleared (bytes : List ℕ) (stored : List HashRow) (i : ℕ) : Type 0 where
  pub row : HashRow
  pub fits : FitsHashRow row
  pub is : take 48 (drop (48 * i) bytes) ≡ hash_row row
  pub more : flat_map hash_row (map clear (take (suc i) stored)) ≡ flat_map hash_row (map clear (take i stored)) ++ hash_row (clear row)

pub next_cleared : (stored : List HashRow) (rest bytes : List ℕ) (i : ℕ) → All FitsHashRow stored → i < length stored → bytes ≡ flat_map hash_row stored ++ rest → NextCleared bytes stored i
next_cleared [] rest bytes i fit within are = absurd (omega arith)
next_cleared (row ∷ rows) rest bytes zero fit within are =
    let fits : FitsHashRow row = fit 0 row (omega arith) in
    record {
      row = row;
      fits = fits;
      is = front_is 48 bytes (hash_row row) (flat_map hash_row rows ++ rest) (length-hash_row row fits) (are ∙ append_assoc (hash_row row) (flat_map hash_row rows) rest);
      more = append-nil (hash_row (clear row));
    }
next_cleared (row ∷ rows) rest bytes (suc i) fit within are =
    let fits : FitsHashRow row = fit 0 row (omega arith) in
    let after : drop 48 bytes ≡ flat_map hash_row rows ++ rest = rest_is 48 bytes (hash_row row) (flat_map hash_row rows ++ rest) (length-hash_row row fits) (are ∙ append_assoc (hash_row row) (flat_map hash_row rows) rest) in
    let next = next_cleared rows rest (drop 48 bytes) i (All-drop FitsHashRow 1 (row ∷ rows) fit) (omega arith) after in
    record {
      row = next.row;
      fits = next.fits;
      is = ap (λ n. take 48 (drop n bytes)) (omega arith) ∙ ap (take 48) (sym (drop-drop (48 * i) 48 bytes)) ∙ next.is;
      more = ap (λ l. hash_row (clear row) ++ l) next.more ∙ sym (append_assoc (hash_row (clear row)) (flat_map hash_row (map clear (take i rows))) (hash_row (clear next.row)));
    }

flat_map-clear : (rows : OptionalPart → List HashRow) (ps : List OptionalPart) → flat_map (λ part. map clear (rows part)) ps ≡ map clear (flat_map rows ps)
flat_map-clear rows [] = refl
flat_map-clear rows (part ∷ ps) = ap (λ ys. map clear (rows part) ++ ys) (flat_map-clear rows ps) ∙ sym (map-append clear (rows part) (flat_map rows ps))

-- the rows of optional parts, as reading returns them
pub optional_rows-cleared : (r : MDBFileInfo) → optional_rows (as_read r) ≡ map clear (optional_rows r)
optional_rows-cleared r = (λ i. flat_map (λ part. rows_of-returned r part i) parts) ∙ flat_map-clear (λ part. rows_of part r) parts

-- the header of a version
pub header_put : (version : FormatVersion) (h : MDBShardFileHeader) → h ≡ header_value version → (old one two new : List ℕ) (m n end : ℕ) → Puts old one 0 m h.tag → Puts one two m n (u64_bytes h.version)
    → Puts two new n end (u64_bytes h.footer_size) → Puts old new 0 end (shard_header_bytes (header_value version))
unfolding shard_header_bytes
header_put version h is old one two new m n end first second third =
    subst (λ (g : MDBShardFileHeader). Puts old new 0 end ((g.tag ++ u64_bytes g.version) ++ u64_bytes g.footer_size)) is
    (puts_then old two new 0 n end (h.tag ++ u64_bytes h.version) (u64_bytes h.footer_size) (puts_then old one two 0 m n h.tag (u64_bytes h.version) first second) third)

-- the bytes of a file: its header and its segments, and the rows of its optional parts
pub record HasFileParts (f : MDBFileInfo) (bytes : List ℕ) : Type 0 where
  pub size : length bytes ≡ 48 + 48 * rows_after f.metadata
  pub fixed : take (48 * (1 + f.metadata.num_entries)) bytes ≡ header_row f.metadata ++ flat_map segment_row f.segments
  pub optional : drop (48 * (1 + f.metadata.num_entries)) bytes ≡ flat_map hash_row (optional_rows f) ++ []
  pub fit : All FitsHashRow (optional_rows f)
  pub count : length (optional_rows f) + f.metadata.num_entries ≡ rows_after f.metadata
  pub read : file_record_bytes (as_read f) ≡ (header_row f.metadata ++ flat_map segment_row f.segments) ++ flat_map hash_row (map clear (optional_rows f))

pub file_parts : (f : MDBFileInfo) (bytes : List ℕ) → IsStored f → bytes ≡ file_record_bytes f → HasFileParts f bytes
unfolding file_record_bytes file_rows_bytes
file_parts f bytes stored bytes_are =
    let header = header_row f.metadata in
    let first = flat_map segment_row f.segments in
    let second = flat_map hash_row (optional_rows f) in
    let size_1 : length first ≡ 48 * f.metadata.num_entries = length-segment_rows f.segments ∙ ap (λ n. 48 * n) stored.whole.segments in
    let size_2 : length second ≡ 48 * length (optional_rows f) = length-hash_rows (optional_rows f) stored.widths.parts in
    let total : length (first ++ second) ≡ 48 * rows_after f.metadata = file_laws.size_after f stored in
    let front : length (header ++ first) ≡ 48 * (1 + f.metadata.num_entries) = length-append header first ∙ omega (arith, length-header_row f.metadata, size_1) in
    let are : bytes ≡ (header ++ first) ++ second = bytes_are ∙ sym (append_assoc header first second) in
    record {
      size = ap length bytes_are ∙ length-append header (first ++ second) ∙ omega (arith, length-header_row f.metadata, total);
      fixed = front_is (48 * (1 + f.metadata.num_entries)) bytes (header ++ first) second front are;
      optional = rest_is (48 * (1 + f.metadata.num_entries)) bytes (header ++ first) second front are ∙ sym (append-nil second);
      fit = stored.widths.parts;
      count = omega (arith, size_1, size_2, total, length-append first second);
      read = ap (λ rows. header ++ (first ++ flat_map hash_row rows)) (optional_rows-cleared f) ∙ sym (append_assoc header first (flat_map hash_row (map clear (optional_rows f))));
    }

-- a file is put as reading returns it
pub file_put : (f : MDBFileInfo) (bytes front optional : List ℕ) (n count : ℕ) → IsStored f → bytes ≡ file_record_bytes f → n ≡ f.metadata.num_entries → count + n ≡ rows_after f.metadata
    → front ≡ take (48 * (1 + n)) bytes → optional ≡ drop (48 * (1 + n)) bytes → (old mid new : List ℕ) (at m end : ℕ) → Puts old mid at m front
    → ((stored : List HashRow) (rest : List ℕ) → All FitsHashRow stored → length stored ≡ count → optional ≡ flat_map hash_row stored ++ rest → Puts mid new m end (flat_map hash_row (map clear stored)))
    → Puts old new at end (file_record_bytes (as_read f))
file_put f bytes front optional n count stored bytes_are n_is rows front_is_ optional_is old mid new at m end first others =
    let parts = file_parts f bytes stored bytes_are in
    let fixed = front_is_ ∙ ap (λ k. take (48 * (1 + k)) bytes) n_is ∙ parts.fixed in
    let cleared = others (optional_rows f) [] parts.fit (omega (arith, n_is, rows, parts.count)) (optional_is ∙ ap (λ k. drop (48 * (1 + k)) bytes) n_is ∙ parts.optional) in
    subst (Puts old new at end) (sym parts.read)
    (puts_then old mid new at m end (header_row f.metadata ++ flat_map segment_row f.segments) (flat_map hash_row (map clear (optional_rows f))) (subst (Puts old mid at m) fixed first) cleared)

-- files as they are stored or as reading returns them
pub files_as-push : (b : Bool) (fs : List MDBFileInfo) (f : MDBFileInfo) → files_as b (fs ++ f ∷ []) ≡ files_as b fs ++ file_as b f ∷ []
files_as-push false fs f = refl
files_as-push true fs f = map-append as_read fs (f ∷ [])

module _ {H R : Type 0} (K : RecordKind H R) where
  -- one record more is put
  pub record_put : (old mid new : List ℕ) (at m end : ℕ) (rs : List R) (r : R) → Puts old mid at m (flat_map K.record_bytes rs) → Puts mid new m end (K.record_bytes r) → Puts old new at end (flat_map K.record_bytes (rs ++ r ∷ []))
  record_put old mid new at m end rs r before next =
      subst (Puts old new at end) (ap (λ bs. flat_map K.record_bytes rs ++ bs) (sym (append-nil (K.record_bytes r))) ∙ sym (flat_map-append K.record_bytes rs (r ∷ [])))
      (puts_then old mid new at m end (flat_map K.record_bytes rs) (K.record_bytes r) before next)

  -- all records are put, and so is the bookend
  pub section_put : (old mid new : List ℕ) (at m end : ℕ) (rs : List R) → Puts old mid at m (flat_map K.record_bytes rs) → Puts mid new m end (K.header_bytes K.bookend) → Puts old new at end (section_bytes K rs)
  unfolding section_bytes
  section_put old mid new at m end rs before bookend = puts_then old mid new at m end (flat_map K.record_bytes rs) (K.header_bytes K.bookend) before bookend

-- what was collected of files, as they are stored or as reading returns them
pub written_as : (b : Bool) (w : WrittenFiles) (fs : List MDBFileInfo) → HasWritten w fs → HasWritten w (map as_read fs) → HasWritten w (files_as b fs)
written_as false w fs stored read = stored
written_as true w fs stored read = read
