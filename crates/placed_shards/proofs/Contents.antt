-- What a shard will be written as, and what it has in memory.
use Rattle.std.proofs.Common.{◌≡◌, ℕ, Ok, Err, ◌+◌, ◌*◌, Bool, true, false, not, ◌||◌, List, [], ◌∷◌, ◌++◌, length, drop, refl, sym, ap, ◌∙◌, subst, arith, true≢false}
use Rattle.std.specs.Prelude.{◌↔◌, All, IfErr, IfOk, IsTrue, MatchResult, map}
use Rattle.std.specs.declared.result.Result.{Result}
use Rattle.std.specs.List.{list_any}
use Rattle.std.proofs.lemmas.List.{length-append, length-map, map-id}
use Rattle.std.proofs.lemmas.List.Elements.{All-map}
use Rattle.std.proofs.lemmas.List.Sums.{sum_by-cons}
use Rattle.xet_base.specs.declared.error.CoreError.{CoreError}
use Rattle.xet_base.specs.declared.error.CoreError.TheVariants.{OutOfMemory}
use Rattle.xet_records.specs.declared.file_structs.MDBFileInfo.{MDBFileInfo}
use Rattle.xet_records.specs.declared.xorb_structs.MDBXorbInfo.{MDBXorbInfo}
use Rattle.xet_records.specs.FileRecord.{as_read, file_records, has_aux_ext, row_count, FitsRecord, IsStored}
use Rattle.xet_records.specs.XorbRecord.{xorb_records}
use Rattle.xet_records.proofs.RecordKinds.{file_laws}
use Rattle.xet_shards.specs.declared.shard_format.ends.options.LayoutOptions.{LayoutOptions}
use Rattle.xet_shards.specs.Write.Layout.{header_value, layout_of, shard_header_bytes}
use Rattle.xet_shards.specs.Write.Section.{section_bytes, total_rows}
use Rattle.xet_shards.specs.declared.shard_format.write.written.WrittenFiles.{WrittenFiles}
use Rattle.xet_shards.specs.Write.Puts.{Puts}
use Rattle.xet_shards.specs.Write.Written.{end_of_layout, HasWritten}
use Rattle.xet_shards.proofs.Write.Layouts.{length-file_section, length-xorb_section, length-shard_header_bytes}
use Rattle.xet_shards.proofs.Write.Written.{layout-parts}
use Rattle.xet_shards.proofs.Write.Puts.{puts_then}
use Rattle.placed_shards.specs.declared.placed_shard.PlacedShard.{PlacedShard}
use Rattle.placed_shards.specs.Content.{content}
use Rattle.placed_shards.specs.StoredFiles.{files_as}
use Rattle.placed_shards.proofs.Filling.{put_at_front}

rows_read : (fs : List MDBFileInfo) → total_rows file_records (map as_read fs) ≡ total_rows file_records fs
rows_read [] = refl
rows_read (f ∷ fs) = omega (arith, sum_by-cons row_count (as_read f) (map as_read fs), sum_by-cons row_count f fs, file_laws.same_rows f, rows_read fs)

pub rows_of_files : (b : Bool) (fs : List MDBFileInfo) → total_rows file_records (files_as b fs) ≡ total_rows file_records fs
rows_of_files false fs = refl
rows_of_files true fs = rows_read fs

pub stored_files : (b : Bool) (fs : List MDBFileInfo) → All IsStored fs → All IsStored (files_as b fs)
stored_files false fs stored = stored
stored_files true fs stored = All-map IsStored as_read fs (λ k r below. file_laws.as_read_stored _ (stored k r below))

pub widths_of_files : (b : Bool) (fs : List MDBFileInfo) → All IsStored fs → All FitsRecord (files_as b fs)
widths_of_files b fs stored = λ k r below. (stored_files b fs stored k r below).widths

pub length_files : (b : Bool) (fs : List MDBFileInfo) → length (files_as b fs) ≡ length fs
length_files false fs = refl
length_files true fs = length-map fs as_read

abbrev is_new : MDBFileInfo → Bool
is_new r = has_aux_ext r.metadata.file_flags

any_read : (fs : List MDBFileInfo) → list_any is_new (map as_read fs) ≡ list_any is_new fs
any_read [] = refl
any_read (f ∷ fs) = ap (λ t. is_new f || t) (any_read fs)

pub any_files : (b : Bool) (fs : List MDBFileInfo) → list_any (λ r. has_aux_ext r.metadata.file_flags) (files_as b fs) ≡ list_any (λ r. has_aux_ext r.metadata.file_flags) fs
any_files false fs = refl
any_files true fs = any_read fs

pub not_iff : (r : Bool) → IsTrue (not r) ↔ (r ≡ false)
not_iff false = (λ is. refl, λ is. refl)
not_iff true = (λ is. absurd (true≢false (sym is)), λ is. absurd (true≢false is))

-- the records of a shard, as they were read
pub files_read : (s : PlacedShard) → s.as_read ≡ true → map as_read s.files.items ≡ (content s).files
files_read s is = ap (λ b. files_as b s.files.items) (sym is)

pub xorbs_read : (s : PlacedShard) → map (λ x. x) s.xorbs.items ≡ (content s).xorbs
xorbs_read s = map-id s.xorbs.items

-- what was collected of a shard's files, as they will be written
pub collected : (s : PlacedShard) (fs : List MDBFileInfo) → fs ≡ s.files.items → (r : Result WrittenFiles CoreError)
    → MatchResult r (λ written. (b : Bool) → HasWritten written (files_as b fs)) (λ e. e ≡ OutOfMemory) → MatchResult r (λ written. HasWritten written (content s).files) (λ e. e ≡ OutOfMemory)
collected s fs are (Ok written) has = subst (λ l. HasWritten written (files_as s.as_read l)) are (has s.as_read)
collected s fs are (Err e) is = is

-- a value, of which a fact gives another, or an error
pub made_as : {T E : Type 0} (r : Result T E) (P Q : T → Type 0) (R : E → Type 0) → ((v : T) → P v → Q v) → IfOk r P → IfErr r R → MatchResult r Q R
made_as (Ok v) P Q R weaker is none = weaker v is
made_as (Err e) P Q R weaker none is = is

module _ (files : List MDBFileInfo) (xorbs : List MDBXorbInfo) (options : LayoutOptions) (fit : All FitsRecord files) where
  abbrev header : List ℕ
  header = shard_header_bytes (header_value options.version)

  abbrev first : List ℕ
  first = section_bytes file_records files

  abbrev second : List ℕ
  second = section_bytes xorb_records xorbs

  abbrev end : List ℕ
  end = end_of_layout files xorbs options

  -- the size of a shard by its parts
  pub size_of_parts : length (layout_of files xorbs options) ≡ 48 + 48 * (total_rows file_records files + 1) + 48 * (total_rows xorb_records xorbs + 1) + length end
  size_of_parts =
      let parts = ap length (sym (layout-parts files xorbs options)) in
      omega (
        arith,
        parts,
        length-append ((header ++ first) ++ second) end,
        length-append (header ++ first) second,
        length-append header first,
        length-shard_header_bytes (header_value options.version),
        length-file_section files fit,
        length-xorb_section xorbs,
      )

  -- the parts one after another
  pub shard_put : (old one two three new : List ℕ) (a b c d : ℕ) → Puts old one 0 a header → Puts one two a b first → Puts two three b c second → Puts three new c d end
      → new ≡ layout_of files xorbs options ++ drop (length (layout_of files xorbs options)) old
  shard_put old one two three new a b c d p q r s =
      let all = puts_then old three new 0 c d ((header ++ first) ++ second) end
      (puts_then old two three 0 b c (header ++ first) second (puts_then old one two 0 a b header first p q) r) s in
      let whole = subst (Puts old new 0 d) (layout-parts files xorbs options) all in
      put_at_front old new d (layout_of files xorbs options) whole ∙ ap (λ n. layout_of files xorbs options ++ drop n old) (omega (arith, whole.end_is))
