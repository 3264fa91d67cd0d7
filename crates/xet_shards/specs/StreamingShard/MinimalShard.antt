-- A minimal shard: the records of its two sections, the chunks at which its files start, and the
-- chunks that the global index keeps.
use Rattle.std.specs.Prelude.{◌≡◌, ℕ, ◌+◌, ◌*◌, ◌%◌, ◌==◌, Bool, true, false, not, ◌&&◌, ◌||◌, List, [], ◌∷◌, take, length, map, filter, flat_map, Option, None, unwrap_or, refl, if◌then◌else◌}
use Rattle.std.specs.List.{enumerate_from, list_any}
use Rattle.std.specs.Ordering.{nat_cmp, ordering_then, eq_by_cmp}
use Rattle.std.specs.declared.cmp.Ordering.{Ordering}
use Rattle.std.specs.Coded.{Coded, code_by, coded×, coded_list}
use Rattle.std.specs.FinMap as finite
use Rattle.std.specs.Fn.{Shared}
use denote.Ref.{Bor}
use Rattle.xet_base.specs.declared.merklehash.DataHash.{DataHash}
use Rattle.xet_base.specs.Hash.{hash_cmp}
use Rattle.xet_records.specs.declared.file_structs.MDBFileInfo.{MDBFileInfo}
use Rattle.xet_records.specs.contracts.file_structs.MDBFileInfo as file
use Rattle.xet_records.specs.declared.xorb_structs.XorbChunkSequenceEntry.{XorbChunkSequenceEntry}
use Rattle.xet_records.specs.declared.xorb_structs.MDBXorbInfo.{MDBXorbInfo}
use Rattle.xet_records.specs.contracts.xorb_structs.MDBXorbInfo as xorb
use Rattle.xet_records.specs.declared.record_reader.FormatVersion.TheVariants.{V3}
use Rattle.xet_records.specs.FileRecord.{file_records, has_verification}
use Rattle.xet_records.specs.XorbRow.{is_marked, with_mark}
use Rattle.xet_records.specs.XorbRecord.{xorb_records}
use Rattle.std.specs.Io.KnownBytes.{Appends}
use Rattle.xet_records.specs.declared.file_structs.view.KeptParts.{KeptParts}
use Rattle.xet_records.specs.View.{all_kept, as_kept}
use Rattle.xet_shards.specs.declared.streaming_shard.file_start.FileStart.{FileStart}
use Rattle.xet_shards.specs.Write.WithOptions.{FitsSection}
use Rattle.xet_shards.specs.Write.Layout.{LayoutOptions, layout_of}
use Rattle.xet_shards.specs.Write.Section.{total_rows}
use Rattle.xet_shards.specs.Content.Shard.{xorb_hash_of}

-- the records of a file section and of a xorb section
pub record MinimalShard : Type 0 where
  pub files : List MDBFileInfo
  pub xorbs : List MDBXorbInfo

-- the encoding by which proofs distinguish such values
abbrev pub coded_minimal : Coded MinimalShard
coded_minimal =
    code_by (List MDBFileInfo × List MDBXorbInfo)
    (coded× (coded_list file.the_row.coded) (coded_list xorb.the_row.coded))
    (λ m. (m.files, m.xorbs)) (λ p. record { files = p.0; xorbs = p.1 }) (λ _. refl)

-- sections may hold the records
pub record FitsSections (m : MinimalShard) : Type 0 where
  pub files : FitsSection file_records m.files
  pub xorbs : FitsSection xorb_records m.xorbs

-- the order of starts: by the xorb's hash, then by the chunk's index
abbrev pub start_cmp : FileStart → FileStart → Ordering
start_cmp a b =
    ordering_then (hash_cmp a.xorb_hash b.xorb_hash) (nat_cmp a.chunk_index b.chunk_index)

-- where a file starts: the xorb and the first chunk of its first segment, if it has one
abbrev pub start_of_file : MDBFileInfo → List FileStart
start_of_file r =
    map (λ s. record { xorb_hash = s.xorb_hash; chunk_index = s.chunk_index_start })
    (take 1 r.segments)

-- a list of starts has this one
abbrev pub has_start : List FileStart → FileStart → Bool
has_start starts at = list_any (eq_by_cmp start_cmp at) starts

-- one of these files starts there
abbrev pub is_start : List MDBFileInfo → FileStart → Bool
is_start files at = has_start (flat_map start_of_file files) at

-- a chunk of a xorb, by its index
abbrev pub chunk_of : MDBXorbInfo → ℕ → FileStart
chunk_of x index = record { xorb_hash = xorb_hash_of x; chunk_index = index }

-- a chunk with its mark set, or as it is
abbrev pub marked_if : Bool → XorbChunkSequenceEntry → XorbChunkSequenceEntry
marked_if wanted c = if wanted then record c { flags = with_mark true c.flags } else c

module _ (starts : FileStart → Bool) where
  -- a xorb with a mark on each chunk that is a start, and its other marks as they are
  abbrev pub mark_starts : MDBXorbInfo → MDBXorbInfo
  mark_starts x =
      record x
      { chunks = map (λ e. marked_if (starts (chunk_of x e.0)) e.1) (enumerate_from 0 x.chunks) }

  -- a chunk of a xorb, with its index: its mark is set, its hash is eligible, or it is a start
  abbrev pub is_eligible : MDBXorbInfo → ℕ × XorbChunkSequenceEntry → Bool
  is_eligible x e =
      (is_marked e.1.flags || (e.1.chunk_hash.word3 % 1024 == 0)) || starts (chunk_of x e.0)

  -- the hashes of the eligible chunks of a xorb
  abbrev pub eligible_in : MDBXorbInfo → List DataHash
  eligible_in x = map (λ e. e.1.chunk_hash) (filter (is_eligible x) (enumerate_from 0 x.chunks))

-- the set of some hashes, in ascending order: the keys of the finite map that has each of them
abbrev pub ascending_hashes : List DataHash → List DataHash
ascending_hashes hashes =
    finite.keys (finite.from_entries {R = hash_cmp} (map (λ h. (h, tt {0})) hashes))

-- the set of the hashes of all eligible chunks
abbrev pub eligible_hashes : List MDBFileInfo → List MDBXorbInfo → List DataHash
eligible_hashes files xorbs = ascending_hashes (flat_map (eligible_in (is_start files)) xorbs)

-- the first file has verification rows
abbrev pub has_file_verification : List MDBFileInfo → Bool
has_file_verification [] = false
has_file_verification (r ∷ _) = has_verification r.metadata.file_flags

-- the number of bytes of header, sections and footer, with these parts of the files; 0 if
-- verification rows are wanted and there is no file or the first one has none
abbrev pub size_of_kept : KeptParts → MinimalShard → ℕ
size_of_kept kept m =
    if kept.verification && not (has_file_verification m.files) then 0 else 344
    + 48 * total_rows file_records (map (as_kept kept) m.files)
    + 48 * total_rows xorb_records m.xorbs

-- the number of bytes of header, sections and footer, with auxiliary rows, and with verification
-- rows if they are wanted; 0 if they are and there is no file or the first one has none
abbrev pub serialized_size : Bool → MinimalShard → ℕ
serialized_size wanted m = size_of_kept (record all_kept { verification = wanted }) m

-- no tables, no key, the creation, and an expiry or 0
abbrev pub minimal_options : ℕ → Option ℕ → LayoutOptions
minimal_options now expiry = record {
  version = V3;
  file_table = false;
  xorb_table = false;
  chunk_table = false;
  key = record { word0 = 0; word1 = 0; word2 = 0; word3 = 0 };
  creation = now;
  expiry = unwrap_or expiry 0;
}

-- bytes were appended, and their number returned
pub record WritesBytes (old new : Option (List ℕ)) (bytes : List ℕ) (n : ℕ) : Type 0 where
  pub appended : Appends old new bytes
  pub count : n ≡ length bytes

-- the shard was written: these parts of its files, and marks at the starts of its files
abbrev pub WritesMinimalKept : Option (List ℕ) → Option (List ℕ) → KeptParts → ℕ → MinimalShard → ℕ
    → Type 0
WritesMinimalKept old new kept now m n =
    WritesBytes old new
    (layout_of (map (as_kept kept) m.files) (map (mark_starts (is_start m.files)) m.xorbs)
    (minimal_options now None))
    n

-- the shard was written: its files with auxiliary rows, and with verification rows only if they are
-- wanted, and marks at the starts of its files
abbrev pub WritesMinimal : Option (List ℕ) → Option (List ℕ) → Bool → ℕ → MinimalShard → ℕ → Type 0
WritesMinimal old new wanted now m n =
    WritesMinimalKept old new (record all_kept { verification = wanted }) now m n

-- a filter may be called with a reference to this element
abbrev pub FiltersAt : {F X : Type 0} → Shared F (Bor X × Unit {0}) Bool → F → X → Type 0
FiltersAt {F} {X} filter f x = (shown : Bor X) → shown.now ≡ x → filter.pre f (shown, tt)

-- what a filter, called once with each element in order, accepts: `answers` says what it may return
abbrev pub IsKept : {X : Type 0} → (X → Bool → Type 0) → List X → List X → Type 0
IsKept answers [] kept = kept ≡ []
IsKept {X} answers (x ∷ xs) kept =
    (accepted : Bool) × answers x accepted × (rest : List X) × IsKept answers xs rest
    × (kept ≡ (if accepted then x ∷ rest else rest))

-- files were written, and of a shard's xorbs those that a filter accepts, with marks at the starts
-- of all its files
pub record WritesKept (answers : MDBXorbInfo → Bool → Type 0) (old new : Option (List ℕ))
    (files : List MDBFileInfo) (m : MinimalShard) (options : LayoutOptions) (n : ℕ) : Type 0 where
  pub kept : List MDBXorbInfo
  pub is_kept : IsKept answers m.xorbs kept
  pub written : WritesBytes old new
      (layout_of files (map (mark_starts (is_start m.files)) kept) options) n
