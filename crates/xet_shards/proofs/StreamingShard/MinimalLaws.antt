-- A subset of a minimal shard that is read again, and a minimal shard that is written again.
use Rattle.std.proofs.Common.{◌≡◌, true≢false, ℕ, ◌+◌, ◌-◌, ◌%◌, Bool, true, false, List, [], ◌∷◌, ◌++◌, map, flat_map, take, refl, sym, ap, ◌∙◌, arith}
use Rattle.std.specs.Prelude.{◌||◌, ◌&&◌, ◌==◌, filter, if◌then◌else◌}
use Rattle.std.specs.List.{enumerate_from, list_any}
use Rattle.std.specs.Ordering.{eq_by_cmp}
use Rattle.std.proofs.lemmas.Bool.{eq-eqb}
use Rattle.xet_base.specs.declared.merklehash.DataHash.{DataHash}
use Rattle.xet_records.specs.declared.file_structs.MDBFileInfo.{MDBFileInfo}
use Rattle.xet_records.specs.declared.xorb_structs.XorbChunkSequenceEntry.{XorbChunkSequenceEntry}
use Rattle.xet_records.specs.declared.xorb_structs.MDBXorbInfo.{MDBXorbInfo}
use Rattle.xet_records.specs.FileRecord.{has_verification}
use Rattle.xet_records.specs.Part.{announces, all_but, with_flag}
use Rattle.xet_records.specs.declared.file_structs.part.OptionalPart.TheVariants.{Verification, AuxExt}
use Rattle.xet_records.proofs.Merging.{announces-flags_of}
use Rattle.xet_records.specs.XorbRow.{is_marked, with_mark}
use Rattle.xet_records.specs.declared.file_structs.view.KeptParts.{KeptParts}
use Rattle.xet_records.specs.declared.file_structs.rows.FileDataSequenceEntry.{FileDataSequenceEntry}
use Rattle.xet_records.specs.View.{with_verification_if, without_verification, without_aux, with_aux_if, as_kept}
use Rattle.xet_records.proofs.KeptParts.{announces-without_aux, segments_kept, with_parts_if-again}
use Rattle.xet_shards.specs.declared.streaming_shard.file_start.FileStart.{FileStart}
use Rattle.xet_shards.specs.StreamingShard.MinimalShard.{start_cmp, start_of_file, is_start, chunk_of, marked_if, mark_starts, is_eligible, eligible_in, ascending_hashes, eligible_hashes}

-- a chunk with its mark set is marked
mark_is_set : (flags : ℕ) → is_marked (with_mark true flags) ≡ true
mark_is_set flags = eq-eqb _ 1 (omega arith)

or_true : (b : Bool) → true ≡ (b || true)
or_true true = refl
or_true false = refl

abbrev hash_in_pair : ℕ × XorbChunkSequenceEntry → DataHash
hash_in_pair e = e.1.chunk_hash

-- what two tests with the same answer take of two lists
picks_same_hashes : (p q : Bool) (e f : ℕ × XorbChunkSequenceEntry) (es fs : List (ℕ × XorbChunkSequenceEntry)) → p ≡ q → hash_in_pair e ≡ hash_in_pair f → map hash_in_pair es ≡ map hash_in_pair fs
    → map hash_in_pair (if p then e ∷ es else es) ≡ map hash_in_pair (if q then f ∷ fs else fs)
picks_same_hashes true true e f es fs same hash rest = λ i. hash i ∷ rest i
picks_same_hashes false false e f es fs same hash rest = rest
picks_same_hashes true false e f es fs differ hash rest = absurd (true≢false differ)
picks_same_hashes false true e f es fs differ hash rest = absurd (true≢false (sym differ))

marked_hash : (b : Bool) (c : XorbChunkSequenceEntry) → (marked_if b c).chunk_hash ≡ c.chunk_hash
marked_hash true c = refl
marked_hash false c = refl

-- a mark at a start says what the start said
same_test : (b : Bool) (c : XorbChunkSequenceEntry) → ((is_marked (marked_if b c).flags || ((marked_if b c).chunk_hash.word3 % 1024 == 0)) || false) ≡ ((is_marked c.flags || (c.chunk_hash.word3 % 1024 == 0)) || b)
same_test true c = ap (λ m. (m || (c.chunk_hash.word3 % 1024 == 0)) || false) (mark_is_set c.flags) ∙ or_true (is_marked c.flags || (c.chunk_hash.word3 % 1024 == 0))
same_test false c = refl

module _ (starts : FileStart → Bool) (x : MDBXorbInfo) where
  abbrev mark : ℕ × XorbChunkSequenceEntry → XorbChunkSequenceEntry
  mark e = marked_if (starts (chunk_of x e.0)) e.1

  same_chunks : (n : ℕ) (cs : List XorbChunkSequenceEntry)
      → map hash_in_pair (filter (is_eligible (is_start []) (mark_starts starts x)) (enumerate_from n (map mark (enumerate_from n cs))))
      ≡ map hash_in_pair (filter (is_eligible starts x) (enumerate_from n cs))
  same_chunks n [] = refl
  same_chunks n (c ∷ cs) =
      picks_same_hashes _ _ (n, mark (n, c)) (n, c) _ _ (same_test (starts (chunk_of x n)) c) (marked_hash (starts (chunk_of x n)) c) (same_chunks (n + 1) cs)

  -- read again, a xorb with marks has the eligible chunks that it had
  eligible_again : eligible_in (is_start []) (mark_starts starts x) ≡ eligible_in starts x
  eligible_again = same_chunks 0 x.chunks

-- so has a subset of xorbs that was written without files
pub subset_again : (files : List MDBFileInfo) (kept : List MDBXorbInfo)
    → eligible_hashes [] (map (mark_starts (is_start files)) kept) ≡ ascending_hashes (flat_map (eligible_in (is_start files)) kept)
subset_again files kept = ap ascending_hashes (each kept)
  where
    each : (xs : List MDBXorbInfo) → flat_map (eligible_in (is_start [])) (map (mark_starts (is_start files)) xs) ≡ flat_map (eligible_in (is_start files)) xs
    each [] = refl
    each (x ∷ xs) = λ i. eligible_again (is_start files) x i ++ each xs i

-- verification rows that are left out are left out once
and_false : (b : Bool) → (b && false) ≡ false
and_false true = refl
and_false false = refl

all_wanted : (r : MDBFileInfo) → with_verification_if true r ≡ r
all_wanted r = ap (λ b. if b then without_verification r else r) (and_false (has_verification r.metadata.file_flags))

none_left : (r : MDBFileInfo) → has_verification r.metadata.file_flags ≡ false → with_verification_if false r ≡ r
none_left r none = ap (λ b. if b && true then without_verification r else r) none

-- so are auxiliary rows
without_aux-again : (r : MDBFileInfo) → without_aux (without_aux r) ≡ without_aux r
without_aux-again r =
    let flags = with_flag AuxExt false r.metadata.file_flags in
    let same : with_flag AuxExt false flags ≡ flags = ap (λ (b : Bool). flags - (if b then 536870912 else 0) + 0) (announces-without_aux r.metadata.file_flags AuxExt) ∙ omega arith in
    with_parts_if-again (all_but AuxExt) (without_aux r).metadata r (without_aux (without_aux r)).metadata (λ i. record r.metadata { file_flags = same i })

none_verified : (r : MDBFileInfo) → has_verification (with_verification_if false r).metadata.file_flags ≡ false
none_verified r = either (has_verification r.metadata.file_flags) refl
  where
    either : (b : Bool) → has_verification r.metadata.file_flags ≡ b → has_verification (if b && true then without_verification r else r).metadata.file_flags ≡ false
    either true is = announces-flags_of (λ part. all_but Verification part && announces r.metadata.file_flags part) Verification
    either false is = is

wanted_again : (wanted aux : Bool) (r : MDBFileInfo) → with_verification_if wanted (with_aux_if aux (with_verification_if wanted r)) ≡ with_aux_if aux (with_verification_if wanted r)
wanted_again true aux r = all_wanted (with_aux_if aux (with_verification_if true r))
wanted_again false true r = none_left (with_verification_if false r) (none_verified r)
wanted_again false false r = none_left (without_aux (with_verification_if false r)) (announces-without_aux (with_verification_if false r).metadata.file_flags Verification ∙ none_verified r)

kept_again : (kept : KeptParts) (r : MDBFileInfo) → as_kept kept (as_kept kept r) ≡ as_kept kept r
kept_again kept r = ap (with_aux_if kept.aux_ext) (wanted_again kept.verification kept.aux_ext r) ∙ either kept.aux_ext
  where
    either : (b : Bool) → with_aux_if b (with_aux_if b (with_verification_if kept.verification r)) ≡ with_aux_if b (with_verification_if kept.verification r)
    either true = refl
    either false = without_aux-again (with_verification_if kept.verification r)

all_kept_again : (kept : KeptParts) (files : List MDBFileInfo) → map (as_kept kept) (map (as_kept kept) files) ≡ map (as_kept kept) files
all_kept_again kept [] = refl
all_kept_again kept (r ∷ files) = λ i. kept_again kept r i ∷ all_kept_again kept files i

-- and change no start
same_start : (kept : KeptParts) (r : MDBFileInfo) → start_of_file (as_kept kept r) ≡ start_of_file r
same_start kept r = ap starts_in (segments_kept kept r)
  where
    starts_in : List FileDataSequenceEntry → List FileStart
    starts_in segments = map (λ s. record { xorb_hash = s.xorb_hash; chunk_index = s.chunk_index_start }) (take 1 segments)

same_starts : (kept : KeptParts) (files : List MDBFileInfo) → flat_map start_of_file (map (as_kept kept) files) ≡ flat_map start_of_file files
same_starts kept [] = refl
same_starts kept (r ∷ files) = λ i. same_start kept r i ++ same_starts kept files i

is_start-as_kept : (kept : KeptParts) (files : List MDBFileInfo) → is_start (map (as_kept kept) files) ≡ is_start files
is_start-as_kept kept files = λ i at. list_any (eq_by_cmp start_cmp at) (same_starts kept files i)

-- marks that are set are set once
set_again : (flags : ℕ) → with_mark true (with_mark true flags) ≡ with_mark true flags
set_again flags = omega arith

marked_again : (b : Bool) (c : XorbChunkSequenceEntry) → marked_if b (marked_if b c) ≡ marked_if b c
marked_again true c = ap (λ n. record c { flags = n }) (set_again c.flags)
marked_again false c = refl

marks_again : (starts : FileStart → Bool) (x : MDBXorbInfo) → mark_starts starts (mark_starts starts x) ≡ mark_starts starts x
marks_again starts x = ap (λ cs. record x { chunks = cs }) (each 0 x.chunks)
  where
    each : (n : ℕ) (cs : List XorbChunkSequenceEntry)
        → map (mark starts x) (enumerate_from n (map (mark starts x) (enumerate_from n cs))) ≡ map (mark starts x) (enumerate_from n cs)
    each n [] = refl
    each n (c ∷ cs) = λ i. marked_again (starts (chunk_of x n)) c i ∷ each (n + 1) cs i

all_marks_again : (starts : FileStart → Bool) (xorbs : List MDBXorbInfo) → map (mark_starts starts) (map (mark_starts starts) xorbs) ≡ map (mark_starts starts) xorbs
all_marks_again starts [] = refl
all_marks_again starts (x ∷ xorbs) = λ i. marks_again starts x i ∷ all_marks_again starts xorbs i

-- what was written, read and written again, has the same files and the same xorbs
pub written_again : (kept : KeptParts) (files : List MDBFileInfo) (xorbs : List MDBXorbInfo)
    → (map (as_kept kept) (map (as_kept kept) files) ≡ map (as_kept kept) files)
    × (map (mark_starts (is_start (map (as_kept kept) files))) (map (mark_starts (is_start files)) xorbs) ≡ map (mark_starts (is_start files)) xorbs)
written_again kept files xorbs = (
  all_kept_again kept files,
  ap (λ s. map (mark_starts s) (map (mark_starts (is_start files)) xorbs)) (is_start-as_kept kept files) ∙ all_marks_again (is_start files) xorbs,
)
