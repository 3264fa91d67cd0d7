-- The records of a shard make it again. Reading them fails for the causes that are stated.
use Rattle.std.proofs.Common.{◌≡◌, ◌⊎◌, inl, inr, ℕ, ◌+◌, ◌≤◌, List, [], ◌∷◌, map, drop, refl, sym, ap, ◌∙◌, subst, arith}
use Rattle.std.specs.Prelude.{All, sum_by}
use Rattle.std.specs.FinMap.{entries, entries_sorted, values, empty, insert}
use Rattle.std.proofs.lemmas.List.Elements.{All-drop}
use Rattle.xet_base.specs.declared.merklehash.DataHash.{DataHash}
use Rattle.xet_base.proofs.HashOrder.{hash_cmp-IsTotalOrder, hash_cmp-IsAntisymmetric}
use Rattle.xet_base.specs.Hash.{hash_cmp}
use Rattle.xet_base.specs.MemorySource.{in_memory}
use Rattle.xet_core_structures.specs.declared.error.CoreError.{CoreError}
use Rattle.xet_core_structures.specs.declared.error.CoreError.TheVariants.{OutOfMemory}
use Rattle.xet_core_structures.specs.declared.shard_format.MDBShardInfo.{MDBShardInfo}
use Rattle.xet_core_structures.specs.declared.source.MemorySource.{MemorySource}
use Rattle.xet_core_structures.specs.Ends.{HasHeaderAndFooter}
use Rattle.xet_core_structures.specs.KeyedExport.{BadSection}
use Rattle.xet_core_structures.specs.SectionReading.{ReadsSection, SectionFails, files_of}
use Rattle.xet_core_structures.specs.Source.{Source, DeviceFailure, FailedBy, bytes_left, after_seek}
use Rattle.xet_core_structures.specs.declared.file_structs.MDBFileInfo.{MDBFileInfo}
use Rattle.xet_core_structures.specs.declared.xorb_structs.MDBXorbInfo.{MDBXorbInfo}
use Rattle.xet_core_structures.specs.FileRecord.{row_count, IsWellFormed}
use Rattle.xet_core_structures.specs.XorbRecord.{xorb_records, xorb_row_count, IsXorb}
use Rattle.xet_core_structures.specs.Shard.{Shard, IsShard, file_hash_of, xorb_hash_of, empty_shard, add_file, add_xorb}
use Rattle.xet_records.specs.Limits.{MAX_ROWS}
use Rattle.xet_shards.proofs.Content.Maps.{sum-insert, values-empty}
use Rattle.shard_bytes.specs.Recording.{with_files, with_xorbs, shard_of, CanAddFiles, CanAddXorbs, CanAddRecords, RefusesRecords}
use Rattle.shard_bytes.proofs.Inserting.{inserts, inserts-entries, all_new, StaysWithin, stays_within}

-- records with their keys
keys_are_hashes : {R : Type 0} (hash_of : R → DataHash) (es : List (DataHash × R)) → All (λ e. e.0 ≡ hash_of e.1) es
    → map (λ r. (hash_of r, r)) (map (λ e. e.1) es) ≡ es
keys_are_hashes hash_of [] all = refl
keys_are_hashes hash_of (e ∷ es) all = λ i. (sym (all 0 e (omega arith)) i, e.1) ∷ keys_are_hashes hash_of es (All-drop (λ d. d.0 ≡ hash_of d.1) 1 (e ∷ es) all) i

files_inserted : (s : Shard) (rs : List MDBFileInfo) → with_files s rs ≡ record s { files = inserts s.files (map (λ r. (file_hash_of r, r)) rs) }
files_inserted s [] = refl
files_inserted s (r ∷ rs) = files_inserted (add_file s r) rs

xorbs_inserted : (s : Shard) (rs : List MDBXorbInfo) → with_xorbs s rs ≡ record s { xorbs = inserts s.xorbs (map (λ r. (xorb_hash_of r, r)) rs) }
xorbs_inserted s [] = refl
xorbs_inserted s (r ∷ rs) = xorbs_inserted (add_xorb s r) rs

module _ (s : Shard) (is : IsShard s) where
  files_again : inserts empty (map (λ r. (file_hash_of r, r)) (values s.files)) ≡ s.files
  files_again = ap (inserts empty) (keys_are_hashes file_hash_of (entries s.files) is.files.keyed) ∙ inserts-entries hash_cmp-IsTotalOrder hash_cmp-IsAntisymmetric s.files

  xorbs_again : inserts empty (map (λ r. (xorb_hash_of r, r)) (values s.xorbs)) ≡ s.xorbs
  xorbs_again = ap (inserts empty) (keys_are_hashes xorb_hash_of (entries s.xorbs) is.xorbs.keyed) ∙ inserts-entries hash_cmp-IsTotalOrder hash_cmp-IsAntisymmetric s.xorbs

  pub shard_again : shard_of (values s.files) (values s.xorbs) ≡ s
  shard_again =
      ap (λ t. with_xorbs t (values s.xorbs)) (files_inserted empty_shard (values s.files))
      ∙ xorbs_inserted (record empty_shard { files = inserts empty (map (λ r. (file_hash_of r, r)) (values s.files)) }) (values s.xorbs)
      ∙ λ i. record { files = files_again i; xorbs = xorbs_again i }

can_add_files : (s : Shard) (es : List (DataHash × MDBFileInfo)) → All (λ e. e.0 ≡ file_hash_of e.1) es → All (λ e. IsWellFormed e.1) es
    → StaysWithin hash_cmp-IsTotalOrder hash_cmp-IsAntisymmetric row_count MAX_ROWS (sum-insert hash_cmp-IsTotalOrder hash_cmp-IsAntisymmetric row_count) s.files es → CanAddFiles s (map (λ e. e.1) es)
can_add_files s [] keys well within = tt
can_add_files s (e ∷ es) keys well within =
    let key : e.0 ≡ file_hash_of e.1 = keys 0 e (omega arith) in
    let rest = subst (λ k. StaysWithin hash_cmp-IsTotalOrder hash_cmp-IsAntisymmetric row_count MAX_ROWS (sum-insert hash_cmp-IsTotalOrder hash_cmp-IsAntisymmetric row_count) (insert s.files k e.1) es) key within.1 in (
      record { well_formed = well 0 e (omega arith); rows = subst (λ k. sum_by row_count (values (insert s.files k e.1)) ≤ MAX_ROWS) key within.0 },
      can_add_files (add_file s e.1) es (All-drop (λ d. d.0 ≡ file_hash_of d.1) 1 (e ∷ es) keys) (All-drop (λ d. IsWellFormed d.1) 1 (e ∷ es) well) rest,
    )

can_add_xorbs : (s : Shard) (es : List (DataHash × MDBXorbInfo)) → All (λ e. e.0 ≡ xorb_hash_of e.1) es → All (λ e. IsXorb e.1) es
    → StaysWithin hash_cmp-IsTotalOrder hash_cmp-IsAntisymmetric xorb_row_count MAX_ROWS (sum-insert hash_cmp-IsTotalOrder hash_cmp-IsAntisymmetric xorb_row_count) s.xorbs es → CanAddXorbs s (map (λ e. e.1) es)
can_add_xorbs s [] keys well within = tt
can_add_xorbs s (e ∷ es) keys well within =
    let key : e.0 ≡ xorb_hash_of e.1 = keys 0 e (omega arith) in
    let rest = subst (λ k. StaysWithin hash_cmp-IsTotalOrder hash_cmp-IsAntisymmetric xorb_row_count MAX_ROWS (sum-insert hash_cmp-IsTotalOrder hash_cmp-IsAntisymmetric xorb_row_count) (insert s.xorbs k e.1) es) key within.1 in (
      record { well_formed = well 0 e (omega arith); rows = subst (λ k. sum_by xorb_row_count (values (insert s.xorbs k e.1)) ≤ MAX_ROWS) key within.0 },
      can_add_xorbs (add_xorb s e.1) es (All-drop (λ d. d.0 ≡ xorb_hash_of d.1) 1 (e ∷ es) keys) (All-drop (λ d. IsXorb d.1) 1 (e ∷ es) well) rest,
    )

-- nothing and the rows of a shard are within the bound
from_nothing : (none rows : ℕ) → none ≡ 0 → rows ≤ MAX_ROWS → none + rows ≤ MAX_ROWS
from_nothing none rows is fits = omega (arith, is, fits)

module _ (s : Shard) (is : IsShard s) where
  pub can_add_shard : CanAddRecords (values s.files) (values s.xorbs)
  can_add_shard =
      let total = hash_cmp-IsTotalOrder in
      let exact = hash_cmp-IsAntisymmetric in
      let files = with_files empty_shard (values s.files) in
      let no_xorbs : files.xorbs ≡ empty = ap (λ (t : Shard). t.xorbs) (files_inserted empty_shard (values s.files)) in (
        can_add_files empty_shard (entries s.files) is.files.keyed is.files.well_formed
            (stays_within total exact row_count MAX_ROWS (sum-insert total exact row_count) empty (entries s.files) (entries_sorted s.files) (all_new total exact (entries s.files))
            (from_nothing _ _ (ap (sum_by row_count) (values-empty MDBFileInfo hash_cmp)) is.file_rows)),
        can_add_xorbs files (entries s.xorbs) is.xorbs.keyed is.xorbs.well_formed
            (subst (λ m. StaysWithin total exact xorb_row_count MAX_ROWS (sum-insert total exact xorb_row_count) m (entries s.xorbs)) (sym no_xorbs)
            (stays_within total exact xorb_row_count MAX_ROWS (sum-insert total exact xorb_row_count) empty (entries s.xorbs) (entries_sorted s.xorbs) (all_new total exact (entries s.xorbs))
            (from_nothing _ _ (ap (sum_by xorb_row_count) (values-empty MDBXorbInfo hash_cmp)) is.xorb_rows))),
      )

-- on the bytes of a shard in memory, a section that is not read means a failed allocation
pub only_memory : (old new : MemorySource) (e : CoreError) → DeviceFailure (in_memory old) (in_memory new) e ⊎ (e ≡ OutOfMemory) → e ≡ OutOfMemory
only_memory old new e (inl failed) = absurd (omega (arith, failed.0))
only_memory old new e (inr is) = is

-- the xorb section is not read, after the file section was
pub xorbs_not_read : (bytes : List ℕ) (info : MDBShardInfo) → HasHeaderAndFooter bytes info → (before after new : MemorySource) (at : ℕ) (files : List MDBFileInfo) (e : CoreError) → before.bytes.now ≡ bytes
    → ReadsSection (files_of info) (in_memory before) (in_memory after) at files → SectionFails xorb_records (in_memory after) (in_memory new) info.metadata.xorb_info_offset e → RefusesRecords bytes e
xorbs_not_read bytes info ends before after new at files e start read fails = by_cause fails.cause
  where
    same : after.bytes.now ≡ bytes
    same = ap (λ (s : Source). s.bytes) read.after ∙ start

    by_cause : FailedBy (BadSection xorb_records (bytes_left (after_seek (in_memory after) info.metadata.xorb_info_offset))) (after_seek (in_memory after) info.metadata.xorb_info_offset) (in_memory new) e → RefusesRecords bytes e
    by_cause (inl failed) = absurd (omega (arith, failed.0))
    by_cause (inr (works, bad)) = inr (info, ends, inr (subst (λ bs. BadSection xorb_records (drop info.metadata.xorb_info_offset bs) e) same bad))
