-- How large minimal shards and subsets are, and that they are layouts in version 3.
use Rattle.std.proofs.Common.{◌≡◌, ◌≢◌, ℕ, ◌+◌, ◌*◌, ◌≤◌, Bool, List, [], length, map, Option, None, refl, sym, ◌∙◌, subst, arith}
use Rattle.std.specs.List.{All}
use Rattle.std.specs.Prelude.{◌↔◌, IsTrue, true, false, not, ◌&&◌, if◌then◌else◌}
use Rattle.std.proofs.lemmas.List.Elements.{All-map, All-weaker}
use Rattle.xet_base.specs.Hash.{all_ones}
use Rattle.xet_records.specs.declared.file_structs.MDBFileInfo.{MDBFileInfo}
use Rattle.xet_records.specs.declared.xorb_structs.MDBXorbInfo.{MDBXorbInfo}
use Rattle.xet_records.specs.FileRecord.{file_records, has_verification, FitsItsHeader, FitsRecord, IsStored}
use Rattle.xet_records.specs.declared.file_structs.view.KeptParts.{KeptParts}
use Rattle.xet_records.specs.View.{as_kept, with_aux_if, without_verification}
use Rattle.xet_records.specs.XorbRecord.{xorb_records}
use Rattle.xet_records.proofs.KeptParts.{kept-whole}
use Rattle.xet_shards.specs.Write.Layout.{layout_of}
use Rattle.xet_shards.specs.Write.Section.{total_rows}
use Rattle.xet_shards.specs.Write.WithOptions.{FitsSection}
use Rattle.xet_shards.specs.Content.Shard.{xorb_hash_of}
use Rattle.xet_shards.specs.StreamingShard.MinimalShard.{MinimalShard, mark_starts, is_start, minimal_options, IsKept}
use Rattle.xet_shards.proofs.ShardInMemory.Sums.{sum-mapped}
use Rattle.xet_shards.proofs.StreamingShard.MinimalWriting.{rows_marked, rows_kept, rows_as_kept, fit_as_kept}
use Rattle.xet_shards.proofs.Write.XorbLayouts.{length-with_options}
use Rattle.shard_bytes.specs.declared.minimal.Subset.{Subset}
use Rattle.shard_bytes.specs.Minimal.{HasRecordsOf, Keeps, MinimalBytes, SubsetBytes}
use Rattle.shard_bytes.specs.ResultSizes.{IsMinimalSize}
use Rattle.shard_bytes.proofs.RewriteSizes.{rows_there, files_fit}

-- a file keeps its hash, and fits its header, with the parts that are kept
abbrev IsWholeFile : MDBFileInfo → Type 0
IsWholeFile r = (r.metadata.file_hash ≢ all_ones) × FitsItsHeader r

hash_kept : (kept : KeptParts) (r : MDBFileInfo) → (as_kept kept r).metadata.file_hash ≡ r.metadata.file_hash
hash_kept kept r = either kept.aux_ext (has_verification r.metadata.file_flags && not kept.verification)
  where
    first : (leaves_out : Bool) → (if leaves_out then without_verification r else r).metadata.file_hash ≡ r.metadata.file_hash
    first true = refl
    first false = refl

    either : (aux leaves_out : Bool) → (with_aux_if aux (if leaves_out then without_verification r else r)).metadata.file_hash ≡ r.metadata.file_hash
    either true leaves_out = first leaves_out
    either false leaves_out = first leaves_out

file_kept : (kept : KeptParts) (r : MDBFileInfo) → IsStored r → IsWholeFile (as_kept kept r)
file_kept kept r stored = (λ (ones : (as_kept kept r).metadata.file_hash ≡ all_ones). stored.is_file (sym (hash_kept kept r) ∙ ones), kept-whole kept r stored.whole)

-- the bytes have a header and both sections
module _ (bytes : List ℕ) (m : MinimalShard) (holds : HasRecordsOf bytes m) where
  all_rows : 48 * (total_rows file_records m.files + total_rows xorb_records m.xorbs + 3) ≤ length bytes
  all_rows = rows_there bytes holds.header.version m.files m.xorbs holds.file_section holds.xorb_section

  read_fit : FitsSection file_records m.files
  read_fit = files_fit bytes holds.header.version m.files m.xorbs holds.file_section holds.xorb_section

  kept_fit : (kept : KeptParts) → All FitsRecord (map (as_kept kept) m.files)
  kept_fit kept = fit_as_kept kept m.files read_fit.stored

  -- a section may hold the files with the parts that are kept
  pub section_kept : (kept : KeptParts) → FitsSection file_records (map (as_kept kept) m.files)
  section_kept kept =
      let are_files = All-map IsWholeFile (as_kept kept) m.files (All-weaker IsStored (λ r. IsWholeFile (as_kept kept r)) (file_kept kept) m.files read_fit.stored) in
      record {
        stored = λ k d below. record { is_file = (are_files k d below).0; whole = (are_files k d below).1; widths = kept_fit kept k d below };
        rows = omega (arith, rows_as_kept kept m.files, read_fit.rows);
      }

  pub size_of_minimal : (kept : KeptParts) (now : ℕ)
      → IsMinimalSize bytes (length (layout_of (map (as_kept kept) m.files) (map (mark_starts (is_start m.files)) m.xorbs) (minimal_options now None)))
  size_of_minimal kept now =
      omega (
        arith,
        length-with_options (map (as_kept kept) m.files) (map (mark_starts (is_start m.files)) m.xorbs) (minimal_options now None) (kept_fit kept),
        rows_as_kept kept m.files,
        sum-mapped (mark_starts (is_start m.files)) xorb_records.row_count (λ x. omega (arith, rows_marked (is_start m.files) x)) m.xorbs,
        all_rows,
      )

  pub size_of_subset : (answers : MDBXorbInfo → Bool → Type 0) (kept : List MDBXorbInfo) (now : ℕ) (expiry : Option ℕ) → IsKept answers m.xorbs kept
      → IsMinimalSize bytes (length (layout_of [] (map (mark_starts (is_start m.files)) kept) (minimal_options now expiry)))
  size_of_subset answers kept now expiry is =
      omega (
        arith,
        length-with_options [] (map (mark_starts (is_start m.files)) kept) (minimal_options now expiry) (λ k r below. absurd (omega (arith, below))),
        rows_kept answers (is_start m.files) m.xorbs kept is,
        all_rows,
      )

-- so is what is made of them
module _ (bytes out : List ℕ) where
  pub minimal_size : (kept : KeptParts) (now : ℕ) → MinimalBytes kept now bytes out → IsMinimalSize bytes (length out)
  minimal_size kept now made = subst (λ (zs : List ℕ). IsMinimalSize bytes (length zs)) (sym made.3) (size_of_minimal bytes made.0 made.1 kept now)

  pub subset_size : (subset : Subset) → SubsetBytes subset bytes out → IsMinimalSize bytes (length out)
  subset_size subset made =
      subst (λ (zs : List ℕ). IsMinimalSize bytes (length zs)) (sym made.4)
      (size_of_subset bytes made.0 made.2 (λ x accepted. IsTrue accepted ↔ Keeps subset.kept (xorb_hash_of x)) made.1 subset.now subset.expiry made.3)
