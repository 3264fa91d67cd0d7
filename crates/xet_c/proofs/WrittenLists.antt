-- The shard of the records in lists, as it is written.
use Rattle.std.proofs.Common.{◌≡◌, ◌⊎◌, inl, inr, ℕ, List, Some}
use Rattle.xet_core_structures.specs.declared.error.CoreError.{CoreError}
use Rattle.xet_core_structures.specs.declared.error.CoreError.TheVariants.{InvalidArguments, OutOfMemory}
use Rattle.xet_core_structures.specs.declared.file_structs.MDBFileInfo.{MDBFileInfo}
use Rattle.xet_core_structures.specs.declared.record_reader.FormatVersion.{FormatVersion}
use Rattle.xet_core_structures.specs.declared.xorb_structs.MDBXorbInfo.{MDBXorbInfo}
use Rattle.xet_core_structures.specs.Layout.{layout_in}
use Rattle.xet_core_structures.specs.WrittenShard.{HasFilesIn}
use Rattle.shard_bytes.specs.Recording.{CanAddRecords, shard_of}
use Rattle.xet_c.specs.declared.listed.XetListedFile.{XetListedFile}
use Rattle.xet_c.specs.declared.listed.XetListedXorb.{XetListedXorb}
use Rattle.xet_c.specs.declared.segment.XetFileSegment.{XetFileSegment}
use Rattle.xet_c.specs.declared.walk.XetChunk.{XetChunk}
use Rattle.xet_c.specs.ListedRecords.{AddUp, AreListedFiles, AreListedXorbs, RefusesListed, WritesListed}

module _ (fs : List XetListedFile) (segments : List XetFileSegment) (xs : List XetListedXorb) (chunks : List XetChunk) (version : FormatVersion) where
  -- the counts of files do not add up, or memory is lacking
  pub no_files : (e : CoreError) → (e ≡ OutOfMemory) ⊎ ((e ≡ InvalidArguments) × (¬ AddUp (λ f. f.segments) fs segments)) → RefusesListed fs segments xs chunks version e
  no_files e (inl memory) = inl memory
  no_files e (inr (invalid, not)) = inr (invalid, inl not)

  -- the counts of xorbs do not add up, or memory is lacking
  pub no_xorbs : (e : CoreError) → (e ≡ OutOfMemory) ⊎ ((e ≡ InvalidArguments) × (¬ AddUp (λ x. x.chunks) xs chunks)) → RefusesListed fs segments xs chunks version e
  no_xorbs e (inl memory) = inl memory
  no_xorbs e (inr (invalid, not)) = inr (invalid, inr (inl not))

  module _ (files : List MDBFileInfo) (xorbs : List MDBXorbInfo) (files_are : AreListedFiles fs segments files) (xorbs_are : AreListedXorbs xs chunks xorbs) where
    -- no shard has the records in this version, or memory is lacking
    pub not_written : (e : CoreError) → ((e ≡ InvalidArguments) × (¬ (CanAddRecords files xorbs × HasFilesIn version (shard_of files xorbs)))) ⊎ (e ≡ OutOfMemory) → RefusesListed fs segments xs chunks version e
    not_written e (inl (invalid, not)) = inr (invalid, inr (inr (files, xorbs, files_are, xorbs_are, not)))
    not_written e (inr memory) = inl memory

    pub written : (expiry : ℕ) (out : List ℕ) → CanAddRecords files xorbs → HasFilesIn version (shard_of files xorbs) × (out ≡ layout_in version (shard_of files xorbs) (Some expiry)) → WritesListed fs segments xs chunks expiry version out
    written expiry out can (has, is) = record { files = files; xorbs = xorbs; files_are = files_are; xorbs_are = xorbs_are; can = can; has_files = has; bytes_are = is }
