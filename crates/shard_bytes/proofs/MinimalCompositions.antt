-- What is written of minimal shards and subsets.
use Rattle.std.proofs.Common.{◌≡◌, ◌⊎◌, ◌↔◌, inl, inr, ℕ, Bool, true, false, true≢false, List, [], ◌∷◌, map, refl, sym, ap, ◌∙◌, subst, None}
use Rattle.std.specs.Prelude.{IsTrue}
use Rattle.std.specs.List.{Any}
use Rattle.xet_core_structures.specs.declared.error.CoreError.{CoreError}
use Rattle.xet_core_structures.specs.declared.file_structs.MDBFileInfo.{MDBFileInfo}
use Rattle.xet_core_structures.specs.declared.file_structs.KeptParts.{KeptParts}
use Rattle.xet_core_structures.specs.declared.xorb_structs.MDBXorbInfo.{MDBXorbInfo}
use Rattle.xet_core_structures.specs.FileRecord.{file_records}
use Rattle.xet_core_structures.specs.KeyedExport.{ExportCase}
use Rattle.xet_core_structures.specs.MinimalShard.{mark_starts, is_start, minimal_options, IsKept}
use Rattle.xet_core_structures.specs.Shard.{xorb_hash_of}
use Rattle.xet_core_structures.specs.View.{as_kept, LacksVerification}
use Rattle.xet_core_structures.specs.WithOptions.{FitsSection}
use Rattle.xet_records.specs.declared.record_reader.FormatVersion.{FormatVersion}
use Rattle.xet_records.specs.declared.record_reader.FormatVersion.TheVariants.{V2, V3}
use Rattle.xet_shards.specs.declared.shard_writer.LayoutOptions.{LayoutOptions}
use Rattle.xet_shards.specs.Read.SectionsBehindHeader.{HasSections}
use Rattle.xet_shards.proofs.StreamingShard.MinimalReading.{none_fit}
use Rattle.placed_shards.specs.Anew.{HasInstead}
use Rattle.placed_shards.specs.Content.{Content, content, content_layout, HasFilesIn}
use Rattle.placed_shards.specs.StoredFiles.{files_as}
use Rattle.placed_shards.specs.declared.placed_shard.PlacedShard.{PlacedShard}
use Rattle.shard_bytes.specs.Minimal.{Keeps, MinimalBytes, IsMinimalOf, SubsetBytes, IsSubsetOf}
use Rattle.shard_bytes.specs.declared.minimal.KeptXorbs.{KeptXorbs}
use Rattle.shard_bytes.specs.declared.minimal.KeptXorbs.TheVariants.{All as all_xorbs}
use Rattle.shard_bytes.specs.declared.minimal.Subset.{Subset}
use Rattle.shard_bytes.specs.Outcomes.{InMemory}
use Rattle.shard_bytes.proofs.Compositions.{IsNotWritten}
use Rattle.shard_bytes.proofs.MinimalSizes.{section_kept}

-- a minimal shard, step by step
module _ (kept : KeptParts) (now : ℕ) (bytes : List ℕ) where
  pub minimal_steps : (opened marked parted made : PlacedShard) (options : LayoutOptions) → HasSections bytes opened.files.items opened.xorbs.items → opened.as_read ≡ false
      → ¬ Any (LacksVerification kept.verification) opened.files.items → HasInstead opened.files.items (map (mark_starts (is_start opened.files.items)) opened.xorbs.items) opened marked
      → HasInstead (map (as_kept kept) marked.files.items) marked.xorbs.items marked parted → content made ≡ record (content parted) { options = options } → options ≡ minimal_options now None
      → IsMinimalOf kept now bytes (content made)
  minimal_steps opened marked parted made options sections read none first second third options_are = (
    record { files = opened.files.items; xorbs = opened.xorbs.items },
    sections,
    none,
    third ∙ (λ i. record { files = files_are i; xorbs = (second.xorbs ∙ first.xorbs) i; options = options_are i }),
  )
    where
      files_are : files_as parted.as_read parted.files.items ≡ map (as_kept kept) opened.files.items
      files_are = ap (λ b. files_as b parted.files.items) (second.as_read ∙ first.as_read ∙ read) ∙ second.files ∙ ap (map (as_kept kept)) first.files

  module _ (made : Content) (is : IsMinimalOf kept now bytes made) where
    pub minimal_made : MinimalBytes kept now bytes (content_layout V3 made)
    minimal_made = (is.0, is.1, is.2, ap (content_layout V3) is.3)

    pub minimal_fits : FitsSection file_records made.files
    minimal_fits = subst (λ (c : Content). FitsSection file_records c.files) (sym is.3) (section_kept bytes is.0 is.1 kept)

-- no file lacks verification rows that are wanted
pub none_found : (wanted found : Bool) (files : List MDBFileInfo) → wanted ≡ true → (IsTrue found ↔ Any (LacksVerification true) files) → found ≡ false → ¬ Any (LacksVerification wanted) files
none_found wanted found files is decides not any = true≢false (sym (decides.1 (subst (λ b. Any (LacksVerification b) files) is any)) ∙ not)

pub none_wanted : (wanted : Bool) (files : List MDBFileInfo) → wanted ≡ false → ¬ Any (LacksVerification wanted) files
none_wanted wanted files is any = none (subst (λ b. Any (LacksVerification b) files) is any)
  where
    none : ¬ Any (LacksVerification false) files
    none (k, x, below, at, lacks) = true≢false (sym lacks)

-- a subset, step by step
module _ (subset : Subset) (bytes : List ℕ) where
  pub subset_steps : (opened chosen marked emptied made : PlacedShard) (options : LayoutOptions) → HasSections bytes opened.files.items opened.xorbs.items
      → IsKept (λ x accepted. IsTrue accepted ↔ Keeps subset.kept (xorb_hash_of x)) opened.xorbs.items chosen.xorbs.items → HasInstead opened.files.items chosen.xorbs.items opened chosen
      → HasInstead chosen.files.items (map (mark_starts (is_start chosen.files.items)) chosen.xorbs.items) chosen marked → content emptied ≡ record (content marked) { files = [] }
      → content made ≡ record (content emptied) { options = options } → options ≡ minimal_options subset.now subset.expiry → IsSubsetOf subset bytes (content made)
  subset_steps opened chosen marked emptied made options sections kept first second third fourth options_are = (
    record { files = opened.files.items; xorbs = opened.xorbs.items },
    chosen.xorbs.items,
    sections,
    kept,
    fourth ∙ ap (λ (c : Content). record c { options = options }) third
        ∙ (λ i. record { files = []; xorbs = (second.xorbs ∙ ap (λ fs. map (mark_starts (is_start fs)) chosen.xorbs.items) first.files) i; options = options_are i }),
  )

  module _ (made : Content) (is : IsSubsetOf subset bytes made) where
    pub subset_made : SubsetBytes subset bytes (content_layout V3 made)
    subset_made = (is.0, is.1, is.2, is.3, ap (content_layout V3) is.4)

    pub subset_fits : FitsSection file_records made.files
    subset_fits = subst (λ (c : Content). FitsSection file_records c.files) (sym is.4) (none_fit file_records)

    has_none : (version : FormatVersion) → HasFilesIn version made
    has_none version = subst (HasFilesIn version) (sym is.4) (always version)
      where
        always : (v : FormatVersion) → HasFilesIn v record { files = []; xorbs = map (mark_starts (is_start is.0.files)) is.1; options = minimal_options subset.now subset.expiry }
        always V2 = refl
        always V3 = tt

    -- each version has no files
    pub subset_refused : (version : FormatVersion) (e : CoreError) → IsNotWritten version made e → InMemory (ExportCase bytes) e
    subset_refused version e (inl memory) = inl memory
    subset_refused version e (inr (invalid, none)) = absurd (none (has_none version))

-- all xorbs are kept
pub keeps_all : (kept : KeptXorbs) → kept ≡ all_xorbs → (xs : List MDBXorbInfo) → IsKept (λ x accepted. IsTrue accepted ↔ Keeps kept (xorb_hash_of x)) xs xs
keeps_all kept is [] = refl
keeps_all kept is (x ∷ xs) = (true, (λ _. subst (λ k. Keeps k (xorb_hash_of x)) (sym is) tt, λ _. refl), xs, keeps_all kept is xs, refl)
