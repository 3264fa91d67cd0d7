-- Unions of two shards that are not written yet, by those of their lists.
use Rattle.std.proofs.Common.{◌≡◌, ◌⊎◌, inl, inr, true, List, [], ◌∷◌, map, Option, refl, sym, ap, ◌∙◌, subst}
use Rattle.xet_base.specs.declared.error.CoreError.{CoreError}
use Rattle.xet_base.specs.declared.error.CoreError.TheVariants.{OutOfMemory}
use Rattle.xet_base.specs.Errors.{IsInvalidShard}
use Rattle.xet_records.specs.declared.file_structs.MDBFileInfo.{MDBFileInfo}
use Rattle.xet_records.specs.declared.xorb_structs.MDBXorbInfo.{MDBXorbInfo}
use Rattle.xet_records.specs.FileRecord.{file_records, as_read}
use Rattle.xet_records.specs.XorbRecord.{xorb_records}
use Rattle.xet_shards.specs.declared.shard_format.ends.options.LayoutOptions.{LayoutOptions}
use Rattle.xet_core_structures.specs.TwoShards.ByteResults.{keyed_options}
use Rattle.placed_shards.specs.declared.placed_shard.PlacedShard.{PlacedShard}
use Rattle.placed_shards.specs.Content.{content}
use Rattle.placed_shards.specs.StoredFiles.{files_as}
use Rattle.placed_shards.specs.Sets.{CombinesToSection}
use Rattle.placed_shards.specs.Unions.{Unites, Refuses}

same_list : {X : Type 0} (xs : List X) → map (λ x. x) xs ≡ xs
same_list [] = refl
same_list (x ∷ xs) = ap (λ ys. x ∷ ys) (same_list xs)

-- the lists of a shard, as reading returns their records
pub files_read : (s : PlacedShard) (files : List MDBFileInfo) → s.as_read ≡ true → files ≡ s.files.items → map as_read files ≡ (content s).files
files_read s files read is = ap (map as_read) is ∙ ap (λ b. files_as b s.files.items) (sym read)

pub xorbs_read : (s : PlacedShard) (xorbs : List MDBXorbInfo) → xorbs ≡ s.xorbs.items → map xorb_records.as_read xorbs ≡ (content s).xorbs
xorbs_read s xorbs is = same_list xorbs ∙ is

module _ (F : Option MDBFileInfo → Option MDBFileInfo → Option MDBFileInfo → Type 0) (X : Option MDBXorbInfo → Option MDBXorbInfo → Option MDBXorbInfo → Type 0)
    (s t : PlacedShard) (read_1 : s.as_read ≡ true) (read_2 : t.as_read ≡ true) (same : s.options.key ≡ t.options.key) where
  module _ (fs gs : List MDBFileInfo) (fs_are : fs ≡ s.files.items) (gs_are : gs ≡ t.files.items) where
    pub files_refused : (e : CoreError) → (e ≡ OutOfMemory) ⊎ (IsInvalidShard e × ((zs : List MDBFileInfo) → ¬ CombinesToSection file_records F (map as_read fs) (map as_read gs) zs)) → Refuses F X (content s) (content t) e
    files_refused e (inl none) = inl none
    files_refused e (inr (invalid, never)) = inr (inr (
      invalid,
      same,
      λ made unites. never made.files (subst (λ p. p) (λ i. CombinesToSection file_records F (sym (files_read s fs read_1 fs_are) i) (sym (files_read t gs read_2 gs_are) i) made.files) unites.files),
    ))

    module _ (xs ys : List MDBXorbInfo) (xs_are : xs ≡ s.xorbs.items) (ys_are : ys ≡ t.xorbs.items) where
      pub xorbs_refused : (e : CoreError) → (e ≡ OutOfMemory) ⊎ (IsInvalidShard e × ((zs : List MDBXorbInfo) → ¬ CombinesToSection xorb_records X (map xorb_records.as_read xs) (map xorb_records.as_read ys) zs)) → Refuses F X (content s) (content t) e
      xorbs_refused e (inl none) = inl none
      xorbs_refused e (inr (invalid, never)) = inr (inr (
        invalid,
        same,
        λ made unites. never made.xorbs (subst (λ p. p) (λ i. CombinesToSection xorb_records X (sym (xorbs_read s xs xs_are) i) (sym (xorbs_read t ys ys_are) i) made.xorbs) unites.xorbs),
      ))

      pub both_united : (files : List MDBFileInfo) (xorbs : List MDBXorbInfo) (options : LayoutOptions) → CombinesToSection file_records F (map as_read fs) (map as_read gs) (map as_read files)
          → CombinesToSection xorb_records X (map xorb_records.as_read xs) (map xorb_records.as_read ys) (map xorb_records.as_read xorbs) → options ≡ keyed_options s.options.key
          → Unites F X (content s) (content t) (record { files = map as_read files; xorbs = xorbs; options = options })
      both_united files xorbs options united more options_are = record {
        same_key = same;
        files = subst (λ p. p) (λ i. CombinesToSection file_records F (files_read s fs read_1 fs_are i) (files_read t gs read_2 gs_are i) (map as_read files)) united;
        xorbs = subst (λ p. p) (λ i. CombinesToSection xorb_records X (xorbs_read s xs xs_are i) (xorbs_read t ys ys_are i) (same_list xorbs i)) more;
        options_are = options_are;
      }
