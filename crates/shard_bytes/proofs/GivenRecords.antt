-- The shard that is made of records at once is the one into which they are inserted in turn.
use Rattle.std.proofs.Common.{◌≡◌, ◌⊎◌, ◌↔◌, inl, inr, ℕ, List, [], ◌∷◌, Option, refl, sym, ap, ◌∙◌, subst}
use Rattle.std.specs.FinMap.{empty}
use Rattle.xet_core_structures.specs.declared.error.CoreError.{CoreError}
use Rattle.xet_core_structures.specs.declared.error.CoreError.TheVariants.{InvalidArguments, OutOfMemory}
use Rattle.xet_core_structures.specs.declared.file_structs.MDBFileInfo.{MDBFileInfo}
use Rattle.xet_core_structures.specs.declared.xorb_structs.MDBXorbInfo.{MDBXorbInfo}
use Rattle.xet_core_structures.specs.FileRecord.{file_records, IsWellFormed}
use Rattle.xet_core_structures.specs.Layout.{layout_in}
use Rattle.xet_core_structures.specs.Shard.{Shard, empty_shard, add_file, add_xorb}
use Rattle.xet_core_structures.specs.WrittenShard.{HasFilesIn}
use Rattle.xet_core_structures.specs.XorbRecord.{xorb_records, IsXorb}
use Rattle.xet_records.specs.declared.record_reader.FormatVersion.{FormatVersion}
use Rattle.xet_records.specs.declared.record_reader.FormatVersion.TheVariants.{V2, V3}
use Rattle.xet_shards.specs.Write.Layout.{plain_options}
use Rattle.placed_shards.specs.Content.{Content, content_layout, HasFilesIn as HasContentFiles}
use Rattle.placed_shards.specs.Given.{with_records, CanInsertAll, plain_content, shard_of as given_shard, CanAddRecords as CanAddGiven}
use Rattle.shard_bytes.specs.Recording.{with_files, with_xorbs, shard_of, CanAddFiles, CanAddXorbs, CanAddRecords}
use Rattle.shard_bytes.proofs.Compositions.{IsWritten, IsNotWritten}

files_given : (s : Shard) (rs : List MDBFileInfo) → with_files s rs ≡ record s { files = with_records file_records s.files rs }
files_given s [] = refl
files_given s (r ∷ rs) = files_given (add_file s r) rs

xorbs_given : (s : Shard) (rs : List MDBXorbInfo) → with_xorbs s rs ≡ record s { xorbs = with_records xorb_records s.xorbs rs }
xorbs_given s [] = refl
xorbs_given s (r ∷ rs) = xorbs_given (add_xorb s r) rs

files_can : (s : Shard) (rs : List MDBFileInfo) → CanAddFiles s rs ↔ CanInsertAll file_records IsWellFormed s.files rs
files_can s [] = (λ can. tt, λ can. tt)
files_can s (r ∷ rs) =
    let rest = files_can (add_file s r) rs in
    (λ can. (can.0.well_formed, can.0.rows, rest.0 can.1), λ can. (record { well_formed = can.0; rows = can.1 }, rest.1 can.2))

xorbs_can : (s : Shard) (rs : List MDBXorbInfo) → CanAddXorbs s rs ↔ CanInsertAll xorb_records IsXorb s.xorbs rs
xorbs_can s [] = (λ can. tt, λ can. tt)
xorbs_can s (r ∷ rs) =
    let rest = xorbs_can (add_xorb s r) rs in
    (λ can. (can.0.well_formed, can.0.rows, rest.0 can.1), λ can. (record { well_formed = can.0; rows = can.1 }, rest.1 can.2))

has_files : (expiry : Option ℕ) (version : FormatVersion) (s : Shard) → HasContentFiles version (record (plain_content s) { options = plain_options expiry }) ↔ HasFilesIn version s
has_files expiry V2 s = (λ has. has, λ has. has)
has_files expiry V3 s = (λ has. tt, λ has. tt)

module _ (files : List MDBFileInfo) (xorbs : List MDBXorbInfo) where
  pub shard_given : given_shard files xorbs ≡ shard_of files xorbs
  shard_given = sym (ap (λ t. with_xorbs t xorbs) (files_given empty_shard files) ∙ xorbs_given (record empty_shard { files = with_records file_records empty files }) xorbs)

  pub can_given : CanAddRecords files xorbs ↔ CanAddGiven files xorbs
  can_given =
      let fs = files_can empty_shard files in
      let same = ap (λ (t : Shard). t.xorbs) (files_given empty_shard files) in
      let xs = subst (λ m. CanAddXorbs (with_files empty_shard files) xorbs ↔ CanInsertAll xorb_records IsXorb m xorbs) same (xorbs_can (with_files empty_shard files) xorbs) in
      (λ can. (fs.0 can.0, xs.0 can.1), λ can. (fs.1 can.0, xs.1 can.1))

  -- records that can't be inserted
  pub not_given : (version : FormatVersion) (e : CoreError) → ((e ≡ InvalidArguments) × (¬ CanAddGiven files xorbs)) ⊎ (e ≡ OutOfMemory)
      → ((e ≡ InvalidArguments) × (¬ (CanAddRecords files xorbs × HasFilesIn version (shard_of files xorbs)))) ⊎ (e ≡ OutOfMemory)
  not_given version e (inl (invalid, not)) = inl (invalid, λ can. not (can_given.0 can.0))
  not_given version e (inr is) = inr is

  -- what is written of them
  module _ (expiry : Option ℕ) (version : FormatVersion) (made : Content) (is : made ≡ record (plain_content (given_shard files xorbs)) { options = plain_options expiry }) where
    made_is : made ≡ record (plain_content (shard_of files xorbs)) { options = plain_options expiry }
    made_is = is ∙ ap (λ (s : Shard). record (plain_content s) { options = plain_options expiry }) shard_given

    pub records_written : (out : List ℕ) → IsWritten version made out → HasFilesIn version (shard_of files xorbs) × (out ≡ layout_in version (shard_of files xorbs) expiry)
    records_written out (has, written) = ((has_files expiry version (shard_of files xorbs)).0 (subst (HasContentFiles version) made_is has), written ∙ ap (content_layout version) made_is)

    pub records_refused : (e : CoreError) → IsNotWritten version made e → ((e ≡ InvalidArguments) × (¬ (CanAddRecords files xorbs × HasFilesIn version (shard_of files xorbs)))) ⊎ (e ≡ OutOfMemory)
    records_refused e (inl memory) = inr memory
    records_refused e (inr (invalid, none)) = inl (invalid, λ can. none (subst (HasContentFiles version) (sym made_is) ((has_files expiry version (shard_of files xorbs)).1 can.1)))
