-- Byte strings whose shards agree pairwise agree as strict merges want, and these merge them to the join.
use Rattle.std.proofs.Common.{◌≡◌, inl, inr, ℕ, true, List, map, refl, sym, ◌∙◌, subst}
use Rattle.std.specs.Prelude.{⊤, Contains}
use Rattle.std.specs.FinMap.{entries}
use Rattle.std.proofs.lemmas.List.Elements.{All-contains_itself, All-map, All-weaker}
use Rattle.xet_base.specs.declared.error.CoreError.{CoreError}
use Rattle.xet_base.specs.declared.merklehash.DataHash.{DataHash}
use Rattle.xet_records.specs.declared.file_structs.MDBFileInfo.{MDBFileInfo}
use Rattle.xet_records.specs.declared.xorb_structs.MDBXorbInfo.{MDBXorbInfo}
use Rattle.xet_records.specs.FileRecord.{file_records, IsWellFormed}
use Rattle.xet_records.specs.Merging.{Agree}
use Rattle.xet_records.specs.XorbRecord.{xorb_records, IsXorb}
use Rattle.xet_shards.specs.Content.SetOperations.{ShardsAgree}
use Rattle.xet_shards.specs.Content.Shard.{Shard, IsShard}
use Rattle.xet_shards.proofs.Content.MappedShards.{unmapped_member}
use Rattle.xet_shards.proofs.Read.Zipped.{zipped_with}
use Rattle.xet_core_structures.specs.Trees.MergeTrees.{MergeRefused}
use Rattle.placed_shards.specs.declared.findings.RecordHash.TheVariants.{File, Xorb}
use Rattle.placed_shards.specs.declared.placed_shard.PlacedShard.{PlacedShard}
use Rattle.placed_shards.specs.declared.selection.Selection.{Selection}
use Rattle.placed_shards.specs.declared.strict.Agreed.{Agreed}
use Rattle.placed_shards.specs.declared.strict.Agreed.TheVariants.{Made, Disagreements, Malformed}
use Rattle.placed_shards.specs.Agreement.{AreEqual}
use Rattle.placed_shards.specs.Content.{content}
use Rattle.placed_shards.specs.Findings.{AgreeInAll, HasFormedRecords}
use Rattle.placed_shards.specs.MergedLists.{MergeRefusal, HoldsSelected, IsMergeOfList, shard_content}
use Rattle.placed_shards.specs.Selections.{OpensSelected}
use Rattle.placed_shards.specs.Strict.{AreAgreeing, IsAgreedOr, AgreedRefusal, IsJoinedMerge}
use Rattle.placed_shards.proofs.DifferingFound.{if_both}
use Rattle.placed_shards.proofs.FoundAgreeing.{opened_read}
use Rattle.placed_shards.proofs.Merges.{content_is, merge_found, merge_refused, values_under}

-- the records of shards that agree
module _ (key : DataHash) where
  content_formed : (s : Shard) → IsShard s → HasFormedRecords (shard_content key s)
  content_formed s shard = record {
    files = All-map IsWellFormed (λ (e : DataHash × MDBFileInfo). e.1) (entries s.files) shard.files.well_formed;
    xorbs = All-map IsXorb (λ (e : DataHash × MDBXorbInfo). e.1) (entries s.xorbs) shard.xorbs.well_formed;
  }

  contents_agree : (s t : Shard) → IsShard s → IsShard t → ShardsAgree s t → AgreeInAll (shard_content key s) (shard_content key t)
  contents_agree s t one other agree (File q) = if_both Agree _ _ (λ r u r_at u_at.
      agree.files q r u (sym (values_under file_records s.files one.files.keyed q) ∙ r_at) (sym (values_under file_records t.files other.files.keyed q) ∙ u_at))
  contents_agree s t one other agree (Xorb q) = if_both AreEqual _ _ (λ r u r_at u_at.
      agree.xorbs q r u (sym (values_under xorb_records s.xorbs one.xorbs.keyed q) ∙ r_at) (sym (values_under xorb_records t.xorbs other.xorbs.keyed q) ∙ u_at))

module _ (selection : Selection) (key : DataHash) (inputs : List (List ℕ)) (parts : List Shard) (join : Shard) (list : IsMergeOfList selection key inputs parts join) where
  pub list_agrees : AreAgreeing selection inputs
  list_agrees = record {
    contents = map (shard_content key) parts;
    opened = zipped_with (HoldsSelected selection key) (OpensSelected selection) (shard_content key) (λ s. ⊤) (λ x s known held. held.opens) inputs parts (λ s has. tt) list.are_held;
    formed = All-map HasFormedRecords (shard_content key) parts
        (All-weaker (Contains parts) (λ s. HasFormedRecords (shard_content key s)) (λ s at. content_formed key s (list.agree.shards s at)) parts (All-contains_itself parts));
    agree = λ c d one other.
        let s = unmapped_member (shard_content key) parts c one in
        let t = unmapped_member (shard_content key) parts d other in
        subst (λ p. p) (λ i. AgreeInAll (s.2 i) (t.2 i))
        (contents_agree key s.0 t.0 (list.agree.shards s.0 s.1) (list.agree.shards t.0 t.1) (list.agree.pairs s.0 t.0 s.1 t.1));
  }

  pub list_made : (agreed : Agreed PlacedShard) → IsAgreedOr selection inputs (λ made. (made.as_read ≡ true) × IsJoinedMerge selection inputs (content made)) agreed
      → (made : PlacedShard) × (agreed ≡ Made made) × (content made ≡ shard_content key join)
  list_made (Made made) (agree, (read, joined)) = (made, refl, content_is key join (content made) (merge_found key selection inputs (content made) joined.merge parts join list))
  list_made (Disagreements found) (not, some, all) = absurd (not list_agrees)
  list_made (Malformed m) (not, rest) = absurd (not list_agrees)

  pub list_refused : (e : CoreError) → AgreedRefusal selection inputs (MergeRefusal selection inputs) e → MergeRefused join e
  list_refused e (inl first) = inl (opened_read selection inputs HasFormedRecords list_agrees.contents e list_agrees.opened first)
  list_refused e (inr (agreeing, refusal)) = merge_refused key selection inputs e refusal parts join list
