-- The merge of byte strings that agree has the records of the join of the shards that they have.
use Rattle.std.proofs.Common.{◌≡◌, inl, inr, ℕ, ◌<◌, ◌≤◌, List, [], ◌∷◌, length, map, get_or, Option, Some, sym, ap, ◌∙◌, subst, arith}
use Rattle.std.specs.Prelude.{All, Contains}
use Rattle.std.specs.List.{AllZip}
use Rattle.std.specs.FinMap.{entries}
use Rattle.std.proofs.lemmas.List.Elements.{All-contains, Contains-append_cases, Contains-get_or}
use Rattle.xet_base.specs.declared.merklehash.DataHash.{DataHash}
use Rattle.xet_base.proofs.HashOrder.{hash_cmp-IsTotalOrder, hash_cmp-IsAntisymmetric}
use Rattle.xet_records.specs.FileRecord.{file_records, IsWellFormed}
use Rattle.xet_records.specs.Limits.{MAX_ROWS}
use Rattle.xet_records.specs.Merging.{Agree}
use Rattle.xet_records.specs.RecordKind.{RecordKind}
use Rattle.xet_records.specs.XorbRecord.{xorb_records, IsXorb}
use Rattle.xet_shards.specs.Content.Joins.{AgreePairwise}
use Rattle.xet_shards.specs.Content.SetOperations.{ShardsAgree}
use Rattle.xet_shards.specs.Content.Shard.{IsShard}
use Rattle.xet_shards.specs.Write.Section.{total_rows}
use Rattle.xet_shards.specs.Write.WithOptions.{Ascends}
use Rattle.xet_shards.specs.declared.shard_format.ends.options.LayoutOptions.{LayoutOptions}
use Rattle.xet_shards.proofs.Content.AgreeingJoins.{joins_exist}
use Rattle.xet_shards.proofs.Content.MappedShards.{mapped_member, unmapped_member}
use Rattle.xet_shards.proofs.ShardInMemory.Sums.{all_of_map}
use Rattle.xet_shards.proofs.Read.Zipped.{zipped_member, zipped_parts, zipped_with}
use Rattle.xet_core_structures.specs.Records.RecordPairs.{key_of_record}
use Rattle.xet_core_structures.specs.TwoShards.ByteResults.{keyed_options}
use Rattle.xet_core_structures.proofs.Records.ListMaps.{list_map, values-list_map, get-list_map}
use Rattle.placed_shards.specs.declared.findings.RecordHash.TheVariants.{File, Xorb}
use Rattle.placed_shards.specs.declared.selection.Selection.{Selection}
use Rattle.placed_shards.specs.Agreement.{AgreeIfBoth, AreEqual}
use Rattle.placed_shards.specs.Content.{Content, AscendBoth}
use Rattle.placed_shards.specs.Findings.{AgreeInAll, AreOpened, HasFormedRecords}
use Rattle.placed_shards.specs.Laws.{IsWellFormedShard}
use Rattle.placed_shards.specs.MergedLists.{IsMergeOf, HoldsSelected, IsMergeOfList, shard_content}
use Rattle.placed_shards.specs.MergedLists.IsMergeOf.{of_one, of_halves}
use Rattle.placed_shards.specs.Selections.{OpensSelected}
use Rattle.placed_shards.specs.Strict.{AreAgreeing, IsJoinedMerge}
use Rattle.placed_shards.proofs.DifferingFound.{found_under}
use Rattle.placed_shards.proofs.Items.{only_item}
use Rattle.placed_shards.proofs.Merges.{content_is, merge_found, shard_in}
use Rattle.placed_shards.proofs.Selections.{IsSelected, opens_selected_once, selected}

-- what holds of each record of a list holds of the entries of its map
entries_of_list : {H R : Type 0} (K : RecordKind H R) (Is : R → Type 0) (rs : List R) → Ascends K rs → All Is rs → All (λ e. Is e.1) (entries (list_map K rs))
entries_of_list {R = R} K Is rs ascends all = λ k e below.
    let es : List (DataHash × R) = entries (list_map K rs) in
    let here : DataHash × R = get_or es k e in
    All-contains Is rs here.1 all (subst (λ l. Contains l here.1) (values-list_map K rs ascends) (mapped_member (λ (d : DataHash × R). d.1) es here (Contains-get_or es k e below)))

at_hash : {R : Type 0} (agree : R → R → Type 0) (o p : Option R) (r s : R) → AgreeIfBoth agree o p → o ≡ Some r → p ≡ Some s → agree r s
at_hash agree o p r s agreed r_at s_at = subst (λ p. p) (λ i. AgreeIfBoth agree (r_at i) (s_at i)) agreed

-- shards whose records agree
pub shards_agree : (c d : Content) → AscendBoth c → AscendBoth d → AgreeInAll c d → ShardsAgree (shard_in c) (shard_in d)
shards_agree c d one other agree = record {
  files = λ q r s r_at s_at. at_hash Agree _ _ r s (agree (File q)) (sym (get-list_map file_records c.files one.files q) ∙ r_at) (sym (get-list_map file_records d.files other.files q) ∙ s_at);
  xorbs = λ q r s r_at s_at. at_hash AreEqual _ _ r s (agree (Xorb q)) (sym (get-list_map xorb_records c.xorbs one.xorbs q) ∙ r_at) (sym (get-list_map xorb_records d.xorbs other.xorbs q) ∙ s_at);
}

-- each record of such a list is under its hash in its map
keyed_entries : {H R : Type 0} (K : RecordKind H R) (rs : List R) → Ascends K rs → All (λ e. e.0 ≡ key_of_record K e.1) (entries (list_map K rs))
keyed_entries {R = R} K rs ascends =
    all_of_map hash_cmp-IsTotalOrder hash_cmp-IsAntisymmetric (λ (e : DataHash × R). e.0 ≡ key_of_record K e.1) (list_map K rs)
    (λ q r at. sym (found_under K rs q r (sym (get-list_map K rs ascends q) ∙ at)).1)

-- the records of a well-formed shard
pub as_shard : (c : Content) → IsWellFormedShard c → IsShard (shard_in c)
as_shard c well = record {
  files = record {
    keyed = keyed_entries file_records c.files well.ascend.files;
    well_formed = entries_of_list file_records IsWellFormed c.files well.ascend.files well.formed.files;
  };
  file_rows = subst (λ rs. total_rows file_records rs ≤ MAX_ROWS) (sym (values-list_map file_records c.files well.ascend.files)) well.file_rows;
  xorbs = record {
    keyed = keyed_entries xorb_records c.xorbs well.ascend.xorbs;
    well_formed = entries_of_list xorb_records IsXorb c.xorbs well.ascend.xorbs well.formed.xorbs;
  };
  xorb_rows = subst (λ rs. total_rows xorb_records rs ≤ MAX_ROWS) (sym (values-list_map xorb_records c.xorbs well.ascend.xorbs)) well.xorb_rows;
}

-- selected records that may be in a shard are those of one
module _ (x : List ℕ) (c : Content) (is : IsSelected x c) where
  selected_shard : HasFormedRecords c → IsShard (shard_in c)
  selected_shard formed = as_shard c (record { ascend = is.ascend; formed = formed; file_rows = is.file_rows; xorb_rows = is.xorb_rows })

  selected_content : (key : DataHash) → c.options ≡ keyed_options key → c ≡ shard_content key (shard_in c)
  selected_content key options = λ i. record {
    files = sym (values-list_map file_records c.files is.ascend.files) i;
    xorbs = sym (values-list_map xorb_records c.xorbs is.ascend.xorbs) i;
    options = options i;
  }

module _ (selection : Selection) where
  abbrev IsFormedUnder : DataHash → Content → Type 0
  IsFormedUnder key c = HasFormedRecords c × (c.options ≡ keyed_options key)

  holds_selected : (key : DataHash) (x : List ℕ) (c : Content) → IsFormedUnder key c → OpensSelected selection x c → HoldsSelected selection key x (shard_in c)
  holds_selected key x c (formed, options) opens =
      let is = selected selection x c opens in
      record { shard = selected_shard x c is formed; opens = subst (OpensSelected selection x) (selected_content x c is key options) opens }

  -- all of a list are under the key of their merge
  under_key : (inputs : List (List ℕ)) (made : Content) → IsMergeOf selection inputs made → (cs : List Content) → AreOpened selection inputs cs → (c : Content) → Contains cs c → c.options ≡ keyed_options made.options.key
  under_key inputs made (of_one x is opens) cs opened d at = of cs (subst (λ l. AreOpened selection l cs) is opened) at where
    of : (cs : List Content) → AreOpened selection (x ∷ []) cs → Contains cs d → d.options ≡ keyed_options made.options.key
    of [] opened at = absurd opened
    of (e ∷ f ∷ cs) opened at = absurd opened.1
    of (e ∷ []) opened at =
        let there : made ≡ d = opens_selected_once selection x made e opens opened.0 ∙ only_item e d at in
        sym (ap (λ (f : Content). f.options) there) ∙ (selected selection x made opens).options_are
  under_key inputs made (of_halves firsts seconds c d halves one other unites) cs opened e at =
      let cut = zipped_parts (OpensSelected selection) firsts seconds cs (subst (λ l. AreOpened selection l cs) halves.are opened) in
      let key_is : made.options.key ≡ c.options.key = ap (λ (o : LayoutOptions). o.key) unites.options_are in
      elim (Contains-append_cases cut.0 cut.1 e (subst (λ l. Contains l e) (sym cut.2) at)) [
        | inl here ↦ under_key firsts c one cut.0 cut.3 e here ∙ ap keyed_options (sym key_is)
        | inr there ↦ under_key seconds d other cut.1 cut.4 e there ∙ ap keyed_options (sym unites.same_key ∙ sym key_is)
      ]

  some_merged : (inputs : List (List ℕ)) (made : Content) → IsMergeOf selection inputs made → 0 < length inputs
  some_merged inputs made (of_one x is opens) = omega (arith, ap length is)
  some_merged inputs made (of_halves firsts seconds c d halves one other unites) = omega (arith, halves.some)

  module _ (inputs : List (List ℕ)) (made : Content) (merge : IsMergeOf selection inputs made) (agreeing : AreAgreeing selection inputs) where
    abbrev cs : List Content
    cs = agreeing.contents

    formed_under : (c : Content) → Contains cs c → IsFormedUnder made.options.key c
    formed_under c at = (All-contains HasFormedRecords cs c agreeing.formed at, under_key inputs made merge cs agreeing.opened c at)

    are_held : AllZip (HoldsSelected selection made.options.key) inputs (map shard_in cs)
    are_held =
        zipped_with (OpensSelected selection) (HoldsSelected selection made.options.key) shard_in (IsFormedUnder made.options.key) (λ x c formed opens. holds_selected made.options.key x c formed opens)
        inputs cs formed_under agreeing.opened

    all_agree : AgreePairwise (Contains (map shard_in cs))
    all_agree = record {
      shards = λ s at.
          let held = zipped_member (HoldsSelected selection made.options.key) inputs (map shard_in cs) are_held s at in
          held.1.shard;
      pairs = λ s t one other.
          let c = unmapped_member shard_in cs s one in
          let d = unmapped_member shard_in cs t other in
          let c_ascend = let input = zipped_member (OpensSelected selection) inputs cs agreeing.opened c.0 c.1 in (selected selection input.0 c.0 input.1).ascend in
          let d_ascend = let input = zipped_member (OpensSelected selection) inputs cs agreeing.opened d.0 d.1 in (selected selection input.0 d.0 input.1).ascend in
          subst (λ p. p) (λ i. ShardsAgree (c.2 i) (d.2 i)) (shards_agree c.0 d.0 c_ascend d_ascend (agreeing.agree c.0 d.0 c.1 d.1));
    }

    pub joined : IsJoinedMerge selection inputs made
    joined =
        let join = joins_exist (map shard_in cs) all_agree in
        let list : IsMergeOfList selection made.options.key inputs (map shard_in cs) join.0 = record {
          some = some_merged inputs made merge;
          are_held = are_held;
          agree = all_agree;
          is_join = join.1;
        } in
        record {
          merge = merge;
          key = made.options.key;
          parts = map shard_in cs;
          join = join.0;
          list = list;
          is = content_is made.options.key join.0 made (merge_found made.options.key selection inputs made merge (map shard_in cs) join.0 list);
        }
