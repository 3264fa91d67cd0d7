-- Bytes that hold a well-formed shard are opened as it, and a scan selects of them the part of the shard in a range.
use Rattle.std.proofs.Common.{◌≡◌, ℕ, ◌<◌, List, [], ◌∷◌, length, map, refl, sym, ap, ◌∙◌, subst}
use Rattle.std.specs.Prelude.{Contains}
use Rattle.std.specs.FinMap.{FinMap, values}
use Rattle.std.specs.List.{AllZip}
use Rattle.xet_base.specs.declared.merklehash.DataHash.{DataHash}
use Rattle.xet_base.specs.Hash.{hash_cmp}
use Rattle.xet_records.specs.FileRecord.{file_records}
use Rattle.xet_records.specs.RecordKind.{RecordKind, KindLaws}
use Rattle.xet_records.specs.Version.{version_of}
use Rattle.xet_records.specs.XorbRecord.{xorb_records}
use Rattle.xet_records.proofs.RecordKinds.{xorb_laws}
use Rattle.xet_shards.specs.Content.Joins.{IsJoinOf, AgreePairwise}
use Rattle.xet_shards.specs.Content.Shard.{Shard}
use Rattle.xet_shards.specs.Read.SectionsBehindHeader.{options_of}
use Rattle.xet_shards.specs.Read.SectionReading.{files_of}
use Rattle.xet_shards.proofs.Write.Sections.{files_laws}
use Rattle.xet_shards.proofs.Write.WithOptions.{files_ascend, xorbs_ascend}
use Rattle.xet_core_structures.specs.Records.ShardContents.{HasShard, HoldsShard, IsSectionOf, files_at, xorbs_at}
use Rattle.xet_core_structures.specs.Steps.ShardContentsSteps.{IsListOf}
use Rattle.xet_core_structures.specs.TwoShards.ByteResults.{keyed_options}
use Rattle.xet_core_structures.proofs.Records.ListMaps.{values-list_map}
use Rattle.xet_core_structures.proofs.Records.ShardContents.{section_ascends}
use Rattle.placed_shards.specs.declared.range.HashRange.{HashRange}
use Rattle.placed_shards.specs.Content.{Content, content_within, with_all_tables}
use Rattle.placed_shards.specs.MergedLists.{HoldsSelected, IsMergeOfList, IsPartOf, shard_content}
use Rattle.placed_shards.specs.Opening.{Opens}
use Rattle.placed_shards.specs.Ranges.{all_hashes, is_within}
use Rattle.placed_shards.specs.Selections.{all_records, by_scan, OpensWithin}
use Rattle.placed_shards.proofs.FileParts.{join_of_parts, parts_agree, zipped_back}
use Rattle.placed_shards.proofs.Merges.{shard_back, shard_in}
use Rattle.placed_shards.proofs.Opening.{list_opened}
use Rattle.placed_shards.proofs.Within.{one_part, part_is_shard, part_of, part_of_is, part_of_lists, those_ascend, zipped_parts_of}

-- a section of a map is a list of its records
list_held : {H R : Type 0} (K : RecordKind H R) → KindLaws K → (bytes : List ℕ) (m : FinMap hash_cmp R) → IsSectionOf K bytes m → IsListOf K bytes (values m)
list_held K laws bytes m is = subst (IsListOf K bytes) is.returned (list_opened K laws bytes is.stored is.section (section_ascends K laws bytes m is))

-- the records of a shard, in the order of their hashes, and the options that bytes name
abbrev held_content : (s : Shard) (x : List ℕ) → HasShard s x → Content
held_content s x has = record { files = values s.files; xorbs = values s.xorbs; options = options_of has.info }

pub held_opens : (s : Shard) (x : List ℕ) (has : HasShard s x) → Opens x (held_content s x has)
held_opens s x has = record {
  info = has.info;
  ends = has.ends;
  lists = record {
    files = list_held (files_of has.info) (files_laws (version_of has.info.header.version)) (files_at x has.info) s.files has.holds.files;
    xorbs = list_held xorb_records xorb_laws (xorbs_at x has.info) s.xorbs has.holds.xorbs;
  };
  options_are = refl;
}

module _ (range : HashRange) (key : DataHash) where
  -- its records in a range are those of its part
  module _ (s part : Shard) (x : List ℕ) (held : HoldsShard key s x) (is : IsPartOf (is_within range) s part) where
    abbrev whole : Content
    whole = shard_content key s

    within_is_part : IsPartOf (is_within range) s (shard_in (with_all_tables (content_within range whole)))
    within_is_part =
        subst (λ t. IsPartOf (is_within range) t (shard_in (with_all_tables (content_within range whole)))) (shard_back key s held.shard)
        (part_of_lists (is_within range) (record { files = values s.files; xorbs = values s.xorbs }) (files_ascend s held.shard) (xorbs_ascend s held.shard))

    same_part : shard_in (with_all_tables (content_within range whole)) ≡ part
    same_part = one_part (is_within range) s (shard_in (with_all_tables (content_within range whole))) part within_is_part is

    part_content : shard_content key part ≡ with_all_tables (content_within range whole)
    part_content = λ i. record {
      files = (sym (ap (λ (t : Shard). values t.files) same_part) ∙ values-list_map file_records _ (those_ascend file_records (is_within range) (values s.files) (files_ascend s held.shard))) i;
      xorbs = (sym (ap (λ (t : Shard). values t.xorbs) same_part) ∙ values-list_map xorb_records _ (those_ascend xorb_records (is_within range) (values s.xorbs) (xorbs_ascend s held.shard))) i;
      options = keyed_options key;
    }

    opens_part : OpensWithin range x (shard_content key part)
    opens_part = (
      held_content s x held.has,
      held_opens s x held.has,
      part_content ∙ ap (λ k. with_all_tables (content_within range (shard_content k s))) (sym held.under),
    )

    pub part_selected : HoldsSelected (by_scan range) key x part
    part_selected = record { shard = part_is_shard (is_within range) s part is held.shard; opens = opens_part }

  -- and so of a list of shards that agree
  all_selected : (shards : List Shard) (inputs : List (List ℕ)) → AllZip (HoldsShard key) shards inputs → AllZip (HoldsSelected (by_scan range) key) inputs (map (part_of (is_within range)) shards)
  all_selected [] [] held = tt
  all_selected [] (x ∷ xs) held = absurd held
  all_selected (s ∷ ss) [] held = absurd held
  all_selected (s ∷ ss) (x ∷ xs) (here, rest) = (part_selected s (part_of (is_within range) s) x here (part_of_is (is_within range) s), all_selected ss xs rest)

  module _ (shards : List Shard) (inputs : List (List ℕ)) (join part : Shard) (some : 0 < length inputs) (held : AllZip (HoldsShard key) shards inputs)
      (agree : AgreePairwise (Contains shards)) (is_join : IsJoinOf (Contains shards) join) (is : IsPartOf (is_within range) join part) where
    abbrev parts : List Shard
    parts = map (part_of (is_within range)) shards

    are : AllZip (IsPartOf (is_within range)) shards parts
    are = zipped_parts_of (is_within range) shards

    pub list_selected : (parts : List Shard) × IsMergeOfList (by_scan range) key inputs parts part
    list_selected = (
      parts,
      record {
        some = some;
        are_held = all_selected shards inputs held;
        agree = record {
          shards = λ t at. let from = zipped_back (IsPartOf (is_within range)) shards parts are t at in part_is_shard (is_within range) from.0 t from.2 (agree.shards from.0 from.1);
          pairs = λ t u one other.
              let first = zipped_back (IsPartOf (is_within range)) shards parts are t one in
              let second = zipped_back (IsPartOf (is_within range)) shards parts are u other in
              parts_agree (is_within range) first.0 second.0 t u first.2 second.2 (agree.pairs first.0 second.0 first.1 second.1);
        };
        is_join = join_of_parts (is_within range) shards parts join part are is is_join;
      },
    )

module _ (key : DataHash) where
  -- with no bounds the part is the shard
  whole_part : (s : Shard) → IsPartOf (is_within all_hashes) s s
  whole_part s = record { files = λ q. refl; xorbs = λ q. refl }

  wholes_selected : (shards : List Shard) (inputs : List (List ℕ)) → AllZip (HoldsShard key) shards inputs → AllZip (HoldsSelected all_records key) inputs shards
  wholes_selected [] [] held = tt
  wholes_selected [] (x ∷ xs) held = absurd held
  wholes_selected (s ∷ ss) [] held = absurd held
  wholes_selected (s ∷ ss) (x ∷ xs) (here, rest) = (part_selected all_hashes key s s x here (whole_part s), wholes_selected ss xs rest)

  pub all_are_selected : (shards : List Shard) (inputs : List (List ℕ)) (join : Shard) → 0 < length inputs → AllZip (HoldsShard key) shards inputs → AgreePairwise (Contains shards) → IsJoinOf (Contains shards) join
      → IsMergeOfList all_records key inputs shards join
  all_are_selected shards inputs join some held agree is_join = record { some = some; are_held = wholes_selected shards inputs held; agree = agree; is_join = is_join }
