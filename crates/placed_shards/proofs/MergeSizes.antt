-- A merge has at most the rows of its inputs, and so its bytes are bounded by theirs.
use Rattle.std.proofs.Common.{◌≡◌, ℕ, ◌+◌, ◌*◌, ◌≤◌, List, [], length, Ok, Err, ap, subst, arith}
use Rattle.std.specs.Prelude.{All, IfOk, MatchResult, sum_by}
use Rattle.std.specs.declared.result.Result.{Result}
use Rattle.std.proofs.lemmas.List.Sums.{sum_by-append, sum_by-cons}
use Rattle.xet_base.specs.declared.error.CoreError.{CoreError}
use Rattle.xet_base.specs.declared.merklehash.DataHash.{DataHash}
use Rattle.xet_records.specs.declared.record_reader.FormatVersion.{FormatVersion}
use Rattle.xet_records.specs.FileRecord.{file_records, FitsRecord}
use Rattle.xet_records.specs.XorbRecord.{xorb_records}
use Rattle.xet_shards.specs.declared.shard_format.ends.options.LayoutOptions.{LayoutOptions}
use Rattle.xet_shards.specs.Write.Layout.{layout_of}
use Rattle.xet_shards.specs.Write.Section.{total_rows}
use Rattle.xet_shards.proofs.ShardInMemory.Files.{length-le-rows}
use Rattle.xet_shards.proofs.Write.XorbLayouts.{length-with_options, length-chunk_table, xorb_rows-chunks}
use Rattle.xet_core_structures.specs.Records.ByteUnion.{IsEitherFile, IsEitherXorb, IsByteUnion}
use Rattle.xet_core_structures.specs.Records.Sizes.{rows_of_shard}
use Rattle.xet_core_structures.specs.TwoShards.ByteResults.{keyed_options}
use Rattle.xet_core_structures.proofs.LawProofs.UnionSizes.{rows_of_union}
use Rattle.xet_core_structures.proofs.Records.ListMaps.{combined_maps, values-list_map}
use Rattle.placed_shards.specs.declared.selection.Selection.{Selection}
use Rattle.placed_shards.specs.declared.placed_shard.PlacedShard.{PlacedShard}
use Rattle.placed_shards.specs.Content.{Content, content, AscendBoth, content_layout}
use Rattle.placed_shards.specs.MergedLists.{IsMergeOf, MergeRefusal}
use Rattle.placed_shards.specs.MergedLists.IsMergeOf.{of_one, of_halves}
use Rattle.placed_shards.specs.Selections.{OpensSelected}
use Rattle.placed_shards.specs.MergeSizes.{IsResultSize}
use Rattle.placed_shards.proofs.Merges.{shard_in}
use Rattle.placed_shards.proofs.Selections.{selected}

-- a shard with all tables has 344 bytes and at most 64 for each row, a row's part of a table among them
module _ (c : Content) (key : DataHash) (options_are : c.options ≡ keyed_options key) (ascend : AscendBoth c) (fit : All FitsRecord c.files) where
  rows_are : rows_of_shard (shard_in c) ≡ total_rows file_records c.files + total_rows xorb_records c.xorbs
  rows_are = λ i. total_rows file_records (values-list_map file_records c.files ascend.files i) + total_rows xorb_records (values-list_map xorb_records c.xorbs ascend.xorbs i)

  pub bytes_of_content : (version : FormatVersion) → length (content_layout version c) ≤ 344 + 64 * rows_of_shard (shard_in c)
  bytes_of_content version =
      omega (
        arith,
        ap (λ (o : LayoutOptions). length (layout_of c.files c.xorbs (record o { version = version }))) options_are,
        length-with_options c.files c.xorbs (record (keyed_options key) { version = version }) fit,
        length-le-rows c.files,
        length-chunk_table c.xorbs,
        xorb_rows-chunks c.xorbs,
        rows_are,
      )

module _ (selection : Selection) where
  -- what is merged has all tables, and no more rows than may be in so many bytes
  pub record IsBounded (bytes : ℕ) (c : Content) : Type 0 where
    key : DataHash
    options_are : c.options ≡ keyed_options key
    ascend : AscendBoth c
    fit : All FitsRecord c.files
    few : 48 * rows_of_shard (shard_in c) ≤ 2 * bytes

  one_bounded : (x : List ℕ) (c : Content) → OpensSelected selection x c → IsBounded (length x) c
  one_bounded x c opens =
      let is = selected selection x c opens in
      record {
        key = c.options.key;
        options_are = is.options_are;
        ascend = is.ascend;
        fit = is.fit;
        few = omega (arith, is.few, rows_are c c.options.key is.options_are is.ascend is.fit);
      }

  pub bounded : (inputs : List (List ℕ)) (made : Content) → IsMergeOf selection inputs made → IsBounded (sum_by length inputs) made
  bounded inputs made (of_one x is opens) =
      let size : length x ≡ sum_by length inputs = omega (arith, ap (sum_by length) is, sum_by-cons length x []) in
      subst (λ n. IsBounded n made) size (one_bounded x made opens)
  bounded inputs made (of_halves firsts seconds c d halves one other unites) =
      let first = bounded firsts c one in
      let second = bounded seconds d other in
      let union : IsByteUnion (shard_in c) (shard_in d) (shard_in made) = record {
        files = combined_maps file_records IsEitherFile c.files d.files made.files first.ascend.files second.ascend.files unites.files.combined;
        xorbs = combined_maps xorb_records IsEitherXorb c.xorbs d.xorbs made.xorbs first.ascend.xorbs second.ascend.xorbs unites.xorbs.combined;
      } in
      record {
        key = c.options.key;
        options_are = unites.options_are;
        ascend = record { files = unites.files.combined.ascends; xorbs = unites.xorbs.combined.ascends };
        fit = λ k r below. (unites.files.combined.stored k r below).widths;
        few = omega (
          arith,
          first.few,
          second.few,
          rows_of_union (shard_in c) (shard_in d) (shard_in made) union,
          ap (sum_by length) halves.are,
          sum_by-append length firsts seconds,
        );
      }

  pub size_of_merge : (inputs : List (List ℕ)) (made : Content) → IsMergeOf selection inputs made → (version : FormatVersion) → IsResultSize inputs (length (content_layout version made))
  size_of_merge inputs made merged version =
      let few = bounded inputs made merged in
      omega (arith, few.few, bytes_of_content made few.key few.options_are few.ascend few.fit version)

  pub size_if_made : (inputs : List (List ℕ)) (result : Result PlacedShard CoreError) → MatchResult result (λ made. IsMergeOf selection inputs (content made)) (MergeRefusal selection inputs)
      → IfOk result (λ made. (version : FormatVersion) → IsResultSize inputs (length (content_layout version (content made))))
  size_if_made inputs (Ok made) is = size_of_merge inputs (content made) is
  size_if_made inputs (Err e) refusal = tt
