-- The results of operations on two shards that are read as lists, as those on the shards of these lists.
use Rattle.std.proofs.Common.{◌≡◌, inr, true, ℕ, List, [], ◌∷◌, length, Option, Ok, Err, sym, ap, ◌∙◌, arith}
use Rattle.std.specs.Prelude.{All, MatchResult}
use Rattle.std.specs.declared.result.Result.{Result}
use Rattle.std.specs.FinMap.{get}
use Rattle.std.proofs.lemmas.List.Sums.{sum_by-cons}
use Rattle.xet_base.specs.declared.error.CoreError.{CoreError}
use Rattle.xet_base.specs.declared.merklehash.DataHash.{DataHash}
use Rattle.xet_records.specs.declared.file_structs.MDBFileInfo.{MDBFileInfo}
use Rattle.xet_records.specs.declared.record_reader.FormatVersion.{FormatVersion}
use Rattle.xet_records.specs.declared.record_reader.FormatVersion.TheVariants.{V3}
use Rattle.xet_records.specs.declared.xorb_structs.MDBXorbInfo.{MDBXorbInfo}
use Rattle.xet_records.specs.FileRecord.{file_records, FitsRecord}
use Rattle.xet_records.specs.XorbRecord.{xorb_records}
use Rattle.xet_shards.specs.declared.shard_format.ends.options.LayoutOptions.{LayoutOptions}
use Rattle.xet_shards.specs.Content.SetOperations.{IsDifference}
use Rattle.xet_shards.specs.Content.Shard.{Shard}
use Rattle.xet_shards.specs.Write.Layout.{layout_of}
use Rattle.xet_shards.specs.Write.Section.{total_rows}
use Rattle.xet_shards.proofs.Write.XorbLayouts.{length-with_options}
use Rattle.xet_core_structures.specs.Records.ByteUnion.{IsEitherFile, IsEitherXorb, IsByteUnion}
use Rattle.xet_core_structures.specs.TwoShards.ByteResults.{keyed_options, keyed_layout, key_of, HaveResult}
use Rattle.xet_core_structures.proofs.LawProofs.UnionSizes.{bytes_of_union, bytes_of_difference}
use Rattle.xet_core_structures.proofs.Records.ListMaps.{combined_maps, lists_hold, values-list_map}
use Rattle.placed_shards.proofs.Merges.{shard_in}
use Rattle.placed_shards.specs.Content.{Content, content, content_layout, options_in}
use Rattle.placed_shards.specs.declared.placed_shard.PlacedShard.{PlacedShard}
use Rattle.placed_shards.specs.Opening.{Opens}
use Rattle.placed_shards.specs.Sets.{IsLeft}
use Rattle.placed_shards.specs.Unions.{Unites}
use Rattle.shard_bytes.specs.declared.combine.Operation.{Operation}
use Rattle.shard_bytes.specs.declared.combine.Operation.TheVariants.{Union, Difference}
use Rattle.shard_bytes.specs.Combining.{IsResultOf, RefusalOf, CombinesTo, RefusesCombining}
use Rattle.placed_shards.specs.MergeSizes.{IsResultSize}
use Rattle.shard_bytes.specs.ResultSizes.{sources_of}
use Rattle.shard_bytes.specs.Versions.{IsWrittenIn}

-- what an operation makes of two shards that were opened
pub combined_to : (operation : Operation) (x y : List ℕ) (c d : Content) → Opens x c → Opens y d → (r : Result PlacedShard CoreError)
    → MatchResult r (λ made. (made.as_read ≡ true) × IsResultOf operation c d (content made)) (RefusalOf operation c d)
    → MatchResult r (λ made. CombinesTo operation x y (content made)) (RefusesCombining operation x y)
combined_to operation x y c d one other (Ok made) (read, is) = (c, d, one, other, is)
combined_to operation x y c d one other (Err e) why = inr (inr (inr (c, d, one, other, why)))

module _ {x y : List ℕ} {c d made : Content} (one : Opens x c) (other : Opens y d)
    (F : Option MDBFileInfo → Option MDBFileInfo → Option MDBFileInfo → Type 0) (X : Option MDBXorbInfo → Option MDBXorbInfo → Option MDBXorbInfo → Type 0) (unites : Unites F X c d made) where
  key_is : key_of one.info ≡ c.options.key
  key_is = sym (ap (λ (o : LayoutOptions). o.key) one.options_are)

  layout_is : keyed_layout (shard_in made) (key_of one.info) ≡ content_layout V3 made
  layout_is =
      (λ i. layout_of (values-list_map file_records made.files unites.files.combined.ascends i) (values-list_map xorb_records made.xorbs unites.xorbs.combined.ascends i) (keyed_options (key_is i)))
      ∙ ap (λ (o : LayoutOptions). layout_of made.files made.xorbs (record o { version = V3 })) (sym unites.options_are)

  -- if what is made under each hash is a result of both shards, then both inputs have a result
  have_result : (IsResult : Shard → Shard → Shard → Type 0)
      → (((q : DataHash) → F (get (shard_in c).files q) (get (shard_in d).files q) (get (shard_in made).files q))
      → ((q : DataHash) → X (get (shard_in c).xorbs q) (get (shard_in d).xorbs q) (get (shard_in made).xorbs q)) → IsResult (shard_in c) (shard_in d) (shard_in made))
      → HaveResult IsResult x one.info y other.info (shard_in made)
  have_result IsResult result = record {
    first = shard_in c;
    second = shard_in d;
    holds_first = lists_hold x one.info _ one.lists;
    holds_second = lists_hold y other.info _ other.lists;
    same_key = key_is ∙ unites.same_key ∙ ap (λ (o : LayoutOptions). o.key) other.options_are;
    result = result (combined_maps file_records F c.files d.files made.files one.lists.files.writable.ascends other.lists.files.writable.ascends unites.files.combined)
        (combined_maps xorb_records X c.xorbs d.xorbs made.xorbs one.lists.xorbs.writable.ascends other.lists.xorbs.writable.ascends unites.xorbs.combined);
    rows = record {
      files = omega (arith, unites.files.rows, ap (total_rows file_records) (values-list_map file_records made.files unites.files.combined.ascends));
      xorbs = omega (arith, unites.xorbs.rows, ap (total_rows xorb_records) (values-list_map xorb_records made.xorbs unites.xorbs.combined.ascends));
    };
  }

-- a result has the size of one in version 3
size_in : {F : Option MDBFileInfo → Option MDBFileInfo → Option MDBFileInfo → Type 0} {X : Option MDBXorbInfo → Option MDBXorbInfo → Option MDBXorbInfo → Type 0} (c d made : Content) → Unites F X c d made
    → (version : FormatVersion) → length (content_layout version made) ≡ length (content_layout V3 made)
size_in c d made unites version =
    let fit : All FitsRecord made.files = λ k r below. (unites.files.combined.stored k r below).widths in
    omega (arith, length-with_options made.files made.xorbs (options_in version made) fit, length-with_options made.files made.xorbs (options_in V3 made) fit)

pub size_of_result : (operation : Operation) (x y out : List ℕ) (version : FormatVersion) → IsWrittenIn version (CombinesTo operation x y) out → IsResultSize (sources_of operation x y) (length out)
size_of_result Union x y out version (made, (c, d, one, other, unites), has, is) =
    let have = have_result one other IsEitherFile IsEitherXorb unites IsByteUnion (λ files xorbs. record { files = files; xorbs = xorbs }) in
    omega (
      arith,
      ap length is,
      size_in c d made unites version,
      bytes_of_union x y (content_layout V3 made) (one.info, other.info, shard_in made, one.ends, other.ends, have, sym (layout_is one other IsEitherFile IsEitherXorb unites)),
      sum_by-cons length x (y ∷ []),
      sum_by-cons length y [],
    )
size_of_result Difference x y out version (made, (c, d, one, other, unites), has, is) =
    let have = have_result one other IsLeft IsLeft unites IsDifference (λ files xorbs. record { files = files; xorbs = xorbs }) in
    omega (
      arith,
      ap length is,
      size_in c d made unites version,
      ap length (layout_is one other IsLeft IsLeft unites),
      bytes_of_difference x y one.info other.info (shard_in made) one.ends other.ends have,
      sum_by-cons length y [],
    )
