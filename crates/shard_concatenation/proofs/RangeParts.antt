-- Layouts of the parts of a shard in ranges that follow one another are consecutive parts.
use Rattle.std.proofs.Common.{◌≡◌, ℕ, ◌<◌, List, [], ◌∷◌, ◌++◌, map, flat_map, length, None, refl, sym, ap, ◌∙◌, subst, arith}
use Rattle.std.specs.Prelude.{All}
use Rattle.std.specs.FinMap.{values}
use Rattle.std.specs.List.{AllZip}
use Rattle.std.proofs.lemmas.List.Elements.{All-nil, All-cons}
use Rattle.xet_base.specs.declared.merklehash.DataHash.{DataHash}
use Rattle.xet_base.specs.Hash.{IsHash}
use Rattle.xet_records.specs.declared.record_reader.FormatVersion.TheVariants.{V2, V3}
use Rattle.xet_records.specs.declared.record_reader.FormatVersion.{FormatVersion}
use Rattle.xet_records.specs.FileRecord.{file_records}
use Rattle.xet_records.specs.XorbRecord.{xorb_records}
use Rattle.xet_shards.specs.Content.Shard.{Shard}
use Rattle.xet_shards.specs.Ends.Ends.{FitsFooter}
use Rattle.shard_concatenation.specs.Concatenation.{ShardPart, bytes_of_part, IsPartUnder, files_in, xorbs_in, options_under, later, version_in, AscendBoth, FitTogether}
use Rattle.placed_shards.specs.Parts.{HasRecordsInOrder}
use Rattle.xet_shards.specs.Write.Layout.{footer_value, layout_of}
use Rattle.xet_shards.specs.Write.WithOptions.{Ascends}
use Rattle.shard_concatenation.proofs.Concatenation.{plain_widths, fit_together}
use Rattle.xet_shards.proofs.Write.Sections.{files_fit_in, xorbs_fit}
use Rattle.xet_shards.proofs.Write.WithOptions.{files_ascend, xorbs_ascend}
use Rattle.placed_shards.specs.MergedLists.{IsPartOf}
use Rattle.placed_shards.specs.Ranges.{is_within}
use Rattle.placed_shards.specs.Ranges.{ranges_between, AreCuts}
use Rattle.shard_concatenation.specs.Concatenation.{IsHeldLayout, AreRangesOf}
use Rattle.xet_core_structures.specs.TwoShards.ByteResults.{keyed_options}
use Rattle.placed_shards.proofs.ConsecutiveParts.{consecutive_ranges}

-- the part that is laid out for a shard under a key
abbrev part_of_shard : FormatVersion → DataHash → Shard → ShardPart
part_of_shard version key s = record { files = values s.files; xorbs = values s.xorbs; version = version; key = key; creation = 0; expiry = 18446744073709551615 }

-- the part of a well-formed shard under a key fits its rows
part_under : (version : FormatVersion) (key : DataHash) (s : Shard) (bytes : List ℕ) → IsHeldLayout version key s bytes → IsPartUnder key (part_of_shard version key s)
part_under version key s bytes is =
    let plain : FitsFooter (footer_value (values s.files) (values s.xorbs) (keyed_options (record { word0 = 0; word1 = 0; word2 = 0; word3 = 0 }))) = plain_widths s is.holds.shard in
    record {
      key_is = refl;
      files_fit = files_fit_in version s is.holds.shard is.files;
      xorbs_fit = xorbs_fit s is.holds.shard;
      widths = record {
        offsets = plain.offsets;
        key = subst IsHash is.holds.under is.holds.has.ends.footer_widths.key;
        timestamps = plain.timestamps;
        buffer_size = plain.buffer_size;
        buffer = plain.buffer;
        sums = plain.sums;
      };
    }

-- the parts that are laid out for some shards under a key
record AreLaid (version : FormatVersion) (key : DataHash) (shards : List Shard) (bytes : List (List ℕ)) : Type 0 where
  pub parts : List ShardPart
  pub fit : All (IsPartUnder key) parts
  pub are : map bytes_of_part parts ≡ bytes
  pub files_are : files_in parts ≡ flat_map (λ s. values s.files) shards
  pub xorbs_are : xorbs_in parts ≡ flat_map (λ s. values s.xorbs) shards
  pub each : All (λ part. AscendBoth part.files part.xorbs) parts
  pub count : length parts ≡ length shards
  pub version_is : 0 < length shards → version_in parts ≡ version

-- the latest of one version, and of no others or of the same ones
all_in_version : (version rest : FormatVersion) (shards : List Shard) (parts : List ShardPart) → length parts ≡ length shards → rest ≡ version_in parts → (0 < length shards → rest ≡ version) → later version rest ≡ version
all_in_version version rest [] [] count is same = ap (later version) is ∙ once version where
  once : (v : FormatVersion) → later v V2 ≡ v
  once V2 = refl
  once V3 = refl
all_in_version version rest [] (p ∷ ps) count is same = absurd (omega (arith, count))
all_in_version version rest (s ∷ ss) parts count is same = ap (later version) (same (omega arith)) ∙ twice version where
  twice : (v : FormatVersion) → later v v ≡ v
  twice V2 = refl
  twice V3 = refl

all_laid : (version : FormatVersion) (key : DataHash) (shards : List Shard) (bytes : List (List ℕ)) → AllZip (IsHeldLayout version key) shards bytes → AreLaid version key shards bytes
all_laid version key [] [] are = record {
  parts = [];
  fit = All-nil (IsPartUnder key);
  are = refl;
  files_are = refl;
  xorbs_are = refl;
  each = All-nil (λ (part : ShardPart). AscendBoth part.files part.xorbs);
  count = refl;
  version_is = λ some. absurd (omega (arith, some));
}
all_laid version key [] (b ∷ bytes) are = absurd are
all_laid version key (s ∷ shards) [] are = absurd are
all_laid version key (s ∷ shards) (b ∷ bytes) (here, others) =
    let rest = all_laid version key shards bytes others in
    record {
      parts = part_of_shard version key s ∷ rest.parts;
      fit = All-cons (IsPartUnder key) (part_of_shard version key s) rest.parts (part_under version key s b here) rest.fit;
      are = λ i. sym here.bytes_are i ∷ rest.are i;
      files_are = ap (λ fs. values s.files ++ fs) rest.files_are;
      xorbs_are = ap (λ xs. values s.xorbs ++ xs) rest.xorbs_are;
      each = All-cons (λ (part : ShardPart). AscendBoth part.files part.xorbs) (part_of_shard version key s) rest.parts
          (record { files_ascend = files_ascend s here.holds.shard; xorbs_ascend = xorbs_ascend s here.holds.shard }) rest.each;
      count = omega (arith, rest.count);
      version_is = λ some. all_in_version version (version_in rest.parts) shards rest.parts rest.count refl rest.version_is;
    }

-- there is a range, whatever the cuts
some_range : (cuts : List DataHash) (join : Shard) (parts : List Shard) → AllZip (λ range part. IsPartOf (is_within range) join part) (ranges_between None cuts None) parts → 0 < length parts
some_range [] join [] are = absurd are
some_range [] join (t ∷ ts) are = omega arith
some_range (k ∷ ks) join [] are = absurd are
some_range (k ∷ ks) join (t ∷ ts) are = omega arith

pub ranges_concatenate : (version : FormatVersion) (key : DataHash) (cuts : List DataHash) (join : Shard) (parts : List Shard) (bytes : List (List ℕ)) → AreCuts None cuts None
    → AllZip (λ range part. IsPartOf (is_within range) join part) (ranges_between None cuts None) parts → AllZip (IsHeldLayout version key) parts bytes → AreRangesOf version key join bytes
ranges_concatenate version key cuts join parts bytes are_cuts are_parts are =
    let all = all_laid version key parts bytes are in
    let row : HasRecordsInOrder parts join = consecutive_ranges None cuts None join join parts are_cuts (record { files = λ q. refl; xorbs = λ q. refl }) are_parts in
    let files : values join.files ≡ files_in all.parts = row.files ∙ sym all.files_are in
    let xorbs : values join.xorbs ≡ xorbs_in all.parts = row.xorbs ∙ sym all.xorbs_are in
    record {
      parts = all.parts;
      fit = all.fit;
      are = all.are;
      files_are = sym files;
      xorbs_are = sym xorbs;
      whole_is = λ i. layout_of (sym files i) (sym xorbs i) (options_under (all.version_is (some_range cuts join parts are_parts) i) key);
      row = λ shard. record {
        some = omega (arith, all.count, some_range cuts join parts are_parts);
        fit = all.fit;
        each = all.each;
        ascend = record { files_ascend = subst (Ascends file_records) files (files_ascend join shard); xorbs_ascend = subst (Ascends xorb_records) xorbs (xorbs_ascend join shard) };
        together = subst (λ fs. FitTogether fs (xorbs_in all.parts)) files (subst (FitTogether (values join.files)) xorbs (fit_together join shard));
      };
    }
