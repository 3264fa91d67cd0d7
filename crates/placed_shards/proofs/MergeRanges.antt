-- Byte strings have one merge, and that of a range has the records of that of all in the range.
use Rattle.std.proofs.Common.{◌≡◌, ℕ, true, List, [], ◌∷◌, ◌++◌, flat_map, length, None, refl, sym, ap, ◌∙◌, subst, arith}
use Rattle.std.specs.List.{AllZip, filter}
use Rattle.xet_base.specs.declared.merklehash.DataHash.{DataHash}
use Rattle.xet_base.proofs.Lists.{same_parts}
use Rattle.xet_records.specs.FileRecord.{file_records}
use Rattle.xet_records.specs.XorbRecord.{xorb_records}
use Rattle.xet_core_structures.specs.Records.ByteUnion.{IsEitherFile, IsEitherXorb}
use Rattle.xet_core_structures.proofs.TwoShards.Results.{files_unique, xorbs_unique}
use Rattle.placed_shards.specs.declared.range.HashRange.{HashRange}
use Rattle.placed_shards.specs.declared.selection.Selection.{Selection}
use Rattle.placed_shards.specs.Content.{Content, AscendBoth, content_within, with_all_tables}
use Rattle.placed_shards.specs.MergedLists.{AreHalves, IsMergeOf}
use Rattle.placed_shards.specs.MergedLists.IsMergeOf.{of_one, of_halves}
use Rattle.placed_shards.specs.Ranges.{all_hashes, ranges_between, AreCuts}
use Rattle.placed_shards.specs.Selections.{all_records, by_scan, OpensSelected}
use Rattle.placed_shards.specs.Unions.{IsUnionOf}
use Rattle.placed_shards.proofs.Equations.Ranges.{unites_within, whole_of_consecutive}
use Rattle.placed_shards.proofs.Equations.Unions.{unites_once}
use Rattle.placed_shards.proofs.Selections.{opens_selected_once, selected}

-- a list has one pair of halves
same_halves : (inputs firsts seconds fronts backs : List (List ℕ)) → AreHalves inputs firsts seconds → AreHalves inputs fronts backs → (firsts ≡ fronts) × (seconds ≡ backs)
same_halves inputs firsts seconds fronts backs one other = same_parts firsts fronts seconds backs (one.half ∙ sym other.half) (sym one.are ∙ other.are)

-- a list of one has no halves
no_halves : {Z : Type 0} (inputs firsts seconds : List (List ℕ)) (x : List ℕ) → inputs ≡ x ∷ [] → AreHalves inputs firsts seconds → Z
no_halves inputs firsts seconds x is halves = absurd (omega (arith, halves.some, ap length is))

same_first : (x y : List ℕ) → x ∷ [] ≡ y ∷ [] → x ≡ y
same_first x y same = ap first_or same where
  first_or : List (List ℕ) → List ℕ
  first_or [] = x
  first_or (z ∷ zs) = z

pub one_merge : (selection : Selection) (inputs : List (List ℕ)) (m n : Content) → IsMergeOf selection inputs m → IsMergeOf selection inputs n → m ≡ n
one_merge selection inputs m n (of_one x is opens) (of_one y also others) =
    opens_selected_once selection x m n opens (subst (λ z. OpensSelected selection z n) (same_first y x (sym also ∙ is)) others)
one_merge selection inputs m n (of_one x is opens) (of_halves firsts seconds c d halves one other unites) = no_halves inputs firsts seconds x is halves
one_merge selection inputs m n (of_halves firsts seconds c d halves one other unites) (of_one x is opens) = no_halves inputs firsts seconds x is halves
one_merge selection inputs m n (of_halves firsts seconds c d halves one other unites) (of_halves fronts backs e f also front back made) =
    let same = same_halves inputs firsts seconds fronts backs halves also in
    let left : c ≡ e = one_merge selection firsts c e one (subst (λ l. IsMergeOf selection l e) (sym same.0) front) in
    let right : d ≡ f = one_merge selection seconds d f other (subst (λ l. IsMergeOf selection l f) (sym same.1) back) in
    unites_once IsEitherFile IsEitherXorb files_unique xorbs_unique c d m n unites (subst (λ p. p) (λ i. IsUnionOf (sym left i) (sym right i) n) made)

-- all records are in the range of all hashes
all_pass : {X : Type 0} (xs : List X) → filter (λ x. true) xs ≡ xs
all_pass [] = refl
all_pass (x ∷ xs) = ap (λ ys. x ∷ ys) (all_pass xs)

pub merge_within : (range : HashRange) (inputs : List (List ℕ)) (whole : Content) → IsMergeOf all_records inputs whole → IsMergeOf (by_scan range) inputs (content_within range whole)
merge_within range inputs whole (of_one x is (opened, opens, same)) = of_one x is (opened, opens, within) where
  within : content_within range whole ≡ with_all_tables (content_within range opened)
  within =
      ap (content_within range) same
      ∙ (λ i. content_within range (record (with_all_tables (content_within all_hashes opened)) { files = all_pass opened.files i; xorbs = all_pass opened.xorbs i }))
merge_within range inputs whole (of_halves firsts seconds c d halves one other unites) =
    of_halves firsts seconds (content_within range c) (content_within range d) halves (merge_within range firsts c one) (merge_within range seconds d other)
    (unites_within IsEitherFile IsEitherXorb refl refl range c d whole unites)

ascends : (inputs : List (List ℕ)) (whole : Content) → IsMergeOf all_records inputs whole → AscendBoth whole
ascends inputs whole (of_one x is opens) = (selected all_records x whole opens).ascend
ascends inputs whole (of_halves firsts seconds c d halves one other unites) = record { files = unites.files.combined.ascends; xorbs = unites.xorbs.combined.ascends }

-- the merges of some ranges have, one after another, the records of the whole in these ranges
in_ranges : {X : Type 0} (listed : Content → List X) (inputs : List (List ℕ)) (whole : Content) → IsMergeOf all_records inputs whole → (ranges : List HashRange) (parts : List Content)
    → AllZip (λ range part. IsMergeOf (by_scan range) inputs part) ranges parts → flat_map listed parts ≡ flat_map (λ range. listed (content_within range whole)) ranges
in_ranges listed inputs whole merged [] [] all = refl
in_ranges listed inputs whole merged [] (part ∷ parts) all = absurd all
in_ranges listed inputs whole merged (range ∷ ranges) [] all = absurd all
in_ranges listed inputs whole merged (range ∷ ranges) (part ∷ parts) (here, rest) =
    let first : part ≡ content_within range whole = one_merge (by_scan range) inputs part (content_within range whole) here (merge_within range inputs whole merged) in
    let more = in_ranges listed inputs whole merged ranges parts rest in
    λ i. listed (first i) ++ more i

module _ (inputs : List (List ℕ)) (whole : Content) (merged : IsMergeOf all_records inputs whole) (cuts : List DataHash) (parts : List Content) (are : AreCuts None cuts None)
    (all : AllZip (λ range part. IsMergeOf (by_scan range) inputs part) (ranges_between None cuts None) parts) where
  pub files_of_ranges : flat_map (λ part. part.files) parts ≡ whole.files
  files_of_ranges = in_ranges (λ (c : Content). c.files) inputs whole merged (ranges_between None cuts None) parts all ∙ whole_of_consecutive file_records cuts whole.files are (ascends inputs whole merged).files

  pub xorbs_of_ranges : flat_map (λ part. part.xorbs) parts ≡ whole.xorbs
  xorbs_of_ranges = in_ranges (λ (c : Content). c.xorbs) inputs whole merged (ranges_between None cuts None) parts all ∙ whole_of_consecutive xorb_records cuts whole.xorbs are (ascends inputs whole merged).xorbs
