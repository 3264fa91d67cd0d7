-- Merges by tables in ranges that follow one another and leave no hash out are those by a scan.
use Rattle.std.proofs.Common.{◌≡◌, inl, inr, ℕ, zero, suc, List, [], ◌∷◌, None, refl, sym, ap, ◌∙◌, subst, arith}
use Rattle.std.specs.Prelude.{Contains}
use Rattle.std.specs.List.{AllZip}
use Rattle.std.proofs.lemmas.List.Elements.{Contains-append_cases, Contains-append_left, Contains-append_right, Contains-push}
use Rattle.xet_base.specs.declared.merklehash.DataHash.{DataHash}
use Rattle.placed_shards.specs.declared.range.HashRange.{HashRange}
use Rattle.placed_shards.specs.declared.selection.Selection.{Selection}
use Rattle.placed_shards.specs.ByTables.{OpensByTables}
use Rattle.placed_shards.specs.Content.{Content, content_within, with_all_tables}
use Rattle.placed_shards.specs.MergedLists.{IsMergeOf}
use Rattle.placed_shards.specs.MergedLists.IsMergeOf.{of_one, of_halves}
use Rattle.placed_shards.specs.Opening.{Opens}
use Rattle.placed_shards.specs.Ranges.{ranges_between, AreCuts}
use Rattle.placed_shards.specs.Selections.{by_scan, by_tables, OpensSelected, OpensWithin}
use Rattle.placed_shards.proofs.Items.{only_item}
use Rattle.placed_shards.proofs.OneByTables.{one_by_tables}
use Rattle.placed_shards.proofs.ConsecutiveTables.{tables_lose_no_record}

-- each input of a merge was opened
leaf : (selection : Selection) (inputs : List (List ℕ)) (made : Content) → IsMergeOf selection inputs made → (x : List ℕ) → Contains inputs x → (c : Content) × OpensSelected selection x c
leaf selection inputs made (of_one y is opens) x at = (made, subst (λ z. OpensSelected selection z made) (only_item y x (subst (λ l. Contains l x) is at)) opens)
leaf selection inputs made (of_halves firsts seconds c d halves one other unites) x at =
    elim (Contains-append_cases firsts seconds x (subst (λ l. Contains l x) halves.are at)) [
      | inl here ↦ leaf selection firsts c one x here
      | inr there ↦ leaf selection seconds d other x there
    ]

-- a merge is one by another selection, by which its inputs are opened as well
merged_as : (s t : Selection) (inputs : List (List ℕ)) (made : Content) → ((x : List ℕ) → Contains inputs x → (c : Content) → OpensSelected s x c → OpensSelected t x c) → IsMergeOf s inputs made → IsMergeOf t inputs made
merged_as s t inputs made also (of_one x is opens) = of_one x is (also x (subst (λ l. Contains l x) (sym is) (Contains-push [] x)) made opens)
merged_as s t inputs made also (of_halves firsts seconds c d halves one other unites) =
    of_halves firsts seconds c d halves
    (merged_as s t firsts c (λ x at. also x (subst (λ l. Contains l x) (sym halves.are) (Contains-append_left firsts seconds x at))) one)
    (merged_as s t seconds d (λ x at. also x (subst (λ l. Contains l x) (sym halves.are) (Contains-append_right firsts seconds x at))) other)
    unites

-- what each of some ranges has of one input
leaves_of : (inputs : List (List ℕ)) (x : List ℕ) → Contains inputs x → (ranges : List HashRange) (merges : List Content) → AllZip (λ range made. IsMergeOf (by_tables range) inputs made) ranges merges
    → (parts : List Content) × AllZip (λ range part. OpensByTables range x part) ranges parts
leaves_of inputs x at [] [] all = ([], tt)
leaves_of inputs x at [] (made ∷ merges) all = absurd all
leaves_of inputs x at (range ∷ ranges) [] all = absurd all
leaves_of inputs x at (range ∷ ranges) (made ∷ merges) (here, rest) =
    let first = leaf (by_tables range) inputs made here x at in
    let more = leaves_of inputs x at ranges merges rest in
    (first.0 ∷ more.0, (first.1, more.1))

-- by its tables each has what it has by a scan
abbrev AreFound : List (List ℕ) → HashRange → Type 0
AreFound inputs range = (x : List ℕ) → Contains inputs x → (c : Content) → OpensByTables range x c → OpensWithin range x c

as_scanned : (x : List ℕ) (whole : Content) → Opens x whole → (ranges : List HashRange) (parts : List Content) → AllZip (λ range part. OpensByTables range x part) ranges parts → AllZip (λ range part. part ≡ with_all_tables (content_within range whole)) ranges parts
    → (range : HashRange) → Contains ranges range → (c : Content) → OpensByTables range x c → OpensWithin range x c
as_scanned x whole opens [] [] found are range at c by = absurd (omega (arith, at.1))
as_scanned x whole opens [] (part ∷ parts) found are range at c by = absurd found
as_scanned x whole opens (r ∷ ranges) [] found are range at c by = absurd found
as_scanned x whole opens (r ∷ ranges) (part ∷ parts) (here, rest) (is, more) range (zero, low, there) c by =
    (whole, opens, one_by_tables range x c part by (subst (λ r. OpensByTables r x part) there here) ∙ is ∙ ap (λ r. with_all_tables (content_within r whole)) there)
as_scanned x whole opens (r ∷ ranges) (part ∷ parts) (here, rest) (is, more) range (suc k, low, there) c by =
    as_scanned x whole opens ranges parts rest more range (k, omega (arith, low), there) c by

-- of all merges
all_merged : (inputs : List (List ℕ)) (all ranges : List HashRange) (merges : List Content) → ((range : HashRange) → Contains all range → AreFound inputs range) → ((range : HashRange) → Contains ranges range → Contains all range)
    → AllZip (λ range made. IsMergeOf (by_tables range) inputs made) ranges merges → AllZip (λ range made. IsMergeOf (by_scan range) inputs made) ranges merges
all_merged inputs all [] [] found among merged = tt
all_merged inputs all [] (made ∷ merges) found among merged = absurd merged
all_merged inputs all (range ∷ ranges) [] found among merged = absurd merged
all_merged inputs all (range ∷ ranges) (made ∷ merges) found among (here, rest) = (
  merged_as (by_tables range) (by_scan range) inputs made (found range (among range (0, omega arith, refl))) here,
  all_merged inputs all ranges merges found (λ r at. among r (Contains-append_right (range ∷ []) ranges r at)) rest,
)

pub merges_lose_no_record : (inputs : List (List ℕ)) (cuts : List DataHash) (merges : List Content) → AreCuts None cuts None → AllZip (λ range made. IsMergeOf (by_tables range) inputs made) (ranges_between None cuts None) merges
    → AllZip (λ range made. IsMergeOf (by_scan range) inputs made) (ranges_between None cuts None) merges
merges_lose_no_record inputs cuts merges are merged =
    let ranges = ranges_between None cuts None in
    all_merged inputs ranges ranges merges
    (λ range among x at.
    let parts = leaves_of inputs x at ranges merges merged in
    let one = tables_lose_no_record x cuts parts.0 are parts.1 in
    as_scanned x one.0 one.1 ranges parts.0 parts.1 one.2 range among)
    (λ range at. at) merged

pub merges_find_records : (range : HashRange) (inputs : List (List ℕ)) (made : Content) → ((x : List ℕ) → Contains inputs x → (c : Content) → OpensWithin range x c → OpensByTables range x c) → IsMergeOf (by_scan range) inputs made → IsMergeOf (by_tables range) inputs made
merges_find_records range inputs made found merged = merged_as (by_scan range) (by_tables range) inputs made found merged
