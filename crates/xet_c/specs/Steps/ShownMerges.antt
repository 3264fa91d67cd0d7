-- How a merge of byte strings whose shards have to agree is shown.
use Rattle.std.specs.Prelude.{◌≡◌, ⊤, ℕ, List, Ok, Err, MatchResult}
use Rattle.placed_shards.specs.declared.strict.Agreed.{Agreed}
use Rattle.placed_shards.specs.declared.strict.Agreed.TheVariants.{Made, Disagreements, Malformed}
use Rattle.placed_shards.specs.declared.selection.Selection.{Selection}
use Rattle.placed_shards.specs.Filling.{Fills}
use Rattle.placed_shards.specs.MergeSizes.{IsResultSize}
use Rattle.placed_shards.specs.Strict.{IsAgreedOr}
use Rattle.xet_core_structures.specs.Errors.{CoreResult, variant_number}
use Rattle.xet_c.specs.declared.agree.XetDisagreement.{XetDisagreement}
use Rattle.xet_c.specs.Agreeing.{AreMerged, RefusesAgreed, ShowsFirst, c_malformed}
use Rattle.xet_c.specs.Output.{Answers}
use Rattle.xet_c.specs.NumberedVersions.{InNumber, NotInNumber}

-- what a merge of byte strings that have to agree puts to the front of a slice, in the version with
-- a number, if there is a merge; else the slice stays
abbrev pub FillsAgreed : Selection → (number : ℕ) → List (List ℕ) → (old new : List ℕ) → Agreed ℕ
    → Type 0
FillsAgreed selection number inputs old new (Made size) =
    (bytes : List ℕ) × InNumber number (λ v. AreMerged selection v inputs) bytes
    × Fills bytes old new size
FillsAgreed selection number inputs old new (Disagreements found) =
    IsAgreedOr {T = ℕ} selection inputs (λ size. ⊥) (Disagreements found) × (new ≡ old)
FillsAgreed selection number inputs old new (Malformed m) =
    IsAgreedOr {T = ℕ} selection inputs (λ size. ⊥) (Malformed m) × (new ≡ old)

-- the same, or why there is none of these: then the slice stays
abbrev pub FillsIfAgreeing : Selection → (number : ℕ) → List (List ℕ) → (old new : List ℕ)
    → CoreResult (Agreed ℕ) → Type 0
FillsIfAgreeing selection number inputs old new result =
    MatchResult result (FillsAgreed selection number inputs old new)
    (λ e. NotInNumber number (λ v. RefusesAgreed selection v inputs) e × (new ≡ old))

-- it has at most so many bytes as a merge of any shards
abbrev pub HasFillSize : List (List ℕ) → Agreed ℕ → Type 0
HasFillSize inputs (Made size) = IsResultSize inputs size
HasFillSize inputs (Disagreements found) = ⊤
HasFillSize inputs (Malformed m) = ⊤

-- how a merge to an output of so many bytes is shown
abbrev pub ShowsFill : CoreResult (Agreed ℕ) → ℕ → ℕ → (old new : XetDisagreement) → ℕ → ℕ
    → Type 0
ShowsFill (Ok (Made size)) room written old new count result =
    Answers room written result size × (count ≡ 0) × (new ≡ old)
ShowsFill (Ok (Disagreements all)) room written old new count result =
    (written ≡ 0) × ShowsFirst all.items old new count × (result ≡ 20)
ShowsFill (Ok (Malformed m)) room written old new count result =
    (written ≡ 0) × (count ≡ 0) × (new ≡ c_malformed m) × (result ≡ 21)
ShowsFill (Err e) room written old new count result =
    (written ≡ 0) × (count ≡ 0) × (new ≡ old) × (result ≡ variant_number e)
