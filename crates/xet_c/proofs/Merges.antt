-- A merge of shards that have to agree, as it is shown.
use Rattle.std.proofs.Common.{◌≡◌, inl, inr, ℕ, ◌<◌, List, [], ◌∷◌, length, Ok, Err, sym, subst, arith}
use Rattle.std.specs.Prelude.{IfOk}
use Rattle.xet_core_structures.specs.Errors.{CoreResult}
use Rattle.placed_shards.specs.declared.findings.Disagreement.{Disagreement}
use Rattle.placed_shards.specs.declared.selection.Selection.{Selection}
use Rattle.placed_shards.specs.declared.strict.Agreed.{Agreed}
use Rattle.placed_shards.specs.declared.strict.Agreed.TheVariants.{Made, Disagreements, Malformed}
use Rattle.placed_shards.specs.MergeSizes.{IsResultSize}
use Rattle.xet_c.specs.declared.agree.XetDisagreement.{XetDisagreement}
use Rattle.xet_c.specs.Agreeing.{ShowsFirst, MergesIfAgreeing}
use Rattle.xet_c.specs.Steps.ShownMerges.{FillsIfAgreeing, HasFillSize, ShowsFill}
use Rattle.xet_c.proofs.Outcomes.{delivers}

some_shown : (all : List Disagreement) (old new : XetDisagreement) (count : ℕ) → 0 < length all → ShowsFirst all old new count → 0 < count
some_shown [] old new count some shows = absurd (omega (arith, some))
some_shown (d ∷ ds) old new count some shows = omega (arith, shows.0)

module _ (asked : Selection) (number : ℕ) (inputs : List (List ℕ)) (before after : List ℕ) (room written : ℕ) (old new : XetDisagreement) (count result : ℕ) where
  pub merge_shown : (r : CoreResult (Agreed ℕ)) → room ≡ length before → FillsIfAgreeing asked number inputs before after r → ShowsFill r room written old new count result
      → MergesIfAgreeing asked number inputs before after written old new count result
  merge_shown (Ok (Made size)) room_is (bytes, merged, fills) (answers, none, stays) = inl (bytes, merged, delivers bytes before after room written result size room_is fills answers, none, stays)
  merge_shown (Ok (Disagreements found)) room_is ((not, some, (cs, opened, formed, all)), same) (none, shows, number) =
      inr (inl (not, cs, found.items, opened, formed, all, shows, some_shown found.items old new count some shows, number, none, same))
  merge_shown (Ok (Malformed m)) room_is ((not, first), same) (none, zero, shows, number) = inr (inr (inl (not, m, first, shows, zero, number, none, same)))
  merge_shown (Err e) room_is (cause, same) (none, zero, stays, number) = inr (inr (inr (e, cause, (number, none, same), zero, stays)))

pub size_of_merge : (inputs : List (List ℕ)) (room written : ℕ) (old new : XetDisagreement) (count result : ℕ) (r : CoreResult (Agreed ℕ)) → IfOk r (HasFillSize inputs) → IsResultSize inputs 0
    → ShowsFill r room written old new count result → IsResultSize inputs written
size_of_merge inputs room written old new count result (Ok (Made size)) says none shows = subst (IsResultSize inputs) (sym shows.0.0) says
size_of_merge inputs room written old new count result (Ok (Disagreements all)) says none shows = subst (IsResultSize inputs) (sym shows.0) none
size_of_merge inputs room written old new count result (Ok (Malformed m)) says none shows = subst (IsResultSize inputs) (sym shows.0) none
size_of_merge inputs room written old new count result (Err e) says none shows = subst (IsResultSize inputs) (sym shows.0) none
