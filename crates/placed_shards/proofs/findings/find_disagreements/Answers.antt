use Rattle.std.proofs.Common.{inl, List, ℕ, map, Bor, sym, subst}
use Rattle.std.specs.List.{AllZip}
use Rattle.std.proofs.lemmas.Result.{MatchResult-weaker}
use Rattle.placed_shards.specs.Content.{content}
use Rattle.placed_shards.specs.Steps.MergingSteps.{IsOpenedAlone}
use Rattle.placed_shards.proofs.OpenedInputs.{all_read, contents_opened}
use Rattle.placed_shards.proofs.findings.find_disagreements.Goals as goal

pub disagreements_of-requires : goal.disagreements_of-requires
disagreements_of-requires c =
    let inputs : List (List ℕ) = map (λ (x : Bor (List ℕ)). x.now) c.args.inputs.now in
    all_read c.args.selection.now inputs c.as_slice.result.now (subst (AllZip (IsOpenedAlone c.args.selection.now) inputs) (sym c.as_slice.ensures.value) c.in_ok-shards.ensures)

pub returns : goal.returns
returns c =
    let inputs : List (List ℕ) = map (λ (x : Bor (List ℕ)). x.now) c.args.inputs.now in
    let shards = c.as_slice.result.now in
    let are : AllZip (IsOpenedAlone c.args.selection.now) inputs shards = subst (AllZip (IsOpenedAlone c.args.selection.now) inputs) (sym c.as_slice.ensures.value) c.in_ok-shards.ensures in
    MatchResult-weaker c.disagreements_of.result c.disagreements_of.ensures (λ found all. (map content shards, contents_opened c.args.selection.now inputs shards are, all)) (λ e is. inl is)
