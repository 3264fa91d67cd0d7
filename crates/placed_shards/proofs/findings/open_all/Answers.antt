use Rattle.std.proofs.Common.{◌≤◌, List, ℕ, length, map, take_all, Bor, subst, arith}
use Rattle.std.specs.Prelude.{⊤}
use Rattle.std.specs.List.{AllZip}
use Rattle.std.proofs.lemmas.List.{length-map}
use Rattle.std.proofs.lemmas.Result.{err_from_is_err_and}
use Rattle.placed_shards.specs.Steps.MergingSteps.{IsOpenedAlone}
use Rattle.placed_shards.proofs.OpenedInputs.{alone_up_to, bytes_at, first_unread, one_more_alone}
use Rattle.placed_shards.proofs.findings.open_all.Goals as goal

pub returns-in_err-open_selected : goal.returns-in_err-open_selected
returns-in_err-open_selected c =
    let inputs : List (List ℕ) = map (λ (x : Bor (List ℕ)). x.now) c.args.inputs.now in
    let i = c.loop-input.input-index in
    let p = err_from_is_err_and c.from_residual-in_err-open_selected.result c.from_residual-in_err-open_selected.ensures.1 in
    rw (p.1, p.2) (first_unread c.args.selection (λ c. ⊤) inputs i (alone_up_to c.args.selection inputs i c.loop-input.opened.items c.loop-input.invariant) _ (bytes_at c.args.inputs.now i _ c.loop-input-test.true) _ c.in_err-open_selected.ensures)

pub loop-input-preserved : goal.loop-input-preserved
loop-input-preserved c =
    let inputs : List (List ℕ) = map (λ (x : Bor (List ℕ)). x.now) c.args.inputs.now in
    let i = c.loop-input.input-index in
    one_more_alone c.args.selection inputs i _ c.loop-input.opened.items c.push.new.self.items _ c.loop-input.invariant (bytes_at c.args.inputs.now i _ c.loop-input-test.true) c.in_ok-open_selected.ensures c.in_ok-push.ensures.items

pub returns : goal.returns
returns c =
    let inputs : List (List ℕ) = map (λ (x : Bor (List ℕ)). x.now) c.args.inputs.now in
    let i = c.loop-input.input-index in
    let past : length inputs ≤ i = omega (arith, c.loop-input-test.false, length-map c.args.inputs.now (λ (x : Bor (List ℕ)). x.now)) in
    subst (λ xs. AllZip (IsOpenedAlone c.args.selection) xs c.loop-input.opened.items) (take_all i inputs past) c.loop-input.invariant
