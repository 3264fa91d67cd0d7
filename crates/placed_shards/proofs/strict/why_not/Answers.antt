use Rattle.std.proofs.Common.{Bor, ℕ, List, ◌<◌, inl, inr, length, map, rules, subst}
use Rattle.std.specs.Prelude.{⊤, All}
use Rattle.std.proofs.lemmas.Result.{err_from_is_err_and}
use Rattle.placed_shards.specs.Content.{Content}
use Rattle.placed_shards.specs.Findings.{HasAllDisagreements, HasFormedRecords}
use Rattle.placed_shards.proofs.FoundAgreeing.{TellsMalformed, no_items, none_found, one_malformed, opened_read, some_disagree}
use Rattle.placed_shards.proofs.Selections.{opened_once}
use Rattle.placed_shards.proofs.strict.why_not.Goals as goal

pub returns-in_err-record : goal.returns-in_err-record
returns-in_err-record c =
    let p = err_from_is_err_and c.from_residual.result c.from_residual.ensures.1 in
    rw (p.1, p.2) (inl c.in_err-record.ensures)

pub returns-in-Some : goal.returns-in-Some
returns-in-Some c =
    let inputs : List (List ℕ) = map (λ (x : Bor (List ℕ)). x.now) c.args.inputs.now in
    let first = subst (TellsMalformed c.args.selection.now inputs) c.in-Some.is c.in_ok-record.ensures in
    (one_malformed c.args.selection.now inputs c.in-Some.record first, first)

pub returns-in_err-found : goal.returns-in_err-found
returns-in_err-found c =
    let inputs : List (List ℕ) = map (λ (x : Bor (List ℕ)). x.now) c.args.inputs.now in
    let formed = subst (TellsMalformed c.args.selection.now inputs) c.in_default.is c.in_ok-record.ensures in
    let p = err_from_is_err_and c.from_residual-in_err-found.result c.from_residual-in_err-found.ensures.1 in
    rw (p.1, p.2) (inl (inl (opened_read c.args.selection.now inputs (λ (d : Content). ⊤) formed.0 _ formed.1 c.in_err-found.ensures)))

pub returns-then-is_empty : goal.returns-then-is_empty
returns-then-is_empty c =
    let inputs : List (List ℕ) = map (λ (x : Bor (List ℕ)). x.now) c.args.inputs.now in
    let formed = subst (TellsMalformed c.args.selection.now inputs) c.in_default.is c.in_ok-record.ensures in
    let told = c.in_ok-found.ensures in
    let none = no_items c.in_ok-found.found.items (search rules) in
    let agreeing = none_found c.args.selection.now inputs formed.0 told.0 formed.1 formed.2 told.1 (subst (HasAllDisagreements told.0) none told.2) in
    inr (agreeing, c.requires agreeing)

pub returns : goal.returns
returns c =
    let inputs : List (List ℕ) = map (λ (x : Bor (List ℕ)). x.now) c.args.inputs.now in
    let formed = subst (TellsMalformed c.args.selection.now inputs) c.in_default.is c.in_ok-record.ensures in
    let told = c.in_ok-found.ensures in
    let some : 0 < length c.in_ok-found.found.items = search rules in
    let all = subst (All HasFormedRecords) (opened_once c.args.selection.now inputs formed.0 told.0 formed.1 told.1) formed.2 in
    (some_disagree c.args.selection.now inputs told.0 c.in_ok-found.found.items told.1 some told.2, some, (told.0, told.1, all, told.2))
