use Rattle.std.proofs.Common.{◌≤◌, List, ℕ, length, map, take_all, Bor, subst, arith}
use Rattle.std.specs.Prelude.{MatchOption}
use Rattle.std.proofs.lemmas.List.{length-map}
use Rattle.std.proofs.lemmas.Result.{err_from_is_err_and}
use Rattle.placed_shards.specs.Content.{content}
use Rattle.placed_shards.specs.Findings.{AreOpened, HasFormedRecords, HasMalformed}
use Rattle.placed_shards.proofs.OpenedInputs.{bytes_at, first_malformed, first_unread, one_more_opened}
use Rattle.placed_shards.proofs.findings.find_malformed.Goals as goal

pub returns-in_err-shard : goal.returns-in_err-shard
returns-in_err-shard c =
    let inputs : List (List ℕ) = map (λ (x : Bor (List ℕ)). x.now) c.args.inputs.now in
    let i = c.loop-input.input in
    let p = err_from_is_err_and c.from_residual.result c.from_residual.ensures.1 in
    rw (p.1, p.2) (first_unread c.args.selection.now HasFormedRecords inputs i c.loop-input.invariant _ (bytes_at c.args.inputs.now i _ c.loop-input-test.true) _ c.in_err-shard.ensures)

pub returns-in-Some : goal.returns-in-Some
returns-in-Some c =
    let inputs : List (List ℕ) = map (λ (x : Bor (List ℕ)). x.now) c.args.inputs.now in
    let i = c.loop-input.input in
    first_malformed c.args.selection.now inputs i c.loop-input.invariant _ (bytes_at c.args.inputs.now i _ c.loop-input-test.true) c.in_ok-shard.shard c.in_ok-shard.ensures c.in-Some.record_hash
    (subst (λ o. MatchOption o (HasFormedRecords (content c.in_ok-shard.shard)) (HasMalformed (content c.in_ok-shard.shard))) c.in-Some.is c.malformed_in.ensures)

pub loop-input-preserved : goal.loop-input-preserved
loop-input-preserved c =
    let inputs : List (List ℕ) = map (λ (x : Bor (List ℕ)). x.now) c.args.inputs.now in
    let i = c.loop-input.input in
    let opened = c.in_ok-shard.ensures in
    one_more_opened c.args.selection.now HasFormedRecords inputs i c.loop-input.invariant _ (bytes_at c.args.inputs.now i _ c.loop-input-test.true) (content c.in_ok-shard.shard) opened.opens
    (subst (λ o. MatchOption o (HasFormedRecords (content c.in_ok-shard.shard)) (HasMalformed (content c.in_ok-shard.shard))) c.in_default.is c.malformed_in.ensures)

pub returns : goal.returns
returns c =
    let inputs : List (List ℕ) = map (λ (x : Bor (List ℕ)). x.now) c.args.inputs.now in
    let i = c.loop-input.input in
    let before = c.loop-input.invariant in
    let past : length inputs ≤ i = omega (arith, c.loop-input-test.false, length-map c.args.inputs.now (λ (x : Bor (List ℕ)). x.now)) in
    (before.shards, subst (λ xs. AreOpened c.args.selection.now xs before.shards) (take_all i inputs past) before.opened, before.hold)
