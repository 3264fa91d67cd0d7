use Rattle.std.proofs.Common.{◌≡◌, Ok, Err, MatchResult}
use Rattle.std.specs.Prelude.{IfOk, IfErr}
use Rattle.std.specs.declared.result.Result.{Result}
use Rattle.xet_core_structures.specs.declared.error.CoreError.TheVariants.{OutOfMemory}
use Rattle.xet_c.specs.ShownChecks.{ShowsFindings}
use Rattle.xet_c.proofs.Outcomes.{outcome}
use Rattle.xet_c.proofs.check.xet_check.Goals as goal

-- what is said of a success and of a failure is said of the result
match_result : {T E : Type 0} (r : Result T E) (Right : T → Type 0) (Wrong : E → Type 0) → IfOk r Right → IfErr r Wrong → MatchResult r Right Wrong
match_result (Ok v) Right Wrong right wrong = right
match_result (Err e) Right Wrong right wrong = wrong

pub returns : goal.returns
returns c =
    let bytes = c.args.shard.now in
    let found = c.shown_findings-found.result in
    outcome (ShowsFindings bytes) (λ e. e ≡ OutOfMemory) c.args.findings.now c.deliver.new.out c.deliver.new.written c.deliver.result found
    (match_result found (λ shown. ShowsFindings bytes shown.items) (λ e. e ≡ OutOfMemory) c.shown_findings-found.ensures.ok c.shown_findings-found.ensures.causes) c.deliver.ensures
