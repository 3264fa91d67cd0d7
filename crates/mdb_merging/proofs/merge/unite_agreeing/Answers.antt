use Rattle.std.proofs.Common.{◌≡◌, ◌<◌, ◌∙◌, arith, map, inl, inr, ap, subst, length, slice_index_or, List, [], ◌∷◌, ℕ, Bor, Vec, Global}
use Rattle.placed_shards.specs.declared.findings.Disagreement.{Disagreement}
use Rattle.placed_shards.specs.Content.{Content}
use Rattle.placed_shards.specs.Findings.{AreOpened, HasAllDisagreements}
use Rattle.placed_shards.specs.Selections.{all_records}
use Rattle.placed_shards.specs.Strict.{IsAgreedOr, IsJoinedMerge}
use Rattle.shard_bytes.specs.Versions.{IsWrittenIn}
use Rattle.mdb_report.specs.declared.fault.Fault.TheVariants.{Disagree}
use Rattle.mdb_base.specs.declared.failure.Failure.{Failure}
use Rattle.mdb_base.specs.MergeOutcomes.{SaysDisagree}
use Rattle.mdb_merging.proofs.merge.unite_agreeing.Goals as goal

-- the failure counts all that was found, and names the first
says_disagree : (inputs : List (List ℕ)) (failure : Failure) (cs : List Content) → AreOpened all_records inputs cs → (found : List Disagreement) → 0 < length found → HasAllDisagreements cs found
    → (first : Disagreement) (count : ℕ) → first ≡ slice_index_or found 0 first → count ≡ length found → failure.fault ≡ Disagree count first.record_hash → SaysDisagree inputs failure
says_disagree inputs failure cs opened [] some all first count is counts fault = absurd (omega (arith, some))
says_disagree inputs failure cs opened (f ∷ others) some all first count is counts fault =
    (cs, opened, f, others, all, fault ∙ (ap (λ n. Disagree n first.record_hash) counts ∙ ap (λ (d : Disagreement). Disagree (length (f ∷ others)) d.record_hash) is))

pub returns-in-Ok-Disagreements : goal.returns-in-Ok-Disagreements
returns-in-Ok-Disagreements c =
    let inputs : List (List ℕ) = map (λ (x : Bor (List ℕ)). x.now) c.args.inputs.now in
    let (differ, some, (cs, opened, formed, all)) = subst (IsAgreedOr all_records inputs (λ bytes. IsWrittenIn c.args.target.version (IsJoinedMerge all_records inputs) bytes.items)) c.in-Ok-Disagreements.field-0-is c.in-Ok-Disagreements.ensures.merged in
    let first = c.index.result.now in
    let is = subst (λ (v : Vec Disagreement Global). first ≡ slice_index_or v.items 0 first) c.in-Ok-Disagreements.found-is c.index.ensures in
    let counts = subst (λ (v : Vec Disagreement Global). c.len.result ≡ v.len) c.in-Ok-Disagreements.found-is c.len.ensures ∙ c.in-Ok-Disagreements.found.ok.0 in
    inr (inl (says_disagree inputs c.disagreement_under.result cs opened c.in-Ok-Disagreements.found.items some all first c.len.result is counts c.disagreement_under.ensures))
