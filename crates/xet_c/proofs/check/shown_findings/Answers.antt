use Rattle.std.proofs.Common.{◌≡◌, map, ap, ◌∙◌}
use Rattle.std.proofs.lemmas.Result.{IfOk-weaker}
use Rattle.xet_c.specs.ShownChecks.{c_finding, ShowsFindings}
use Rattle.xet_c.proofs.check.shown_findings.Goals as goal

pub returns-clause-ok : goal.returns-clause-ok
returns-clause-ok c =
    let checked = c.in_ok-findings.ensures in
    IfOk-weaker c.to_c_findings.result (λ shown. shown.items ≡ map c_finding c.as_slice.result.now) (λ shown. ShowsFindings c.args.shard.now shown.items)
    (λ shown is. record {
      findings = c.in_ok-findings.findings.items;
      each = checked.each;
      all = checked.all;
      whole = checked.whole;
      intact = checked.intact;
      shard = checked.shard;
      shown_are = is ∙ ap (map c_finding) c.as_slice.ensures.value;
    })
    c.to_c_findings.ensures.ok
