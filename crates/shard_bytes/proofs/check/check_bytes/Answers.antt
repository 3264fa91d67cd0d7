use Rattle.std.proofs.Common.{◌≡◌, ◌↔◌, [], ◌∷◌}
use Rattle.std.specs.Prelude.{All, Contains}
use Rattle.std.proofs.lemmas.Result.{IfOk-weaker}
use Rattle.shard_bytes.specs.declared.check.Finding.{Finding}
use Rattle.shard_bytes.specs.Checking.{IsWhole, IsIntact, IsFinding, IsNote, HoldsSomeShard}
use Rattle.shard_bytes.specs.Steps.CheckingSteps.{IsReport}
use Rattle.shard_bytes.proofs.Reading.{not_loaded}
use Rattle.shard_bytes.proofs.Whole.{nothing_wrong, nothing_lost, holds_one}
use Rattle.shard_bytes.proofs.check.check_bytes.Goals as goal

pub returns-in-Ok-clause-whole : goal.returns-in-Ok-clause-whole
returns-in-Ok-clause-whole c =
    let bytes = c.args.bytes.now in
    IfOk-weaker c.check_sections.result (λ found. IsReport bytes found.items) (λ found. (found.items ≡ []) ↔ IsWhole bytes)
    (λ found report. (report.none, λ whole. nothing_wrong bytes whole found.items report.each)) c.check_sections.ensures.report

pub returns-in-Err-clause-whole : goal.returns-in-Err-clause-whole
returns-in-Err-clause-whole c =
    let bytes = c.args.bytes.now in
    let f = c.load_finding.result in
    IfOk-weaker c.single_finding.result (λ found. found.items ≡ f ∷ []) (λ found. (found.items ≡ []) ↔ IsWhole bytes)
    (λ found one.
    let report : IsReport bytes found.items = not_loaded bytes f found.items c.load_finding.ensures one in
    (report.none, λ whole. nothing_wrong bytes whole found.items report.each))
    c.single_finding.ensures.ok

pub returns-in-Ok-clause-intact : goal.returns-in-Ok-clause-intact
returns-in-Ok-clause-intact c =
    let bytes = c.args.bytes.now in
    IfOk-weaker c.check_sections.result (λ found. IsReport bytes found.items) (λ found. All IsNote found.items ↔ IsIntact bytes)
    (λ found report. (report.notes, λ intact. nothing_lost bytes intact found.items report.each)) c.check_sections.ensures.report

pub returns-in-Err-clause-intact : goal.returns-in-Err-clause-intact
returns-in-Err-clause-intact c =
    let bytes = c.args.bytes.now in
    let f = c.load_finding.result in
    IfOk-weaker c.single_finding.result (λ found. found.items ≡ f ∷ []) (λ found. All IsNote found.items ↔ IsIntact bytes)
    (λ found one.
    let report : IsReport bytes found.items = not_loaded bytes f found.items c.load_finding.ensures one in
    (report.notes, λ intact. nothing_lost bytes intact found.items report.each))
    c.single_finding.ensures.ok

pub returns-in-Ok-clause-shard : goal.returns-in-Ok-clause-shard
returns-in-Ok-clause-shard c =
    let bytes = c.args.bytes.now in
    IfOk-weaker c.check_sections.result (λ found. IsReport bytes found.items) (λ found. All IsNote found.items → HoldsSomeShard bytes)
    (λ found report notes. holds_one bytes (report.notes notes)) c.check_sections.ensures.report

pub returns-in-Err-clause-shard : goal.returns-in-Err-clause-shard
returns-in-Err-clause-shard c =
    let bytes = c.args.bytes.now in
    let f = c.load_finding.result in
    IfOk-weaker c.single_finding.result (λ found. found.items ≡ f ∷ []) (λ found. All IsNote found.items → HoldsSomeShard bytes)
    (λ found one notes.
    let report : IsReport bytes found.items = not_loaded bytes f found.items c.load_finding.ensures one in
    holds_one bytes (report.notes notes))
    c.single_finding.ensures.ok

pub returns-in-Err-clause-each : goal.returns-in-Err-clause-each
returns-in-Err-clause-each c =
    let bytes = c.args.bytes.now in
    let f = c.load_finding.result in
    IfOk-weaker c.single_finding.result (λ found. found.items ≡ f ∷ []) (λ found. All (IsFinding bytes) found.items)
    (λ found one. (not_loaded bytes f found.items c.load_finding.ensures one).each)
    c.single_finding.ensures.ok

pub returns-in-Err-clause-all : goal.returns-in-Err-clause-all
returns-in-Err-clause-all c =
    let bytes = c.args.bytes.now in
    let f = c.load_finding.result in
    IfOk-weaker c.single_finding.result (λ found. found.items ≡ f ∷ []) (λ found. (g : Finding) → IsFinding bytes g → Contains found.items g)
    (λ found one. (not_loaded bytes f found.items c.load_finding.ensures one).all)
    c.single_finding.ensures.ok
