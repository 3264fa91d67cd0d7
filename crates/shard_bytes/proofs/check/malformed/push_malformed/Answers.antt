use Rattle.std.proofs.Common.{◌≡◌, ◌≤◌, Some, length, sym, ap, ◌∙◌, arith}
use Rattle.std.specs.Prelude.{slice_get}
use Rattle.std.proofs.lemmas.Option.{slice_get-get_or}
use Rattle.shard_bytes.proofs.Malformed.{one_more_judged, all_judged}
use Rattle.shard_bytes.proofs.check.malformed.push_malformed.Goals as goal

pub loop-index-preserved : goal.loop-index-preserved
loop-index-preserved g c =
    let rs = c.args.records.now in
    let i = c.loop-index.index in
    let r = c.index-records-index.result in
    let at : slice_get rs i ≡ Some r = slice_get-get_or rs i r (omega arith) ∙ ap Some (sym c.index-records-index.is) in
    one_more_judged g.P.Judged.formed rs c.args.section i r c.is_formed-formed.result c.args.findings.now.items c.loop-index.findings.items c.push_unless.new.findings.items at c.is_formed-formed.ensures
    c.loop-index.invariant c.in_ok-push_unless.ensures.added

pub returns-clause-added : goal.returns-clause-added
returns-clause-added g c =
    let past : length c.args.records.now ≤ c.loop-index.index = omega (arith, c.loop-index-test.false) in
    all_judged g.P.Judged.formed c.args.records.now c.args.section c.loop-index.index c.args.findings.now.items c.loop-index.findings.items past c.loop-index.invariant
