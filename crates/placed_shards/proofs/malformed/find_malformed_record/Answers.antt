use Rattle.std.proofs.Common.{◌<◌, length, take_all, IsTrue, false, rules, refl, sym, ap, ◌∙◌, subst}
use Rattle.std.specs.Prelude.{All}
use Rattle.std.proofs.lemmas.List.Elements.{All-more}
use Rattle.std.proofs.lemmas.Option.{slice_get_read}
use Rattle.placed_shards.proofs.MalformedRecords.{few_rows, malformed_found, all_formed}
use Rattle.placed_shards.proofs.malformed.find_malformed_record.Goals as goal

pub is_formed-requires : goal.is_formed-requires
is_formed-requires g c = λ k.
    let low : c.loop-record.record-index < length c.args.records.now = search rules in
    let at = slice_get_read c.args.records.now (length c.args.records.now) c.loop-record.record-index c.record-item.result refl low c.record-item.is in
    ((refl, tt), few_rows g.P.PlacedRecord.kind g.P.RecordRule.IsFormed c.args.records.now c.loop-record.record-index c.record-item.result at c.requires)

pub returns-then-not-is_formed : goal.returns-then-not-is_formed
returns-then-not-is_formed g c =
    let K = g.P.PlacedRecord.kind in
    let low : c.loop-record.record-index < length c.args.records.now = search rules in
    let at = slice_get_read c.args.records.now (length c.args.records.now) c.loop-record.record-index c.record-item.result refl low c.record-item.is in
    let none : ¬ IsTrue false = search rules in
    malformed_found K g.P.RecordRule.IsFormed c.args.records.now c.loop-record.record-index c.record-item.result c.hash.result at
    (c.hash.ensures ∙ ap K.hash_of (sym (c.laws.ensures.laws.same_header c.record-item.result)))
    (λ has. none (subst IsTrue c.if-not-is_formed.true (c.is_formed.ensures.1 has)))

pub loop-record-preserved : goal.loop-record-preserved
loop-record-preserved g c =
    let K = g.P.PlacedRecord.kind in
    let up : IsTrue c.is_formed.result = search rules in
    All-more (λ r. g.P.RecordRule.IsFormed (K.as_read r)) _ _ c.record-item.result c.loop-record-test.true c.loop-record.invariant
    (subst (λ r. g.P.RecordRule.IsFormed (K.as_read r)) c.record-item.is (c.is_formed.ensures.0 up))

pub returns : goal.returns
returns g c =
    let K = g.P.PlacedRecord.kind in
    all_formed K g.P.RecordRule.IsFormed c.args.records.now (subst (All (λ r. g.P.RecordRule.IsFormed (K.as_read r))) (take_all _ _ c.loop-record-test.false) c.loop-record.invariant)
