use Rattle.std.proofs.Common.{◌<◌, ◌∷◌, ◌++◌, [], eqb, length, map, sym, ap, ◌∙◌, subst, arith}
use Rattle.std.proofs.lemmas.Bool.Decides.{nat_tests}
use Rattle.std.proofs.lemmas.List.{map-append}
use Rattle.std.proofs.lemmas.Iterator.Consumers.{YieldsList-turn, YieldsList-end}
use Rattle.std.proofs.lemmas.Iterator.Splits.{YieldsList-from_str_split}
use Rattle.std.specs.List.{slice_split}
use Rattle.script_lines.proofs.SpelledHashes.{RowsOf, lists_verification, parts_are, row_added, lists_no_hashes}
use Rattle.script_lines.proofs.records.parse_verification.Goals as goal

pub returns-in_err-parse_hash-clause-unreadable : goal.returns-in_err-parse_hash-clause-unreadable
returns-in_err-parse_hash-clause-unreadable c = λ _.
    let list = c.args.list.now in
    let some : 0 < length list = grind (arith, nat_tests) in
    let turn = YieldsList-turn (YieldsList-from_str_split 44 list (omega arith) (cc) (cc) (cc)) c.loop-hash.yielded _ c.loop-hash.yielded_by _ _ c.in-Some.hash c.in-Some.is c.next.ensures.steps in
    lists_no_hashes list c.in-Some.hash.now (slice_split (λ b. eqb b 44) list) (length c.loop-hash.yielded) (parts_are list some) turn.0 turn.1 c.in_err-parse_hash.ensures.none

pub loop-hash-preserved : goal.loop-hash-preserved
loop-hash-preserved c =
    let hash = c.in_ok-parse_hash.field-0 in
    let added = row_added (map (λ word. word.now) c.loop-hash.yielded) c.loop-hash.rows.items c.in-Some.hash.now hash c.loop-hash.invariant c.in_ok-parse_hash.ensures.hash in
    subst (λ words. RowsOf words c.push.new.self.items) (sym (map-append (λ word. word.now) c.loop-hash.yielded (c.in-Some.hash ∷ [])))
    (subst (RowsOf (map (λ word. word.now) c.loop-hash.yielded ++ c.in-Some.hash.now ∷ [])) (ap (λ row. c.loop-hash.rows.items ++ row ∷ []) (sym c.new.ensures) ∙ sym c.in_ok-push.ensures.items) added)

pub returns-clause-rows : goal.returns-clause-rows
returns-clause-rows c =
    let list = c.args.list.now in
    let some : 0 < length list = grind (arith, nat_tests) in
    let end = YieldsList-end (YieldsList-from_str_split 44 list (omega arith) (cc) (cc) (cc)) c.loop-hash.yielded _ c.loop-hash.yielded_by _ _ c.in-None.is c.next.ensures.steps in
    lists_verification list (map (λ word. word.now) c.loop-hash.yielded) c.loop-hash.rows.items (parts_are list some ∙ sym end.0) c.loop-hash.invariant
