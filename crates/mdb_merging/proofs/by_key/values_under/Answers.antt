use Rattle.std.proofs.Common.{arith, rules, ◌≡◌, length, true, false, [], ◌∷◌, ◌++◌, zip, cond, ap, sym, ◌∙◌}
use Rattle.std.proofs.lemmas.List.{take_all, append-nil}
use Rattle.std.proofs.lemmas.Slice.Zip.{zip_end, length-zip}
use Rattle.xet_base.specs.Hash.{hash_eq}
use Rattle.mdb_merging.proofs.Keys.{values_of_key, kept_at_turn}
use Rattle.mdb_merging.proofs.by_key.values_under.Goals as goal

-- a value under the key is kept
pub loop-value-preserved-in-Continue-1 : goal.loop-value-preserved-in-Continue-1
loop-value-preserved-in-Continue-1 g c =
    let value = c.in-Some.value.now in
    let same : hash_eq c.in-Some.its.now c.args.key.now ≡ true = sym c.eq.ensures ∙ c.if-eq.true in
    let pushed : c.push.new.self.items ≡ c.loop-value.found.items ++ value ∷ [] = search rules in
    pushed ∙ ap (λ b. c.loop-value.found.items ++ cond b (value ∷ []) []) (sym same)
    ∙ kept_at_turn c.args.key.now c.args.values.now c.args.keys.now c.loop-value.yielded
    c.into_iter-value-iterator.result c.loop-value.value-iterator c.next.new.self c.next.result (search rules)
    (search rules) c.loop-value.yielded_by (c.in-Some.value, c.in-Some.its) c.in-Some.is c.next.ensures.steps
    c.loop-value.found.items c.loop-value.invariant

-- and no other
pub loop-value-preserved : goal.loop-value-preserved
loop-value-preserved g c =
    let other : hash_eq c.in-Some.its.now c.args.key.now ≡ false = sym c.eq.ensures ∙ c.if-eq.false in
    sym (append-nil c.loop-value.found.items)
    ∙ ap (λ b. c.loop-value.found.items ++ cond b (c.in-Some.value.now ∷ []) []) (sym other)
    ∙ kept_at_turn c.args.key.now c.args.values.now c.args.keys.now c.loop-value.yielded
    c.into_iter-value-iterator.result c.loop-value.value-iterator c.next.new.self c.next.result (search rules)
    (search rules) c.loop-value.yielded_by (c.in-Some.value, c.in-Some.its) c.in-Some.is c.next.ensures.steps
    c.loop-value.found.items c.loop-value.invariant

-- all values were met
pub returns : goal.returns
returns g c =
    let values = c.args.values.now in
    let keys = c.args.keys.now in
    let count =
    zip_end values keys c.loop-value.yielded c.into_iter-value-iterator.result c.loop-value.value-iterator
    c.next.new.self c.next.result (search rules) (search rules) c.loop-value.yielded_by c.in-None.is
    c.next.ensures.steps in
    c.loop-value.invariant
    ∙ ap (values_of_key c.args.key.now) (
    take_all (length c.loop-value.yielded) (zip values keys) (omega (arith, count, length-zip values keys))
    )
