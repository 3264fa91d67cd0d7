use Rattle.std.proofs.Common.{rules, ◌≡◌, ◌+◌, ◌<◌, length, [], ◌∷◌, ◌++◌, take, get_or, cond, ap, sym, ◌∙◌}
use Rattle.std.specs.Set.{is_member}
use Rattle.std.proofs.lemmas.Bool.Decides.{same_from_decides}
use Rattle.std.proofs.lemmas.List.{append-nil, take_more}
use Rattle.std.proofs.lemmas.List.Elements.{contains_decides, Decides-contains}
use Rattle.std.proofs.lemmas.Map.Made.{is_member-Decides}
use Rattle.xet_base.specs.declared.merklehash.DataHash.{DataHash}
use Rattle.xet_base.specs.Hash.{hash_eq}
use Rattle.xet_base.proofs.HashOrder.{same_hash}
use Rattle.mdb_base.specs.Keys.{distinct_keys}
use Rattle.mdb_merging.proofs.Keys.{distinct_more}
use Rattle.mdb_merging.proofs.by_key.distinct_keys.Goals as goal
use Rattle.mdb_merging.proofs.by_key.distinct_keys.Goals.{then-not-contains+in_ok-push, else-not-contains}

-- the key is found exactly if it is among those so far, and else it is one more
pub loop-key-preserved : goal.loop-key-preserved
loop-key-preserved c =
    let none : DataHash = record { word0 = 0; word1 = 0; word2 = 0; word3 = 0 } in
    let key : DataHash = get_or c.args.keys.now c.loop-key.key-index none in
    let items = c.as_slice.result.now in
    let contained =
    contains_decides hash_eq same_hash items key c.contains.result c.contains.ensures.cases in
    let found : c.contains.result ≡ is_member hash_eq c.loop-key.found.items key =
    same_from_decides c.contains.result (is_member hash_eq items key)
    (Decides-contains items key c.contains.result contained) (is_member-Decides same_hash items key)
    ∙ ap (λ l. is_member hash_eq l key) c.as_slice.ensures.value in
    let within : c.loop-key.key-index < length c.args.keys.now = search rules in
    let more :
    distinct_keys (take (c.loop-key.key-index + 1) c.args.keys.now)
    ≡ c.loop-key.found.items ++ cond c.contains.result [] (key ∷ []) =
    ap distinct_keys (take_more c.args.keys.now c.loop-key.key-index none within)
    ∙ distinct_more (take c.loop-key.key-index c.args.keys.now) key
    ∙ ap (λ l. l ++ cond (is_member hash_eq l key) [] (key ∷ [])) (sym c.loop-key.invariant)
    ∙ ap (λ b. c.loop-key.found.items ++ cond b [] (key ∷ [])) (sym found) in
    elim c.if-not-contains.branch [
      | then-not-contains+in_ok-push w ↦
          ap (λ v. v.items) w.found-is ∙ w.in_ok-push.ensures.items
          ∙ ap (λ b. c.loop-key.found.items ++ cond b [] (key ∷ [])) (sym w.if-not-contains.true) ∙ sym more
      | else-not-contains w ↦
          ap (λ v. v.items) w.found-is ∙ sym (append-nil c.loop-key.found.items)
          ∙ ap (λ b. c.loop-key.found.items ++ cond b [] (key ∷ [])) (sym w.if-not-contains.false) ∙ sym more
    ]
