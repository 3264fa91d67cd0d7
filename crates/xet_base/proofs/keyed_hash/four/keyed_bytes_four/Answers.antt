use Rattle.std.proofs.Common.{ℕ, ◌<◌, [], ◌∷◌, ap, ap₂, ◌∙◌, arith}
use Rattle.xet_base.specs.KeyedHash.{digest, state_after, keyed_bytes}
use Rattle.xet_base.proofs.Lanes.{map_four}
use Rattle.xet_base.proofs.keyed_hash.four.keyed_bytes_four.Goals as goal

pub returns : goal.returns
unfolding keyed_bytes
returns c =
    let hashed = λ (j : ℕ) (h : j < 4). ap digest (c.compress-states.ensures j h ∙ ap₂ (state_after 7) (c.starts_of.ensures j h) (c.messages_of.ensures j h)) in
    let first = c.digest.ensures ∙ ap digest c.lane.ensures ∙ hashed 0 (omega arith) in
    let second = c.digest-2.ensures ∙ ap digest c.lane-2.ensures ∙ hashed 1 (omega arith) in
    let third = c.digest-3.ensures ∙ ap digest c.lane-3.ensures ∙ hashed 2 (omega arith) in
    let fourth = c.digest-4.ensures ∙ ap digest c.lane-4.ensures ∙ hashed 3 (omega arith) in
    (λ i. first i ∷ second i ∷ third i ∷ fourth i ∷ []) ∙ map_four (keyed_bytes c.args.key.now) [] c.args.messages.now (omega arith)
