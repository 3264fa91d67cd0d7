use Rattle.std.proofs.Common.{◌≡◌, ℕ, List, ap, ◌∙◌}
use Rattle.xet_base.specs.KeyedHash.{mix_columns, mix_diagonals, next_message, state_after, message_after}
use Rattle.xet_base.proofs.keyed_hash.four.compress.Goals as goal

-- a round of equal states and messages
rounds : (v w m n : List ℕ) → v ≡ w → m ≡ n → mix_diagonals (mix_columns v m) m ≡ mix_diagonals (mix_columns w n) n
rounds v w m n states words = λ i. mix_diagonals (mix_columns (states i) (words i)) (words i)

pub returns : goal.returns
unfolding state_after message_after
returns c j h =
    let second = c.permute-second.ensures j h in
    let third = c.permute-third.ensures j h ∙ ap next_message second in
    let fourth = c.permute-fourth.ensures j h ∙ ap next_message third in
    let fifth = c.permute-fifth.ensures j h ∙ ap next_message fourth in
    let sixth = c.permute-sixth.ensures j h ∙ ap next_message fifth in
    let seventh = c.permute-seventh.ensures j h ∙ ap next_message sixth in
    let one = c.round-states.ensures j h in
    let two = c.round-states-2.ensures j h ∙ rounds _ _ _ _ one second in
    let three = c.round-states-3.ensures j h ∙ rounds _ _ _ _ two third in
    let four = c.round-states-4.ensures j h ∙ rounds _ _ _ _ three fourth in
    let five = c.round-states-5.ensures j h ∙ rounds _ _ _ _ four fifth in
    let six = c.round-states-6.ensures j h ∙ rounds _ _ _ _ five sixth in
    c.round.ensures j h ∙ rounds _ _ _ _ six seventh
