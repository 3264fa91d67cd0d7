use Rattle.std.proofs.Common.{◌-◌, ◌*◌, ◌/◌, ◌%◌, ◌^◌, [], ◌∷◌, ◌++◌, string_bytes, sym, ap, ◌∙◌, append-nil, append_assoc}
use Rattle.xet_base.specs.Hex.{hex_digit, hex_digits}
use Rattle.xet_base.proofs.Hex.{hex_digits-zero, hex_digits-written}
use Rattle.xet_base.proofs.merklehash.push_word.Goals as goal

pub loop-i-init : goal.loop-i-init
loop-i-init c = sym (ap (λ s. string_bytes c.args.text.now ++ s) (hex_digits-zero _) ∙ append-nil _)

pub loop-i-preserved : goal.loop-i-preserved
loop-i-preserved c =
    let i = c.loop-i.i in
    let word = c.args.word in
    let start = string_bytes c.args.text.now in
    let digit = hex_digit (word / 2 ^ (60 - 4 * i) % 16) ∷ [] in
    c.in_ok-push.ensures.bytes
    ∙ ap (λ s. string_bytes c.loop-i.text ++ s) (c.in_ok-push.ensures.ascii c.hex_char.ensures.ascii ∙ ap (λ d. d ∷ []) c.hex_char.ensures.digit)
    ∙ ap (λ s. s ++ digit) c.loop-i.invariant ∙ append_assoc start (hex_digits i (word / 2 ^ (64 - 4 * i))) digit
    ∙ ap (λ s. start ++ s) (hex_digits-written i word c.loop-i-test.true)
