use Rattle.std.proofs.Common.{◌≡◌, ◌+◌, ◌<◌, [], ◌∷◌, ◌++◌, take, get_or, sym, ap, ◌∙◌, arith}
use Rattle.std.proofs.Math.Facts.{Fits-of_lt}
use Rattle.std.proofs.lemmas.List.{map-append, take_more}
use Rattle.std.specs.Char.{to_ascii_lowercase}
use Rattle.std.specs.Str.{str_to_ascii_lowercase}
use Rattle.xet_base.specs.Hex.{hex_digit}
use Rattle.xet_base.proofs.Hex.{hex_digits-zero, hex_digits-read, digits_fit, digits_fit_word}
use Rattle.xet_base.proofs.merklehash.word_of_digits.Goals as goal

pub loop-digit-init : goal.loop-digit-init
loop-digit-init c = record { small = omega arith; same = hex_digits-zero 0 }

pub overflow_mul-word : goal.overflow_mul-word
overflow_mul-word c =
    let i = c.loop-digit.digit-index in
    Fits-of_lt (omega (arith, digits_fit i c.loop-digit.word 0 (omega arith) c.loop-digit.invariant.small, digits_fit_word (i + 1) (omega arith)))

pub overflow_add-word : goal.overflow_add-word
overflow_add-word c =
    let i = c.loop-digit.digit-index in
    let below : c.from.result < 16 = omega arith in
    Fits-of_lt (omega (arith, digits_fit i c.loop-digit.word c.from.result below c.loop-digit.invariant.small, digits_fit_word (i + 1) (omega arith)))

pub loop-digit-preserved : goal.loop-digit-preserved
loop-digit-preserved c =
    let i = c.loop-digit.digit-index in
    let digits = c.args.digits.now in
    let below : c.from.result < 16 = omega arith in
    let digit : hex_digit c.from.result ≡ to_ascii_lowercase (get_or digits i 0) = ap hex_digit c.from.ensures ∙ c.hex_value.ensures.digit in
    record {
      small = digits_fit i c.loop-digit.word c.from.result below c.loop-digit.invariant.small;
      same = hex_digits-read i c.loop-digit.word c.from.result below
          ∙ ap (λ ds. ds ++ hex_digit c.from.result ∷ []) c.loop-digit.invariant.same
          ∙ ap (λ d. str_to_ascii_lowercase (take i digits) ++ d ∷ []) digit
          ∙ sym (map-append to_ascii_lowercase (take i digits) _)
          ∙ ap str_to_ascii_lowercase (sym (take_more digits i 0 c.loop-digit-test.true));
    }
