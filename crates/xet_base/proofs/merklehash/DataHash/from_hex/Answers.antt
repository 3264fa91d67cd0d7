use Rattle.std.proofs.Common.{sym, ap, ◌∙◌, subst, Ok}
use Rattle.xet_base.specs.Hex.{IsHexText}
use Rattle.xet_base.proofs.Hex.{hash_hex-IsHexText, lowered-hash_hex, hash_hex-injective}
use Rattle.std.specs.Str.{str_to_ascii_lowercase}
use Rattle.xet_base.proofs.merklehash.DataHash.from_hex.Goals as goal

pub returns-then-not-is_hex_text-clause-back : goal.returns-then-not-is_hex_text-clause-back
returns-then-not-is_hex_text-clause-back c = λ hash fits same.
    let is_text = subst IsHexText (sym (c.as_bytes-digits.ensures.value ∙ same)) (hash_hex-IsHexText hash) in
    let accepted = c.is_hex_text.ensures.1 is_text in
    cc

pub returns-clause-back : goal.returns-clause-back
returns-clause-back c = λ hash fits same.
    ap Ok (hash_hex-injective c.hash_of_digits.result hash c.hash_of_digits.ensures.fits fits
    (sym c.hash_of_digits.ensures.found ∙ ap str_to_ascii_lowercase (c.as_bytes-digits.ensures.value ∙ same) ∙ lowered-hash_hex hash))
