-- What `{:02x}` writes of a byte: its two digits.
use Rattle.std.proofs.Common.{◌≡◌, ℕ, ◌-◌, ◌/◌, ◌%◌, ◌^◌, ◌<◌, false, Option, Some, option_map, List, [], ◌∷◌, ap, ◌∙◌, arith}
use Rattle.std.specs.Fmt.{digits, format_spec, padded_integral}
use Rattle.std.proofs.lemmas.Fmt.{hex_byte}
use Rattle.xet_core_structures.specs.Hex.{hex_digit, hex_digits}

two_digits : (n : ℕ) → n < 2 ^ 8 → padded_integral (format_spec 32 0 4 2 (2 ^ 64 - 1)) false [] (digits 16 false n) ≡ hex_digits 2 n
unfolding hex_digits
two_digits n fits =
    let low : n / 16 ≡ n / 16 % 16 = omega arith in
    hex_byte false n fits ∙ ap (λ d. hex_digit d ∷ hex_digit (n % 16) ∷ []) low

pub byte_written : (n : ℕ) (output : Option (List ℕ)) → n < 2 ^ 8 → output ≡ Some (digits 16 false n)
    → option_map (padded_integral (format_spec 32 0 4 2 (2 ^ 64 - 1)) false []) output ≡ Some (hex_digits 2 n)
byte_written n output fits is =
    ap (option_map (padded_integral (format_spec 32 0 4 2 (2 ^ 64 - 1)) false [])) is ∙ ap (λ bs. Some bs) (two_digits n fits)
