-- The byte of a column of the bar.
use Rattle.std.proofs.Common.{◌≡◌, ℕ, ◌+◌, ◌*◌, ◌/◌, ◌%◌, sym, ap, ◌∙◌, lit<}
use Rattle.std.proofs.Math.Nat.{mul-add, mul_assoc, mul_comm, mul-add-div_right}
use Rattle.std.proofs.lemmas.Nat.{div-add-mod'}

-- a factor's quotient and rest by a number, each multiplied
product_splits : (column q r : ℕ) → column * (q * 60 + r) ≡ q * column * 60 + r * column
product_splits column q r =
    mul-add column (q * 60) r
    ∙ ap (λ n. n + column * r) (sym (mul_assoc column q 60) ∙ ap (λ n. n * 60) (mul_comm column q))
    ∙ ap (λ n. q * column * 60 + n) (mul_comm column r)

-- a product over 60, by quotient and rest of one factor
pub product_over_60 : (column bytes : ℕ) → column * bytes / 60 ≡ bytes / 60 * column + bytes % 60 * column / 60
product_over_60 column bytes =
    let q = bytes / 60 in
    let r = bytes % 60 in
    ap (λ n. column * n / 60) (sym (div-add-mod' bytes 60))
    ∙ ap (λ n. n / 60) (product_splits column q r)
    ∙ mul-add-div_right (lit< tt) (q * column) (r * column)
