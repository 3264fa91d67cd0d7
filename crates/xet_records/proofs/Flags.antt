-- The flag bits, tested by a mask.
use Rattle.std.proofs.Common.{◌≡◌, ℕ, zero, suc, refl, min, ◌+◌, ◌*◌, ◌%◌, ◌^◌, ◌<◌, not, nat_eq, ◌==◌, ap, lit<, ◌∙◌, arith}
use Rattle.std.specs.Prelude.{bit_and, bit_or}
use Rattle.std.specs.Int.{bit_at}
use Rattle.std.proofs.lemmas.Nat.{and_mask, and_le_r, and_comm, or_disjoint}
use Rattle.std.proofs.lemmas.Nat.Bits.{and_pow, bit_at_and, bit_at-lt, same_from_bits_below}
use Rattle.std.proofs.lemmas.Bool.Decides.{nat_tests}
use Rattle.xet_records.specs.declared.file_structs.part.OptionalPart.{OptionalPart}
use Rattle.xet_records.specs.declared.file_structs.part.OptionalPart.TheVariants.{Verification, MetadataExt, AuxExt}
use Rattle.xet_records.specs.Part.{bit_of, announces}
use Rattle.xet_records.specs.Merging.{IncludesBits}

masked_bit : (b k : ℕ) → b < 2 → 0 < k → not (nat_eq (b * k) 0) ≡ nat_eq b 1
masked_bit b k small above = grind (arith, nat_tests)

pub bit_and_announces : (flags : ℕ) (part : OptionalPart) → not (nat_eq (bit_and flags (2 ^ bit_of part)) 0) ≡ announces flags part
bit_and_announces flags part =
    ap (λ m. not (nat_eq m 0)) (and_pow flags (bit_of part)) ∙ masked_bit (bit_at flags (bit_of part)) (2 ^ bit_of part) (bit_at-lt flags (bit_of part)) (pow_above part)
  where
    pow_above : (part : OptionalPart) → 0 < 2 ^ bit_of part
    pow_above Verification = lit< tt
    pow_above MetadataExt = lit< tt
    pow_above AuxExt = lit< tt

-- a bit that is not set is added
or_unset : (n k : ℕ) → bit_at n k ≡ 0 → bit_or n (2 ^ k) ≡ n + 2 ^ k
or_unset n k unset = or_disjoint n (2 ^ k) (and_pow n k ∙ ap (λ b. b * 2 ^ k) unset ∙ omega arith)

-- the mark of a chunk, tested, taken away and set
pub mark_masked : (flags : ℕ) → not (nat_eq (bit_and flags 2147483648) 0) ≡ (bit_at flags 31 == 1)
mark_masked flags = bit_and_announces flags Verification

pub bit_and_mod : (flags : ℕ) → bit_and flags 2147483647 ≡ flags % 2147483648
bit_and_mod flags = and_mask flags 31

pub bit_or_add : (flags : ℕ) → bit_or (flags % 2147483648) 2147483648 ≡ flags % 2147483648 + 2147483648
bit_or_add flags = or_unset (flags % 2147483648) 31 (omega arith)

-- inclusion of sets of bits, tested by the bits in common
bits_in_common : (x y : ℕ) → y < 2 → (y ≡ 1 → x ≡ 1) → min x y ≡ y
bits_in_common x zero small in_x = omega arith
bits_in_common x (suc zero) small in_x = ap (λ n. min n 1) (in_x refl)
bits_in_common x (suc (suc y)) small in_x = omega arith

pub included_if_common : (a b : ℕ) → bit_and a b ≡ b → IncludesBits a b
included_if_common a b common i low set =
    omega (arith, bit_at_and a b i, ap (λ n. bit_at n i) common, set, bit_at-lt a i)

pub common_if_included : (a b : ℕ) → b < 2 ^ 32 → IncludesBits a b → bit_and a b ≡ b
common_if_included a b b_fits included =
    same_from_bits_below 32 (bit_and a b) b (omega (arith, and_le_r a b)) b_fits
    (λ i low. bit_at_and a b i ∙ bits_in_common (bit_at a i) (bit_at b i) (bit_at-lt b i) (included i low))

-- the same for the other of the two
pub included_if_common_l : (a b : ℕ) → bit_and a b ≡ a → IncludesBits b a
included_if_common_l a b common = included_if_common b a (and_comm b a ∙ common)

pub common_if_included_l : (a b : ℕ) → a < 2 ^ 32 → IncludesBits b a → bit_and a b ≡ a
common_if_included_l a b a_fits included = and_comm a b ∙ common_if_included b a a_fits included
