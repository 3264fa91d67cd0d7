-- Sets of optional parts as flags: the numbers below 2 ^ 32 in which no bit but those of parts is set.
use Rattle.std.proofs.Common.{◌≡◌, ℕ, ◌-◌, ◌%◌, ◌^◌, ◌<◌, Bool, true, false, not, ◌&&◌, ◌||◌, IsTrue, min, max, refl, sym, ap, subst, ◌∙◌, arith, if◌then◌else◌}
use Rattle.std.specs.Prelude.{bit_and, bit_or}
use Rattle.std.specs.Int.{bit_at, w32}
use Rattle.std.proofs.lemmas.Nat.{or_of_32, or_mod, and_mod, and_le_l, and_comm}
use Rattle.std.proofs.lemmas.Nat.Bits.{bit_at_and, bit_at_or, bit_at_not}
use Rattle.xet_records.specs.declared.file_structs.part.OptionalPart.{OptionalPart}
use Rattle.xet_records.specs.declared.file_structs.part.OptionalPart.TheVariants.{Verification, MetadataExt, AuxExt}
use Rattle.xet_records.specs.Part.{bit_of, is_part, announces, flags_of}
use Rattle.xet_records.proofs.Merging.{bit_if, bit_if_announced, bit_if_times, bit_within, flags_fit, announces-flags_of, flags_are_known}

-- the flags of a part alone
pub one_part : (wanted : Bool) (part : OptionalPart) → (if wanted then 2 ^ bit_of part else 0) ≡ flags_of (λ p. wanted && is_part part p)
one_part true Verification = refl
one_part true MetadataExt = refl
one_part true AuxExt = refl
one_part false part = refl

-- the flags of a set announce its parts, and no others
pub in_set : (flags : ℕ) (wanted : OptionalPart → Bool) → flags ≡ flags_of wanted → (part : OptionalPart) → announces flags part ≡ wanted part
in_set flags wanted are part = ap (λ n. announces n part) are ∙ announces-flags_of wanted part

pub is_set : (flags : ℕ) (wanted : OptionalPart → Bool) → flags ≡ flags_of wanted → flags ≡ flags_of (announces flags)
is_set flags wanted are = subst (λ n. n ≡ flags_of (announces n)) (sym are) (flags_are_known wanted)

-- a number with no other bits is a set: that of the parts whose bits are set
bits_are : (flags : ℕ) (wanted : OptionalPart → Bool) → flags < 2 ^ 32 → flags % 2 ^ 29 ≡ 0 → ((part : OptionalPart) → bit_at flags (bit_of part) ≡ bit_if (wanted part))
    → flags ≡ flags_of wanted
bits_are flags wanted fits low bits = omega (
  arith,
  fits,
  low,
  bits Verification,
  bits MetadataExt,
  bits AuxExt,
  bit_if_times (wanted Verification) 2147483648,
  bit_if_times (wanted MetadataExt) 1073741824,
  bit_if_times (wanted AuxExt) 536870912,
)

module _ (a : ℕ) (set_a : a ≡ flags_of (announces a)) where
  fits : a < 2 ^ 32
  fits = omega (arith, set_a, flags_fit (announces a))

  low : a % 2 ^ 29 ≡ 0
  low = omega (
    arith,
    set_a,
    bit_if_times (announces a Verification) 2147483648,
    bit_if_times (announces a MetadataExt) 1073741824,
    bit_if_times (announces a AuxExt) 536870912,
  )

-- the bits of two
or_bits : (v w : Bool) → max (bit_if v) (bit_if w) ≡ bit_if (v || w)
or_bits true true = refl
or_bits true false = refl
or_bits false true = refl
or_bits false false = refl

and_bits : (v w : Bool) → min (bit_if v) (bit_if w) ≡ bit_if (v && w)
and_bits true true = refl
and_bits true false = refl
and_bits false true = refl
and_bits false false = refl

not_bit : (v : Bool) → 1 - bit_if v ≡ bit_if (not v)
not_bit true = refl
not_bit false = refl

-- the parts that are in either set
pub union_is : (a b : ℕ) → a ≡ flags_of (announces a) → b ≡ flags_of (announces b) → bit_or a b ≡ flags_of (λ part. announces a part || announces b part)
union_is a b set_a set_b =
    bits_are (bit_or a b) _ (or_of_32 a b (fits a set_a) (fits b set_b)) (or_mod a b 29 ∙ (λ i. bit_or (low a set_a i) (low b set_b i)))
    (λ part. bit_at_or a b (bit_of part) ∙ (λ i. max (bit_if_announced a part i) (bit_if_announced b part i)) ∙ or_bits (announces a part) (announces b part))

-- the parts of a set that other flags announce, or do not
module _ (a : ℕ) (set_a : a ≡ flags_of (announces a)) where
  both_are : (b : ℕ) (wanted : OptionalPart → Bool) → ((part : OptionalPart) → bit_at b (bit_of part) ≡ bit_if (wanted part)) → bit_and a b ≡ flags_of (λ part. announces a part && wanted part)
  both_are b wanted bits =
      bits_are (bit_and a b) _ (omega (arith, and_le_l a b, fits a set_a))
      (and_mod a b 29 ∙ ap (λ n. bit_and n (b % 2 ^ 29)) (low a set_a) ∙ omega (arith, and_le_l 0 (b % 2 ^ 29)))
      (λ part. bit_at_and a b (bit_of part) ∙ (λ i. min (bit_if_announced a part i) (bits part i)) ∙ and_bits (announces a part) (wanted part))

  common_is : (b : ℕ) → bit_and a b ≡ flags_of (λ part. announces a part && announces b part)
  common_is b = both_are b (announces b) (bit_if_announced b)

  pub difference_is : (b : ℕ) → b ≡ flags_of (announces b) → bit_and a (4294967295 - b) ≡ flags_of (λ part. announces a part && not (announces b part))
  difference_is b set_b =
      both_are (4294967295 - b) _
      (λ part. bit_at_not w32 b (bit_of part) (fits b set_b) (bit_within part) ∙ ap (λ n. 1 - n) (bit_if_announced b part) ∙ not_bit (announces b part))

pub announced_is : (flags : ℕ) → bit_and flags 3758096384 ≡ flags_of (announces flags)
announced_is flags = and_comm flags 3758096384 ∙ common_is 3758096384 refl flags

-- a set has all parts of another if these are what both have
same_as_second : (v w : Bool) → (IsTrue w → IsTrue v) → (v && w) ≡ w
same_as_second true w holds = refl
same_as_second false true holds = holds refl
same_as_second false false holds = refl

first_holds : (v w : Bool) → (v && w) ≡ w → IsTrue w → IsTrue v
first_holds true w same holds = refl
first_holds false true same holds = same
first_holds false false same holds = holds

module _ (a b : ℕ) (set_a : a ≡ flags_of (announces a)) where
  pub common_if_superset : b ≡ flags_of (announces b) → ((part : OptionalPart) → IsTrue (announces b part) → IsTrue (announces a part)) → bit_and a b ≡ b
  common_if_superset set_b has_all =
      common_is a set_a b ∙ (λ i. flags_of (λ part. same_as_second (announces a part) (announces b part) (has_all part) i)) ∙ sym set_b

  pub superset_if_common : bit_and a b ≡ b → (part : OptionalPart) → IsTrue (announces b part) → IsTrue (announces a part)
  superset_if_common common part =
      first_holds (announces a part) (announces b part)
      (sym (in_set (bit_and a b) (λ p. announces a p && announces b p) (common_is a set_a b) part) ∙ ap (λ n. announces n part) common)
