-- Derived equality of rows decides whether they are equal.
use Rattle.std.proofs.Common.{◌≡◌, ℕ, Bool, true, false, List, [], ◌∷◌, Option, None, Some, refl, sym, ap, ◌∙◌, subst, arith, true≢false, rules}
use Rattle.std.specs.Prelude.{◌↔◌, IsTrue, option_to_list}
use Rattle.std.specs.Bool.{Decides}
use Rattle.std.specs.Int.{bit_at}
use Rattle.xet_records.specs.declared.file_structs.part.OptionalPart.{OptionalPart}
use Rattle.xet_records.specs.declared.file_structs.MDBFileInfo.{MDBFileInfo}
use Rattle.xet_records.specs.Merging.{IncludesBits, Agree, has_part}
use Rattle.xet_records.specs.Part.{bit_of, announces}
use Rattle.xet_records.proofs.Merging.{bit_if, bit_if_announced, bit_within}
use Rattle.xet_records.specs.declared.file_structs.rows.FileDataSequenceEntry.{FileDataSequenceEntry}
use Rattle.xet_records.specs.declared.file_structs.rows.HashRow.{HashRow}
use Rattle.xet_records.specs.contracts.file_structs.rows.FileDataSequenceEntryPartialEq as segment_eq
use Rattle.xet_records.specs.contracts.file_structs.rows.HashRowPartialEq as hash_row_eq
use Rattle.xet_records.specs.contracts.xorb_structs.XorbChunkSequenceEntryPartialEq as chunk_eq

pub segments_decide : (a b : FileDataSequenceEntry) → Decides ((segment_eq.TheImpl.ghosts).eq a b) (a ≡ b)
segments_decide a b = search rules

pub hash_rows_decide : (a b : HashRow) → Decides ((hash_row_eq.TheImpl.ghosts).eq a b) (a ≡ b)
hash_rows_decide a b = search rules

-- a row that may be there, as a list
option_is : {X : Type 0} (o p : Option X) → option_to_list o ≡ option_to_list p → o ≡ p
option_is None None same = refl
option_is None (Some y) same = absurd (subst (IsNothing y) same tt) where
  IsNothing : {X : Type 0} → X → List X → Type 0
  IsNothing y [] = Unit {0}
  IsNothing y (z ∷ zs) = ⊥
option_is (Some x) None same = absurd (subst (IsNothing x) (sym same) tt) where
  IsNothing : {X : Type 0} → X → List X → Type 0
  IsNothing y [] = Unit {0}
  IsNothing y (z ∷ zs) = ⊥
option_is (Some x) (Some y) same = ap (λ l. first_of x l) same where
  first_of : {X : Type 0} → X → List X → Option X
  first_of d [] = Some d
  first_of d (z ∷ zs) = Some z

pub row_agreed : {X : Type 0} (o p : Option X) (same : Bool) → (IsTrue same ↔ (o ≡ p)) → IsTrue same ↔ (option_to_list o ≡ option_to_list p)
row_agreed o p same is = (λ yes. ap option_to_list (is.0 yes), λ equal. is.1 (option_is o p equal))

-- what agrees with a file agrees with one that has no other parts, if these agree
pub agrees_too : (a b r : MDBFileInfo) → ((part : OptionalPart) → IsTrue (has_part b part) → IsTrue (has_part a part)) → Agree a b → Agree a r → Agree b r
agrees_too a b r has_all both also = record {
  segments = sym both.segments ∙ also.segments;
  parts = λ part has in_r. sym (both.parts part (has_all part has) has) ∙ also.parts part (has_all part has) in_r;
}

-- flags announce each part that flags within them announce
pub announces_more : (f g : ℕ) (part : OptionalPart) → IncludesBits f g → IsTrue (announces g part) → IsTrue (announces f part)
announces_more f g part includes = of (announces g part) (announces f part) (bit_if_announced g part) (bit_if_announced f part) where
  of : (v w : Bool) → bit_at g (bit_of part) ≡ bit_if v → bit_at f (bit_of part) ≡ bit_if w → IsTrue v → IsTrue w
  of v true g_bit f_bit has = refl
  of true false g_bit f_bit has = absurd (omega (arith, f_bit, includes (bit_of part) (bit_within part) g_bit))
  of false false g_bit f_bit has = absurd (true≢false (sym has))
