-- What the union of two shards that have to agree makes of two records with one hash.
use Rattle.std.proofs.Common.{Bool, false, true≢false, ◌≡◌, ◌↔◌, [], refl, sym, ◌∙◌, append-nil}
use Rattle.std.specs.Prelude.{IsTrue}
use Rattle.xet_records.specs.RecordKind.{RecordKind, KindLaws}
use Rattle.xet_records.specs.declared.file_structs.MDBFileInfo.{MDBFileInfo}
use Rattle.xet_records.specs.declared.file_structs.part.OptionalPart.{OptionalPart}
use Rattle.xet_records.specs.Merging.{Agree}
use Rattle.placed_shards.specs.Agreement.{AgreeOn}

-- records with equal bytes are equal
module _ {H R : Type 0} (K : RecordKind H R) (laws : KindLaws K) where
  pub same_bytes : (r s : R) → K.IsStored r → K.IsStored s → K.record_bytes r ≡ K.record_bytes s → r ≡ s
  same_bytes r s one other same = (laws.front r s [] [] one other (append-nil (K.record_bytes r) ∙ same ∙ sym (append-nil (K.record_bytes s)))).0

pub agrees_with_itself : (r : MDBFileInfo) → Agree r r
agrees_with_itself r = record { segments = refl; parts = λ part has also. refl }

-- files agree if they have equal segments and agree on parts
pub both_agree : (a b : MDBFileInfo) (parts : Bool) → a.segments ≡ b.segments → (IsTrue parts ↔ ((part : OptionalPart) → AgreeOn part a b)) → IsTrue parts ↔ Agree a b
both_agree a b parts same is = (λ yes. record { segments = same; parts = is.0 yes }, λ agree. is.1 agree.parts)

pub no_segments : (a b : MDBFileInfo) (same : Bool) → same ≡ false → (IsTrue same ↔ (a.segments ≡ b.segments)) → IsTrue false ↔ Agree a b
no_segments a b same isnt is = (λ yes. absurd (true≢false (sym yes)), λ agree. absurd (true≢false (sym (is.1 agree.segments) ∙ isnt)))
