-- Records whose hashes strictly ascend, and the hash of the last.
use Rattle.std.proofs.Common.{◌≡◌, ℕ, List, [], ◌∷◌, ◌++◌, Option, None, Some, IfSome, refl, subst, append_assoc, inr}
use Rattle.std.specs.List.Sorted.{IsStrictlySortedBy}
use Rattle.std.specs.declared.cmp.Ordering.TheVariants.{Less}
use Rattle.xet_base.specs.declared.error.CoreError.{CoreError}
use Rattle.xet_base.specs.declared.merklehash.DataHash.{DataHash}
use Rattle.xet_base.specs.Errors.{IsInvalidShard}
use Rattle.xet_base.specs.Hash.{hash_cmp}
use Rattle.xet_records.specs.declared.record_reader.FormatVersion.{FormatVersion}
use Rattle.xet_records.specs.RecordKind.{RecordKind, in_version}
use Rattle.xet_shards.specs.Write.WithOptions.{Ascends}
use Rattle.xet_core_structures.specs.Records.RecordPairs.{ComeBefore, key_of_record}
use Rattle.xet_core_structures.specs.Steps.MergeJoin.{SectionRefusal}
use Rattle.xet_core_structures.proofs.Records.RecordPairs.{ascends_push, before_later, before_push}
use Rattle.placed_shards.specs.TakenRecords.{TakesRecord}
use Rattle.placed_shards.proofs.Sections.{HasTaken, holds, taken_more}

module _ {H R : Type 0} (K : RecordKind H R) where
  -- the hashes of records strictly ascend, and a hash comes after all of them if it comes after this
  -- one
  pub record AscendsTo (rs : List R) (before : Option DataHash) : Type 0 where
    pub ascends : Ascends K rs
    pub later : (q : DataHash) → IfSome before (λ b. hash_cmp b q ≡ Less) → ComeBefore K q rs
    pub last : (r : R) → Ascends K (rs ++ r ∷ []) → IfSome before (λ b. hash_cmp b (key_of_record K r) ≡ Less)

  pub nothing_before : AscendsTo [] None
  unfolding IsStrictlySortedBy
  nothing_before = record { ascends = tt; later = λ q none. tt; last = λ r ascends. tt }

  neighbours : (rs : List R) (r s : R) → Ascends K (rs ++ r ∷ s ∷ []) → hash_cmp (key_of_record K r) (key_of_record K s) ≡ Less
  unfolding IsStrictlySortedBy
  neighbours [] r s ascends = ascends.0.0
  neighbours (x ∷ rs) r s ascends = neighbours rs r s ascends.1

  pub ascends_on : (rs : List R) (before : Option DataHash) (r : R) → AscendsTo rs before → IfSome before (λ b. hash_cmp b (key_of_record K r) ≡ Less) → AscendsTo (rs ++ r ∷ []) (Some (key_of_record K r))
  ascends_on rs before r so_far after =
      let k = key_of_record K r in
      let below = so_far.later k after in
      record {
        ascends = ascends_push K k rs (Some r) refl below so_far.ascends;
        later = λ q less. before_push K k q rs (Some r) refl less (before_later K k q rs less below);
        last = λ s ascends. neighbours rs r s (subst (Ascends K) (append_assoc rs (r ∷ []) (s ∷ [])) ascends);
      }

module _ {H R : Type 0} (K : RecordKind H R) (version : FormatVersion) (bytes : List ℕ) (rs : List R) (rest : List ℕ) (left : ℕ) (taken : HasTaken (in_version K version) bytes rs rest left) (before : Option DataHash)
    (so_far : AscendsTo K rs before) where
  -- the next record was taken, and does not come after the others
  pub descends : (e : CoreError) (r : R) (others : List ℕ) (after : ℕ) → IsInvalidShard e → TakesRecord (in_version K version) rest left after r others → ¬ IfSome before (λ b. hash_cmp b (key_of_record K r) ≡ Less)
      → SectionRefusal K version bytes e
  descends e r others after invalid next not_after =
      inr (inr (
        invalid,
        inr (record {
          stored = rs;
          last = r;
          rest = others;
          records = holds (in_version K version) bytes (rs ++ r ∷ []) others after (taken_more (in_version K version) bytes rs rest left taken r others after next);
          ascends = so_far.ascends;
          falls = λ ascends. not_after (so_far.last r ascends);
        }),
      ))
