-- What reading views from an input takes from it.
use Rattle.std.specs.Prelude.{◌≡◌, ℕ, ◌+◌, List, Option, MatchOption}
use Rattle.xet_records.specs.RecordKind.{RecordKind}
use Rattle.xet_records.specs.Reading.{ReadsEnd}

-- a stored record was read, and its rows counted down from those that were left
pub record CountsStored {H R : Type 0} (K : RecordKind H R) (Took : List ℕ → Type 0)
    (left after : ℕ) (r : R) : Type 0 where
  pub is_stored : K.IsStored r
  pub taken : Took (K.record_bytes r)
  pub rows : after + (1 + K.rows_after (K.header_of r)) ≡ left

-- a view of the next record was read, or a bookend
abbrev pub ReadsNextView : {H R V : Type 0} → RecordKind H R → (V → R) → (List ℕ → Type 0) → ℕ → ℕ
    → Option V → Type 0
ReadsNextView K record_of Took left after found =
    MatchOption found (ReadsEnd K Took left after)
    (λ view. CountsStored K Took left after (record_of view))
