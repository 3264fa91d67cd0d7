-- Records that are taken from the front of bytes.
use Rattle.std.specs.Prelude.{◌≡◌, ◌⊎◌, ℕ, ◌+◌, List, ◌++◌}
use Rattle.xet_base.specs.declared.error.CoreError.{CoreError}
use Rattle.xet_base.specs.Errors.{IsEndOfInput, IsBareInvalidShard}
use Rattle.xet_records.specs.Reading.{BeginsRefused, EndsEarly}
use Rattle.xet_records.specs.RecordKind.{RecordKind}

module _ {H R : Type 0} (K : RecordKind H R) where
  -- the bytes are those of a record and then others, and its rows were counted down from those that
  -- were left
  pub record TakesRecord (bytes : List ℕ) (left after : ℕ) (r : R) (rest : List ℕ) : Type 0 where
    pub stored : K.IsStored r
    pub bytes_are : bytes ≡ K.record_bytes r ++ rest
    pub rows : after + K.row_count r ≡ left

  -- why no record was taken: the bytes end too early, or its header is refused
  abbrev pub StopsBefore : List ℕ → ℕ → CoreError → Type 0
  StopsBefore bytes left e =
      (IsEndOfInput e × EndsEarly K left bytes) ⊎ (IsBareInvalidShard e × BeginsRefused K left bytes)
