-- What is made in the version with a number.
use Rattle.std.specs.Prelude.{◌≡◌, ◌⊎◌, ℕ, List}
use Rattle.xet_core_structures.specs.declared.error.CoreError.{CoreError}
use Rattle.xet_core_structures.specs.declared.error.CoreError.TheVariants.{InvalidArguments}
use Rattle.xet_core_structures.specs.declared.record_reader.FormatVersion.{FormatVersion}
use Rattle.xet_core_structures.specs.Version.{IsVersion, number_of}

-- what is made in the version with a number, where `Makes` says it of each version
abbrev pub InNumber : ℕ → (FormatVersion → List ℕ → Type 0) → List ℕ → Type 0
InNumber number Makes out =
    (version : FormatVersion) × (number ≡ number_of version) × Makes version out

-- why nothing is made in the version with a number: it is that of no version, or it is that of one,
-- for which there is another cause
abbrev pub NotInNumber : ℕ → (FormatVersion → CoreError → Type 0) → CoreError → Type 0
NotInNumber number Refuses e =
    ((e ≡ InvalidArguments) × (¬ IsVersion number))
    ⊎ ((version : FormatVersion) × (number ≡ number_of version) × Refuses version e)
