-- What is made in the version with a number.
use Rattle.std.proofs.Common.{◌≡◌, inl, inr, ℕ, List, Ok, Err, Result, length, sym, subst}
use Rattle.std.specs.Prelude.{IfOk}
use Rattle.xet_core_structures.specs.declared.error.CoreError.{CoreError}
use Rattle.xet_core_structures.specs.declared.error.CoreError.TheVariants.{InvalidArguments}
use Rattle.xet_core_structures.specs.declared.record_reader.FormatVersion.{FormatVersion}
use Rattle.xet_core_structures.specs.Version.{IsVersion, number_of}
use Rattle.placed_shards.specs.Content.{Content}
use Rattle.placed_shards.specs.Filling.{FillsWith}
use Rattle.shard_bytes.proofs.Compositions.{IsWritten, IsNotWritten}
use Rattle.xet_c.specs.NumberedVersions.{InNumber, NotInNumber}

module _ (number : ℕ) (Makes : FormatVersion → List ℕ → Type 0) (Refuses : FormatVersion → CoreError → Type 0) where
  -- the number is that of no version
  pub no_version : (e : CoreError) → (e ≡ InvalidArguments) × (¬ IsVersion number) → NotInNumber number Refuses e
  no_version e none = inl none

  module _ (version : FormatVersion) (is : number ≡ number_of version) where
    -- nothing is made for a cause
    pub refused_in : (e : CoreError) → Refuses version e → NotInNumber number Refuses e
    refused_in e cause = inr (version, is, cause)

    -- what is made of a shard is what is written of it
    pub filled_in : (made : Content) (old new : List ℕ) (r : Result ℕ CoreError) → ((out : List ℕ) → IsWritten version made out → Makes version out) → ((e : CoreError) → IsNotWritten version made e → Refuses version e)
        → FillsWith (IsWritten version made) (IsNotWritten version made) old new r → FillsWith (InNumber number Makes) (NotInNumber number Refuses) old new r
    filled_in made old new (Ok size) makes refuses (bytes, written, fills) = (bytes, (version, is, makes bytes written), fills)
    filled_in made old new (Err e) makes refuses (cause, stays) = (inr (version, is, refuses e cause), stays)

-- what is said of the size of all that is made is said of the size that is returned
pub size_filled : (IsMade : List ℕ → Type 0) (IsCause : CoreError → Type 0) (Says : ℕ → Type 0) (old new : List ℕ) (r : Result ℕ CoreError) → ((bytes : List ℕ) → IsMade bytes → Says (length bytes))
    → FillsWith IsMade IsCause old new r → IfOk r Says
size_filled IsMade IsCause Says old new (Ok size) says (bytes, made, (size_is, fits)) = subst Says (sym size_is) (says bytes made)
size_filled IsMade IsCause Says old new (Err e) says not_made = tt
