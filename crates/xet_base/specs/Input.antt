-- What a failed read says of a reader.
use Rattle.std.specs.Prelude.{◌≡◌, ℕ, List, Option}
use Rattle.std.specs.IoError.{error_kind}
use Rattle.std.specs.declared.io.Error.{Error}
use Rattle.std.specs.declared.io.ErrorKind.TheVariants.{UnexpectedEof}
use Rattle.xet_base.specs.declared.error.CoreError.{CoreError}
use Rattle.xet_base.specs.Bytes.{LacksBytes}
use Rattle.xet_base.specs.Errors.{IsEndOfInput, IsDeviceError}

-- a slice of n bytes was not filled; an end of the input means that fewer were left
abbrev pub ReaderLacks : Option (List ℕ) → ℕ → Error → Type 0
ReaderLacks remaining n e = error_kind e ≡ UnexpectedEof → LacksBytes remaining n

-- reading up to n bytes failed
pub record ReaderFails (remaining : Option (List ℕ)) (n : ℕ) (e : CoreError) : Type 0 where
  pub cause : IsDeviceError e
  pub end : IsEndOfInput e → LacksBytes remaining n
