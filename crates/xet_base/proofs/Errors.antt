-- What `?` makes of a device's error.
use Rattle.std.proofs.Common.{◌≡◌, sym, ap, ◌∙◌}
use Rattle.std.specs.IoError.{error_kind}
use Rattle.std.specs.declared.io.Error.{Error}
use Rattle.std.specs.declared.io.ErrorKind.TheVariants.{UnexpectedEof}
use Rattle.xet_base.specs.declared.error.CoreError.{CoreError}
use Rattle.xet_base.specs.declared.error.CoreError.TheVariants.{Io, OutOfMemory}
use Rattle.xet_base.specs.Errors.{FromDevice, IsEndOfInput, IsNoEnd, IsWriteError}

-- an end of the input above was one below
pub end_from_device : (e : Error) (f : CoreError) → FromDevice e f → IsEndOfInput f → error_kind e ≡ UnexpectedEof
end_from_device e (Io f) made ended = ap error_kind (sym made.0) ∙ ended
end_from_device e _ made ended = absurd ended

-- an error of a writer is none
pub write_error : (e : Error) (f : CoreError) → IsNoEnd e → FromDevice e f → IsWriteError f
write_error e (Io g) no_end made = (tt, λ ended. no_end (ap error_kind (sym made.0) ∙ ended))
write_error e OutOfMemory no_end made = (tt, λ ended. ended)
write_error e _ no_end made = absurd made
