-- Steps towards what `Walking` defines, which only contracts inside the crate speak of.
use Rattle.std.specs.Prelude.{◌≡◌, Option, None, Some, Ok, Err}
use Rattle.xet_core_structures.specs.declared.error.CoreError.TheVariants.{InternalError}
use Rattle.xet_core_structures.specs.Errors.{CoreResult}

-- what was read, where an `InternalError` means that there is none
abbrev pub IsRead : {R : Type 0} → CoreResult R → CoreResult (Option R) → Type 0
IsRead (Ok r) found = found ≡ Ok (Some r)
IsRead (Err (InternalError text)) found = found ≡ Ok None
IsRead (Err e) found = found ≡ Err e
