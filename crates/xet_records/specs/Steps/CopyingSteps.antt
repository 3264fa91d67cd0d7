-- Steps towards what `Copying` defines, which only contracts inside the crate speak of.
use Rattle.xet_base.specs.declared.error.CoreError.{CoreError}
use Rattle.xet_records.specs.declared.row_copier.CopyFailure.{CopyFailure}
use Rattle.xet_records.specs.declared.row_copier.CopyFailure.TheVariants.{Input, Output}

-- the error of a failure, whether the input's or the output's
abbrev pub error_of : CopyFailure → CoreError
error_of (Input e) = e
error_of (Output e) = e
