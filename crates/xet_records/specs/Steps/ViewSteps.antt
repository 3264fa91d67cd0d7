-- Steps towards what `View` defines, which only contracts inside the crate speak of.
use Rattle.std.specs.Prelude.{Bool, ◌&&◌, ◌||◌}
use Rattle.xet_records.specs.declared.file_structs.part.OptionalPart.{OptionalPart}
use Rattle.xet_records.specs.declared.file_structs.part.OptionalPart.TheVariants.{Verification, AuxExt}
use Rattle.xet_records.specs.Part.{all_but}
use Rattle.xet_records.specs.declared.file_structs.view.KeptParts.{KeptParts}

-- whether the rows of a part stay where these parts are kept; a metadata row always does
abbrev pub keeps : KeptParts → OptionalPart → Bool
keeps kept part =
    (kept.verification || all_but Verification part) && (kept.aux_ext || all_but AuxExt part)
