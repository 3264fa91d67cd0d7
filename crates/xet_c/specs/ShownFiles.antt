-- How a file that was looked up is shown.
use Rattle.std.specs.Prelude.{◌≡◌, ℕ, List, length, Option, Ok, Err}
use Rattle.xet_core_structures.specs.declared.file_structs.MDBFileInfo.{MDBFileInfo}
use Rattle.xet_core_structures.specs.Errors.{CoreResult, variant_number}
use Rattle.xet_c.specs.declared.find.XetFile.{XetFile}
use Rattle.xet_c.specs.declared.segment.XetFileSegment.{XetFileSegment}
use Rattle.xet_c.specs.Arguments.{c_file, segments_in}
use Rattle.xet_c.specs.Output.{Delivers}

-- what was found is shown, its segments at the front of an output if they fit; after an error all
-- stays
abbrev pub ShowsFile : CoreResult (Option MDBFileInfo) → (old_file new_file : XetFile)
    → (old new : List XetFileSegment) → ℕ → Type 0
ShowsFile (Ok found) old_file new_file old new answer =
    (new_file ≡ c_file found)
    × Delivers (segments_in found) old new (length (segments_in found)) answer
ShowsFile (Err e) old_file new_file old new answer =
    (new_file ≡ old_file) × (new ≡ old) × (answer ≡ variant_number e)
