-- What is tested of each optional part of a record before it is stored.
use Rattle.std.proofs.Common.{◌≡◌, Bool, [], ◌∷◌, zero, suc, arith}
use Rattle.std.specs.Prelude.{◌↔◌, IsTrue}
use Rattle.xet_records.specs.declared.file_structs.part.OptionalPart.{OptionalPart}
use Rattle.xet_records.specs.declared.file_structs.rows.HashRow.{HashRow}
use Rattle.xet_records.specs.declared.file_structs.MDBFileInfo.{MDBFileInfo}
use Rattle.xet_records.specs.Part.{rows_of, optional_rows}
use Rattle.xet_records.proofs.Parts.{All-part, All-parts}
use Rattle.xet_shards.specs.Steps.FileStore.{AreClear}

-- the rows of all parts are clear if those of each are
pub clear_parts : (r : MDBFileInfo) (b : Bool) → (IsTrue b ↔ ((part : OptionalPart) → AreClear (rows_of part r))) → IsTrue b ↔ AreClear (optional_rows r)
clear_parts r b each = (
  λ is. All-parts (λ row. row._unused ≡ 0 ∷ 0 ∷ []) (λ part. rows_of part r) (each.0 is),
  λ all. each.1 (All-part (λ row. row._unused ≡ 0 ∷ 0 ∷ []) (λ part. rows_of part r) all),
)

pub one_clear : (row : HashRow) → (row._unused ≡ 0 ∷ 0 ∷ []) ↔ AreClear (row ∷ [])
one_clear row = (one, λ all. all 0 row (omega arith))
  where
    one : row._unused ≡ 0 ∷ 0 ∷ [] → AreClear (row ∷ [])
    one is zero other below = is
    one is (suc k) other below = absurd (omega (arith, below))

pub none_clear : AreClear []
none_clear k row below = absurd (omega (arith, below))
