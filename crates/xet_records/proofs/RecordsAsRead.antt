-- A record as reading returns it may be stored again.
use Rattle.std.proofs.Common.{◌≡◌, List, [], ◌∷◌, ◌++◌, length, flat_map, refl, sym, ap, ◌∙◌, arith}
use Rattle.std.specs.Prelude.{map}
use Rattle.std.proofs.lemmas.List.{length-map, map-append}
use Rattle.std.proofs.lemmas.List.Elements.{All-map, All-same}
use Rattle.xet_records.specs.declared.file_structs.part.OptionalPart.{OptionalPart}
use Rattle.xet_records.specs.declared.file_structs.rows.HashRow.{HashRow}
use Rattle.xet_records.specs.declared.file_structs.MDBFileInfo.{MDBFileInfo}
use Rattle.xet_records.specs.FileRow.{FitsHashRow, clear}
use Rattle.xet_records.specs.Part.{parts, rows_of, optional_rows}
use Rattle.xet_records.specs.FileRecord.{IsStored, row_count, as_read}
use Rattle.xet_records.proofs.Parts.{rows_of-returned}

clear_fits : (row : HashRow) → FitsHashRow row → FitsHashRow (clear row)
clear_fits row fits = record {
  hash = fits.hash;
  unused = record { first = 0; second = 0; words_are = refl; first_fits = omega arith; second_fits = omega arith };
}

flat_map-clear : (rows : OptionalPart → List HashRow) (ps : List OptionalPart) → flat_map (λ part. map clear (rows part)) ps ≡ map clear (flat_map rows ps)
flat_map-clear rows [] = refl
flat_map-clear rows (part ∷ ps) = ap (λ ys. map clear (rows part) ++ ys) (flat_map-clear rows ps) ∙ sym (map-append clear (rows part) (flat_map rows ps))

optional_rows-returned : (r : MDBFileInfo) → optional_rows (as_read r) ≡ map clear (optional_rows r)
optional_rows-returned r = (λ i. flat_map (λ part. rows_of-returned r part i) parts) ∙ flat_map-clear (λ part. rows_of part r) parts

pub row_count-returned : (r : MDBFileInfo) → row_count (as_read r) ≡ row_count r
row_count-returned r = omega (arith, ap length (optional_rows-returned r), length-map (optional_rows r) clear)

pub file_handed : (r : MDBFileInfo) → IsStored r → IsStored (as_read r)
file_handed r stored = record {
  is_file = stored.is_file;
  whole = record {
    segments = stored.whole.segments;
    parts = λ part. ap length (rows_of-returned r part) ∙ length-map (rows_of part r) clear ∙ stored.whole.parts part;
  };
  widths = record {
    metadata = stored.widths.metadata;
    segments = stored.widths.segments;
    parts = All-same FitsHashRow (optional_rows (as_read r)) (map clear (optional_rows r)) (optional_rows-returned r)
        (All-map FitsHashRow clear (optional_rows r) (λ k row below. clear_fits _ (stored.widths.parts k row below)));
  };
}
