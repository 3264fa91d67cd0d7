-- An export writes no more rows for a record than were read: a law that both kinds cite.
use Rattle.std.proofs.Common.{◌≤◌, Bool, true, false, [], ◌∷◌, arith}
use Rattle.std.proofs.lemmas.List.{length-map}
use Rattle.xet_records.specs.declared.file_structs.MDBFileInfo.{MDBFileInfo}
use Rattle.xet_records.specs.declared.xorb_structs.MDBXorbInfo.{MDBXorbInfo}
use Rattle.xet_records.specs.FileRecord.{file_records, row_count}
use Rattle.xet_records.specs.View.{with_aux_if}
use Rattle.xet_records.proofs.KeptParts.{without_aux-rows}
use Rattle.xet_records.specs.XorbRecord.{xorb_records, xorb_row_count}
use Rattle.xet_shards.specs.Write.Section.{total_rows}
use Rattle.xet_shards.specs.Write.Layout.{LayoutOptions, if_included}
use Rattle.xet_shards.specs.Export.KeyedExport.{keyed_chunk}
use Rattle.xet_shards.specs.Steps.KeyedExportSteps.{exported_file, exported_xorb}

pub file_rows : (aux : Bool) (options : LayoutOptions) (r : MDBFileInfo)
    → total_rows file_records (exported_file aux options r) ≤ row_count r
file_rows aux options r = by_table options.file_table aux
  where
    by_table : (b aux : Bool)
        → total_rows file_records (if_included b (with_aux_if aux r ∷ [])) ≤ row_count r
    by_table true true = omega arith
    by_table true false = omega (arith, without_aux-rows r)
    by_table false aux = omega arith

pub xorb_rows : (aux : Bool) (options : LayoutOptions) (r : MDBXorbInfo)
    → total_rows xorb_records (exported_xorb aux options r) ≤ xorb_row_count r
xorb_rows aux options r = omega (arith, length-map r.chunks (keyed_chunk options.key))
