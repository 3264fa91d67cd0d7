-- Lists of files without their auxiliary rows.
use Rattle.std.proofs.Common.{◌≤◌, Bool, true, false, List, map, arith}
use Rattle.std.proofs.lemmas.List.Elements.{All-map, All-weaker}
use Rattle.xet_records.specs.declared.file_structs.MDBFileInfo.{MDBFileInfo}
use Rattle.xet_records.specs.FileRecord.{file_records, row_count, IsStored}
use Rattle.xet_records.specs.View.{without_aux, all_with_aux_if}
use Rattle.xet_records.proofs.KeptParts.{without_aux-stored, without_aux-rows}
use Rattle.xet_shards.specs.Write.WithOptions.{FitsSection}
use Rattle.xet_shards.specs.Write.Section.{total_rows}
use Rattle.xet_shards.proofs.ShardInMemory.Sums.{sum-mapped}

pub rows-without_aux : (files : List MDBFileInfo) → total_rows file_records (map without_aux files) ≤ total_rows file_records files
rows-without_aux files = sum-mapped without_aux row_count without_aux-rows files

section-without_aux : (files : List MDBFileInfo) → FitsSection file_records files → FitsSection file_records (map without_aux files)
section-without_aux files fits = record {
  stored = All-map IsStored without_aux files (All-weaker IsStored (λ r. IsStored (without_aux r)) without_aux-stored files fits.stored);
  rows = omega (arith, rows-without_aux files, fits.rows);
}

pub section-with_aux_if : (aux : Bool) (files : List MDBFileInfo) → FitsSection file_records files → FitsSection file_records (all_with_aux_if aux files)
section-with_aux_if true files fits = fits
section-with_aux_if false files fits = section-without_aux files fits
