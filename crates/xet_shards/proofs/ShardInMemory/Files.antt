-- Sums over files, and the rows of a map of them.
use Rattle.std.proofs.Common.{◌≡◌, refl, ℕ, ◌+◌, ◌*◌, ◌≤◌, List, [], ◌∷◌, map, length, arith}
use Rattle.std.specs.Prelude.{All, sum_by}
use Rattle.std.proofs.lemmas.List.Sums.{sum_by-cons, sum_by-le}
use Rattle.std.proofs.lemmas.List.Elements.{All-drop, All-map}
use Rattle.xet_base.specs.declared.merklehash.DataHash.{DataHash}
use Rattle.xet_records.specs.declared.file_structs.rows.FileDataSequenceEntry.{FileDataSequenceEntry}
use Rattle.xet_records.specs.declared.file_structs.MDBFileInfo.{MDBFileInfo}
use Rattle.xet_records.specs.FileRow.{FitsSegment}
use Rattle.xet_records.specs.FileRecord.{file_records, row_count, rows_after, size_of_file, FitsRecord, IsWellFormed}
use Rattle.xet_records.proofs.Record.{rows_whole}
use Rattle.xet_shards.specs.Write.Section.{total_rows}
use Rattle.xet_shards.specs.Content.Shard.{AreFiles}

segments_bound : (ss : List FileDataSequenceEntry) → All FitsSegment ss
    → sum_by (λ (s : FileDataSequenceEntry). s.unpacked_segment_bytes) ss ≤ 4294967295 * length ss
segments_bound ss fit =
    omega (arith, sum_by-le (λ (s : FileDataSequenceEntry). s.unpacked_segment_bytes) 4294967295 ss (λ k s below. omega (arith, (fit k s below).unpacked_segment_bytes)))

-- numbers that are bounded record by record are bounded in sum
pub sum_bound : {R : Type 0} (P : R → Type 0) (f g : R → ℕ) → ((r : R) → P r → f r ≤ 4294967295 * g r) → (rs : List R) → All P rs → sum_by f rs ≤ 4294967295 * sum_by g rs
sum_bound P f g small [] all = omega arith
sum_bound P f g small (r ∷ rs) all =
    omega (arith, sum_by-cons f r rs, sum_by-cons g r rs, small r (all 0 r (omega arith)), sum_bound P f g small rs (All-drop P 1 (r ∷ rs) all))

-- headers count the rows of files
pub header_rows : (rs : List MDBFileInfo) → All IsWellFormed rs → sum_by (λ r. 1 + rows_after r.metadata) rs ≡ total_rows file_records rs
header_rows [] all = refl
header_rows (r ∷ rs) all =
    omega (
      arith,
      sum_by-cons (λ (r : MDBFileInfo). 1 + rows_after r.metadata) r rs,
      sum_by-cons row_count r rs,
      rows_whole r (all 0 r (omega arith)).whole,
      header_rows rs (All-drop IsWellFormed 1 (r ∷ rs) all),
    )

-- no file has more bytes than its rows allow
pub files_bound : (rs : List MDBFileInfo) → All (λ r. FitsRecord r) rs → sum_by size_of_file rs ≤ 4294967295 * total_rows file_records rs
files_bound rs fit = sum_bound FitsRecord size_of_file row_count (λ r is. omega (arith, segments_bound r.segments is.segments)) rs fit

-- each file has a row
pub length-le-rows : (rs : List MDBFileInfo) → length rs ≤ total_rows file_records rs
length-le-rows [] = omega arith
length-le-rows (r ∷ rs) = omega (arith, sum_by-cons row_count r rs, length-le-rows rs)

-- what holds of a shard's files holds of their list
pub well_formed_values : (es : List (DataHash × MDBFileInfo)) → AreFiles es → All IsWellFormed (map (λ e. e.1) es)
well_formed_values es files = All-map IsWellFormed (λ (e : DataHash × MDBFileInfo). e.1) es files.well_formed

pub widths_of_values : (es : List (DataHash × MDBFileInfo)) → AreFiles es → All FitsRecord (map (λ e. e.1) es)
widths_of_values es files = λ k d below. (well_formed_values es files k d below).widths
