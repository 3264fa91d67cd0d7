use Rattle.std.proofs.Common.{◌++◌, sym, ap, ◌∙◌, subst}
use Rattle.xet_base.specs.MemorySource.{in_memory}
use Rattle.xet_base.specs.Source.{Source, ReadsBytes, bytes_left}
use Rattle.xet_records.specs.FileRecord.{file_records}
use Rattle.xet_records.specs.FileRow.{header_row}
use Rattle.xet_records.specs.Reading.{ReadsRowsAfter}
use Rattle.xet_records.proofs.RecordKinds.{file_laws}
use Rattle.placed_shards.proofs.Mixes.{rows_behind, read_again, mix_bytes}
use Rattle.placed_shards.proofs.of_union.mixed_bytes.Goals as goal

pub returns-in-Ok : goal.returns-in-Ok
returns-in-Ok c =
    let a = c.args.first.now in
    let b = c.args.second.now in
    let mixes = c.in-Ok.ensures.rows in
    let left_1 = ap (λ (s : Source). bytes_left s) c.new-r1.ensures ∙ rows_behind file_records file_laws a c.bytes.result.now c.bytes.ensures.bytes in
    let left_2 = ap (λ (s : Source). bytes_left s) c.new-r2.ensures ∙ rows_behind file_records file_laws b c.bytes-2.result.now c.bytes-2.ensures.bytes in
    let from_1 = in_memory c.new-r1.result in
    let from_2 = in_memory c.new-r2.result in
    let to_1 = in_memory c.mix_rows.new.r1 in
    let to_2 = in_memory c.mix_rows.new.r2 in
    let x_is = read_again file_records file_laws a mixes.one c.is_stored.ensures.stored from_1 to_1 left_1 (subst (λ h. ReadsRowsAfter file_records h (ReadsBytes from_1 to_1) mixes.one) c.header-one.ensures mixes.reads_first) in
    let y_is = read_again file_records file_laws b mixes.other c.is_stored-2.ensures.stored from_2 to_2 left_2 (subst (λ h. ReadsRowsAfter file_records h (ReadsBytes from_2 to_2) mixes.other) c.header-other.ensures mixes.reads_second) in
    let counts = ap (λ h. h.num_entries) c.header-one.ensures ∙ c.requires ∙ sym (ap (λ h. h.num_entries) c.header-other.ensures) in
    let start = c.in_ok-extend_from_slice.ensures.items ∙ ap (λ xs. xs ++ c.to_bytes.result) c.new-bytes.ensures.items ∙ c.to_bytes.ensures ∙ ap header_row c.mix_with.ensures in
    mix_bytes a b mixes.one mixes.other c.header-one.result c.header-other.result x_is y_is c.header-one.ensures c.header-other.ensures _ _ start (mixes.rows counts)
