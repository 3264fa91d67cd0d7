use Rattle.std.proofs.Common.{ap, ◌∙◌, subst}
use Rattle.xet_base.specs.MemorySource.{in_memory}
use Rattle.xet_base.specs.Source.{Source, ReadsBytes, bytes_left}
use Rattle.xet_records.specs.FileRecord.{file_records}
use Rattle.xet_records.specs.Reading.{ReadsRowsAfter}
use Rattle.xet_records.proofs.RecordKinds.{file_laws}
use Rattle.placed_shards.proofs.Mixes.{rows_behind, read_again}
use Rattle.placed_shards.proofs.of_agreeing.read_file.Goals as goal

pub returns-in-Ok : goal.returns-in-Ok
returns-in-Ok c =
    let r = c.args.file.now in
    let left = ap (λ (s : Source). bytes_left s) c.new-rows.ensures ∙ rows_behind file_records file_laws r c.bytes-bytes.result.now c.bytes-bytes.ensures.bytes in
    read_again file_records file_laws r c.in-Ok.record c.is_stored.ensures.stored (in_memory c.new-rows.result) (in_memory c.read_rows_after.new.input) left
    (subst (λ h. ReadsRowsAfter file_records h (ReadsBytes (in_memory c.new-rows.result) (in_memory c.read_rows_after.new.input)) c.in-Ok.record) c.header-header.ensures c.in-Ok.ensures)
