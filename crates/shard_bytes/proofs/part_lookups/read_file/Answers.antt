use Rattle.std.proofs.Common.{◌≡◌, ap, ◌∙◌, subst}
use Rattle.std.specs.Prelude.{MatchResult}
use Rattle.xet_base.specs.MemorySource.{in_memory}
use Rattle.xet_core_structures.specs.declared.shard_format.MDBShardFileFooter.{MDBShardFileFooter}
use Rattle.xet_core_structures.specs.declared.shard_format.MDBShardFileHeader.{MDBShardFileHeader}
use Rattle.xet_core_structures.specs.FileRecord.{file_records_in}
use Rattle.xet_core_structures.specs.Lookup.{ReadsInfo, ReadInfoFails}
use Rattle.xet_core_structures.specs.Source.{Source}
use Rattle.xet_core_structures.specs.Version.{version_of}
use Rattle.xet_records.proofs.RecordKinds.{version_known}
use Rattle.shard_bytes.proofs.InParts.{of_version}
use Rattle.shard_bytes.proofs.Walking.{at_row}
use Rattle.shard_bytes.proofs.part_lookups.read_file.Goals as goal

pub returns : goal.returns
returns c =
    let bytes = c.args.bytes.now in
    let version = c.in-Some.version in
    let old = in_memory c.new-source.result in
    let new = in_memory c.read_file_info.new.source in
    let front : c.default.result.file_info_offset ≡ 0 = ap (λ (f : MDBShardFileFooter). f.file_info_offset) c.default.ensures in
    let same : version_of c.of_version.result.version ≡ version = ap (λ (h : MDBShardFileHeader). version_of h.version) c.of_version.ensures ∙ version_known version in
    let read = subst (λ p. p) (λ i. MatchResult c.read_file_info.result (ReadsInfo (file_records_in (same i)) (front i) 0 old new) (ReadInfoFails (file_records_in (same i)) (front i) 0 old new)) c.read_file_info.ensures in
    of_version c.args.version version bytes c.unless_bookend.result c.in-Some.ensures
    (at_row (file_records_in version) bytes 0 0 c.new-source.result c.read_file_info.new.source (ap (λ (s : Source). s.bytes) c.new-source.ensures) c.read_file_info.result c.unless_bookend.result read c.unless_bookend.ensures)
