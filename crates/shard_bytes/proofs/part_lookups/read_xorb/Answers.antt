use Rattle.std.proofs.Common.{◌≡◌, ap, subst}
use Rattle.std.specs.Prelude.{MatchResult}
use Rattle.xet_base.specs.MemorySource.{in_memory}
use Rattle.xet_core_structures.specs.declared.shard_format.MDBShardFileFooter.{MDBShardFileFooter}
use Rattle.xet_core_structures.specs.Lookup.{ReadsInfo, ReadInfoFails}
use Rattle.xet_core_structures.specs.Source.{Source}
use Rattle.xet_core_structures.specs.XorbRecord.{xorb_records}
use Rattle.shard_bytes.proofs.Walking.{at_row}
use Rattle.shard_bytes.proofs.part_lookups.read_xorb.Goals as goal

pub returns : goal.returns
returns c =
    let old = in_memory c.new-source.result in
    let new = in_memory c.read_xorb_info.new.source in
    let front : c.default.result.metadata.xorb_info_offset ≡ 0 = ap (λ (f : MDBShardFileFooter). f.xorb_info_offset) c.default.ensures.1 in
    let read = subst (λ at. MatchResult c.read_xorb_info.result (ReadsInfo xorb_records at 0 old new) (ReadInfoFails xorb_records at 0 old new)) front c.read_xorb_info.ensures in
    at_row xorb_records c.args.bytes.now 0 0 c.new-source.result c.read_xorb_info.new.source (ap (λ (s : Source). s.bytes) c.new-source.ensures) c.read_xorb_info.result c.unless_bookend.result read c.unless_bookend.ensures
