use Rattle.std.proofs.Common.{◌≡◌, ap, ◌∙◌, subst}
use Rattle.xet_core_structures.specs.Ends.{HasHeaderAndFooter}
use Rattle.xet_core_structures.specs.SectionReading.{files_of}
use Rattle.xet_core_structures.specs.Source.{Source}
use Rattle.shard_bytes.specs.Walking.{IsAtRow, NotAtRow}
use Rattle.shard_bytes.proofs.Walking.{at_row, found_with_ends}
use Rattle.shard_bytes.proofs.walk.file_at.Goals as goal

pub returns : goal.returns
returns c =
    let bytes = c.args.bytes.now in
    let info = c.in_ok-info.info in
    let x : c.new-source.result.bytes.now ≡ bytes = ap (λ (s : Source). s.bytes) c.new-source.ensures in
    let same : c.load_from_reader.new.source.bytes.now ≡ bytes = c.in_ok-info.ensures.read.bytes ∙ x in
    let ends = subst (λ all. HasHeaderAndFooter all info) x c.in_ok-info.ensures.read.ends in
    found_with_ends bytes info ends (λ i found. IsAtRow (files_of i) bytes i.metadata.file_info_offset c.args.row found) (λ i e. NotAtRow (files_of i) bytes i.metadata.file_info_offset c.args.row e)
    c.unless_bookend.result
    (at_row (files_of info) bytes info.metadata.file_info_offset c.args.row c.load_from_reader.new.source c.read_file_info.new.source same c.read_file_info.result c.unless_bookend.result c.read_file_info.ensures c.unless_bookend.ensures)
