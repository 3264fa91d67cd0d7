use Rattle.std.proofs.Common.{◌≡◌, ap, ◌∙◌, subst}
use Rattle.xet_base.specs.MemorySource.{in_memory}
use Rattle.xet_core_structures.specs.Ends.{HasHeaderAndFooter}
use Rattle.xet_core_structures.specs.Source.{Source}
use Rattle.mdb_report.proofs.Reading.{read_xorbs_whole, xorbs_in_memory}
use Rattle.mdb_report.proofs.garbage.read_xorbs.Goals as goal

pub returns-clause-whole : goal.returns-clause-whole
returns-clause-whole c =
    read_xorbs_whole (in_memory c.load_from_reader.new.source) (in_memory c.read_all_xorb_blocks_full.new.source) c.in_ok-info.info.metadata.xorb_info_offset c.read_all_xorb_blocks_full.result c.read_all_xorb_blocks_full.ensures.read

pub returns-clause-read : goal.returns-clause-read
returns-clause-read c =
    let x : c.new-source.result.bytes.now ≡ c.args.bytes.now = ap (λ (s : Source). s.bytes) c.new-source.ensures in
    xorbs_in_memory c.args.bytes.now c.in_ok-info.info c.load_from_reader.new.source c.read_all_xorb_blocks_full.new.source c.read_all_xorb_blocks_full.result
    (subst (λ bytes. HasHeaderAndFooter bytes c.in_ok-info.info) x c.in_ok-info.ensures.read.ends) (c.in_ok-info.ensures.read.bytes ∙ x)
    c.read_all_xorb_blocks_full.ensures.read
