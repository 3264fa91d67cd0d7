use Rattle.std.proofs.Common.{◌≡◌, ap, ◌∙◌, subst}
use Rattle.xet_base.specs.MemorySource.{in_memory}
use Rattle.xet_core_structures.specs.Ends.{HasHeaderAndFooter}
use Rattle.xet_core_structures.specs.Source.{Source}
use Rattle.xet_core_structures.specs.Version.{version_of}
use Rattle.mdb_report.proofs.Reading.{read_files_fit, files_in_memory}
use Rattle.mdb_report.proofs.files.read_files.Goals as goal

pub returns-clause-fits : goal.returns-clause-fits
returns-clause-fits c =
    read_files_fit (version_of c.in_ok-info.info.header.version) (in_memory c.load_from_reader.new.source) (in_memory c.read_all_file_info_sections.new.source) c.in_ok-info.info.metadata.file_info_offset c.read_all_file_info_sections.result c.read_all_file_info_sections.ensures.read

pub returns-clause-read : goal.returns-clause-read
returns-clause-read c =
    let x : c.new-source.result.bytes.now ≡ c.args.bytes.now = ap (λ (s : Source). s.bytes) c.new-source.ensures in
    files_in_memory c.args.bytes.now c.in_ok-info.info c.load_from_reader.new.source c.read_all_file_info_sections.new.source c.read_all_file_info_sections.result
    (subst (λ bytes. HasHeaderAndFooter bytes c.in_ok-info.info) x c.in_ok-info.ensures.read.ends) (c.in_ok-info.ensures.read.bytes ∙ x)
    c.read_all_file_info_sections.ensures.read
