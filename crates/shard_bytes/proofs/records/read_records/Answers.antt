use Rattle.std.proofs.Common.{◌≡◌, ap, ◌∙◌, subst}
use Rattle.std.proofs.lemmas.Result.{err_from_is_err_and}
use Rattle.xet_base.specs.MemorySource.{in_memory}
use Rattle.xet_core_structures.specs.Ends.{HasHeaderAndFooter}
use Rattle.xet_core_structures.specs.Source.{Source}
use Rattle.shard_bytes.proofs.Recording.{only_memory, xorbs_not_read}
use Rattle.shard_bytes.proofs.Written.{as_written}
use Rattle.shard_bytes.proofs.records.read_records.Goals as goal

pub returns-in_err-files-clause-written : goal.returns-in_err-files-clause-written
returns-in_err-files-clause-written c s is =
    let x : c.new-source.result.bytes.now ≡ c.args.bytes.now = ap (λ (s : Source). s.bytes) c.new-source.ensures in
    let loaded = c.load_from_reader.new.source in
    let have = as_written s c.args.bytes.now (in_memory c.new-source.result) (in_memory loaded) c.in_ok-info.info is x c.in_ok-info.ensures.read in
    let p = err_from_is_err_and c.from_residual-in_err-files.result c.from_residual-in_err-files.ensures.1 in
    rw (p.1, p.2) (only_memory loaded c.read_all_file_info_sections.new.source _ (c.in_err-files.ensures.written s have))

pub returns-in_err-xorbs-clause-any_bytes : goal.returns-in_err-xorbs-clause-any_bytes
returns-in_err-xorbs-clause-any_bytes c =
    let bytes = c.args.bytes.now in
    let info = c.in_ok-info.info in
    let x : c.new-source.result.bytes.now ≡ bytes = ap (λ (s : Source). s.bytes) c.new-source.ensures in
    let ends = subst (λ all. HasHeaderAndFooter all info) x c.in_ok-info.ensures.read.ends in
    let p = err_from_is_err_and c.from_residual-in_err-xorbs.result c.from_residual-in_err-xorbs.ensures.1 in
    rw (p.1, p.2)
    (xorbs_not_read bytes info ends c.load_from_reader.new.source c.read_all_file_info_sections.new.source c.read_all_xorb_blocks_full.new.source info.metadata.file_info_offset _ _ (c.in_ok-info.ensures.read.bytes ∙ x)
    c.in_ok-files.ensures.read c.in_err-xorbs.ensures.read)
