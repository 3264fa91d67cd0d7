use Rattle.std.proofs.Common.{refl, subst, arith}
use Rattle.std.proofs.lemmas.Result.{err_from_is_err_and}
use Rattle.std.specs.Io.KnownBytes.{Appends}
use Rattle.xet_records.specs.View.{all_with_aux_if}
use Rattle.xet_shards.specs.Write.Layout.{if_included, shard_header_bytes}
use Rattle.xet_shards.specs.Export.KeyedExport.{keyed_xorbs}
use Rattle.xet_shards.proofs.Export.KeyedExport.{files_exported, xorbs_exported, section_exported, files_not_exported, xorbs_not_exported, header_not_written, end_not_written, widths_out, export_small, all_exported}
use Rattle.xet_shards.proofs.shard_format.export.keyed_export.export.Goals as goal

pub returns-in_err-serialize : goal.returns-in_err-serialize
returns-in_err-serialize g c =
    let read = c.in_ok-read_header.ensures in
    let p = err_from_is_err_and c.from_residual-in_err-serialize.result c.from_residual-in_err-serialize.ensures.1 in
    rw (p.1, p.2) (header_not_written c.in_ok-read_header.field-0 read.read read.known.1 _ c.in_err-serialize.ensures.causes)

pub returns-in_err-files : goal.returns-in_err-files
returns-in_err-files g c =
    let read = c.in_ok-read_header.ensures in
    let p = err_from_is_err_and c.from_residual-in_err-files.result c.from_residual-in_err-files.ensures.1 in
    rw (p.1, p.2) (files_not_exported c.in_ok-read_header.field-0 read.read read.known.1 _ _ (rw c.format_version-version.ensures at c.in_err-files.ensures))

pub returns-in_err-xorbs : goal.returns-in_err-xorbs
returns-in_err-xorbs g c =
    let read = c.in_ok-read_header.ensures in
    let files = section_exported _ (files_exported c.args.aux_ext c.args.options.now) (rw c.format_version-version.ensures at c.in_ok-files.ensures) in
    let p = err_from_is_err_and c.from_residual-in_err-xorbs.result c.from_residual-in_err-xorbs.ensures.1 in
    rw (p.1, p.2) (xorbs_not_exported c.in_ok-read_header.field-0 read.read read.known.1 files.passed _ _ c.in_err-xorbs.ensures)

pub returns-in_err-footer : goal.returns-in_err-footer
returns-in_err-footer g c =
    let read = c.in_ok-read_header.ensures in
    let files = section_exported _ (files_exported c.args.aux_ext c.args.options.now) (rw c.format_version-version.ensures at c.in_ok-files.ensures) in
    let xorbs = section_exported _ (xorbs_exported c.args.aux_ext c.args.options.now) c.in_ok-xorbs.ensures in
    let p = err_from_is_err_and c.from_residual-in_err-footer.result c.from_residual-in_err-footer.ensures.1 in
    rw (p.1, p.2) (end_not_written c.in_ok-read_header.field-0 read.read read.known.1 files.passed xorbs.passed _ c.in_err-footer.ensures.causes)

pub overflow_add-size : goal.overflow_add-size
overflow_add-size g c =
    let read = c.in_ok-read_header.ensures in
    let h = c.in_ok-read_header.field-0 in
    let options = c.args.options.now in
    let aux = c.args.aux_ext in
    let files = section_exported _ (files_exported aux options) (rw c.format_version-version.ensures at c.in_ok-files.ensures) in
    let xorbs = section_exported _ (xorbs_exported aux options) c.in_ok-xorbs.ensures in
    let fit = widths_out h read.read read.known.1 files.passed xorbs.passed aux options in
    let footer = c.in_ok-footer.ensures.footer (if_included options.file_table (all_with_aux_if aux files.stored)) (keyed_xorbs options.key xorbs.stored) fit files.collected xorbs.collected in
    omega (arith, export_small h read.read read.known.1 files.passed xorbs.passed aux options c.in_ok-footer.footer footer)

pub returns : goal.returns
returns g c =
    let contents = g.W.Write.contents in
    let read = c.in_ok-read_header.ensures in
    let h = c.in_ok-read_header.field-0 in
    let options = c.args.options.now in
    let aux = c.args.aux_ext in
    let files = section_exported _ (files_exported aux options) (rw c.format_version-version.ensures at c.in_ok-files.ensures) in
    let xorbs = section_exported _ (xorbs_exported aux options) c.in_ok-xorbs.ensures in
    let fit = widths_out h read.read read.known.1 files.passed xorbs.passed aux options in
    let files_out = if_included options.file_table (all_with_aux_if aux files.stored) in
    let xorbs_out = keyed_xorbs options.key xorbs.stored in
    let footer = c.in_ok-footer.ensures.footer files_out xorbs_out fit files.collected xorbs.collected in
    let header = subst (λ h. Appends (contents c.args.writer.now) (contents c.serialize.new.writer) (shard_header_bytes h)) c.of_version.ensures c.in_ok-serialize.ensures.bytes in
    all_exported h read.read read.known.1 files.passed xorbs.passed aux options c.requires _ (contents c.serialize.new.writer) (contents c.export_section.new.writer) (contents c.export_section-2.new.writer) _
    footer c.in_ok-footer.ensures.widths refl header files.written xorbs.written (c.in_ok-footer.ensures.bytes files_out xorbs_out fit files.collected xorbs.collected)
