use Rattle.std.proofs.Common.{◌+◌, ◌*◌, drop, refl, sym, ap, ◌∙◌, subst, arith}
use Rattle.std.proofs.lemmas.List.{drop-drop}
use Rattle.std.proofs.lemmas.Result.{err_from_is_err_and}
use Rattle.xet_records.specs.FileRecord.{file_records, file_records_in}
use Rattle.xet_records.specs.XorbRecord.{xorb_records}
use Rattle.xet_shards.specs.Export.KeyedExport.{BadSection}
use Rattle.xet_shards.specs.Export.KeyedExport.SectionsCase.{bad_files, bad_xorbs}
use Rattle.xet_shards.specs.Read.SectionReading.{IsSection}
use Rattle.xet_shards.specs.Write.Section.{total_rows}
use Rattle.placed_shards.proofs.open.open_behind_header.Goals as goal

pub returns-in_err-files : goal.returns-in_err-files
returns-in_err-files c =
    let header = c.in_ok-version.ensures in
    let p = err_from_is_err_and c.from_residual-in_err-files.result c.from_residual-in_err-files.ensures.1 in
    rw (p.1, p.2) (bad_files header.0 (subst (λ v. BadSection (file_records_in v) (drop 48 c.args.bytes.now) c.in_err-files.field-0.0) (sym header.1)
    (subst (λ bs. BadSection (file_records_in c.in_ok-version.version) bs c.in_err-files.field-0.0) c.bytes_from-from_files.ensures c.in_err-files.ensures)))

pub returns-in_err-xorbs : goal.returns-in_err-xorbs
returns-in_err-xorbs c =
    let bytes = c.args.bytes.now in
    let header = c.in_ok-version.ensures in
    let files = c.in_ok-files.field-0.records.items in
    let section = subst (λ v. IsSection (file_records_in v) (drop 48 bytes) files) (sym header.1) (subst (λ bs. IsSection (file_records_in c.in_ok-version.version) bs files) c.bytes_from-from_files.ensures c.in_ok-files.ensures.0) in
    let after = c.in_ok-files.ensures.1 ∙ ap (drop (48 * (total_rows file_records files + 1))) c.bytes_from-from_files.ensures ∙ drop-drop (48 * (total_rows file_records files + 1)) 48 bytes ∙ ap (λ n. drop n bytes) (omega arith) in
    let p = err_from_is_err_and c.from_residual-in_err-xorbs.result c.from_residual-in_err-xorbs.ensures.1 in
    rw (p.1, p.2) (bad_xorbs header.0 files section (subst (λ bs. BadSection xorb_records bs c.in_err-xorbs.field-0.0) after c.in_err-xorbs.ensures))

pub returns : goal.returns
returns c =
    let bytes = c.args.bytes.now in
    let header = c.in_ok-version.ensures in
    let files = c.in_ok-files.field-0.records.items in
    let xorbs = c.in_ok-xorbs.field-0.records.items in
    let section = subst (λ v. IsSection (file_records_in v) (drop 48 bytes) files) (sym header.1) (subst (λ bs. IsSection (file_records_in c.in_ok-version.version) bs files) c.bytes_from-from_files.ensures c.in_ok-files.ensures.0) in
    let after = c.in_ok-files.ensures.1 ∙ ap (drop (48 * (total_rows file_records files + 1))) c.bytes_from-from_files.ensures ∙ drop-drop (48 * (total_rows file_records files + 1)) 48 bytes ∙ ap (λ n. drop n bytes) (omega arith) in (
      record { header = header.0; file_section = section; xorb_section = subst (λ bs. IsSection xorb_records bs xorbs) after c.in_ok-xorbs.ensures.0 },
      refl,
      c.plain.ensures,
    )
