use Rattle.std.proofs.Common.{map, refl, ap, subst}
use Rattle.std.proofs.lemmas.List.{map-id}
use Rattle.std.proofs.lemmas.Result.{err_from_is_err_and}
use Rattle.xet_base.specs.Source.{Source}
use Rattle.xet_records.specs.FileRecord.{as_read, file_records}
use Rattle.xet_records.specs.RecordKind.{in_version}
use Rattle.xet_records.specs.XorbRecord.{xorb_records}
use Rattle.xet_records.proofs.RecordKinds.{file_laws, laws_in, xorb_laws}
use Rattle.xet_shards.specs.declared.shard_format.ends.options.LayoutOptions.{LayoutOptions}
use Rattle.xet_shards.specs.Ends.Ends.{HasHeaderAndFooter}
use Rattle.placed_shards.specs.ByTables.{HasByTable}
use Rattle.placed_shards.specs.Steps.InRows.{NotRead}
use Rattle.placed_shards.proofs.ByTables.{few_rows, files_refused, xorbs_refused, opened}
use Rattle.placed_shards.proofs.by_tables.open_by_tables.Goals as goal

pub returns-in_err-files : goal.returns-in_err-files
returns-in_err-files c =
    let bytes = c.args.bytes.now in
    let info = c.in_ok-info.info in
    let ends = subst (λ b. HasHeaderAndFooter b info) (ap (λ (s : Source). s.bytes) c.new-source.ensures) c.in_ok-info.ensures.read.ends in
    let e = c.in_err-files.field-0.0 in
    let p = err_from_is_err_and c.from_residual-in_err-files.result c.from_residual-in_err-files.ensures.1 in
    rw (p.1, p.2) (files_refused c.args.range.now bytes info ends e
    (subst (λ t. t) (λ i. NotRead (HasByTable (in_version file_records (c.of_header-version.ensures i)) c.args.range.now (c.bytes_from-from_files.ensures i) (c.of_files-file_table.ensures.rows i) (c.of_files-file_table.ensures.last i)) e) c.in_err-files.ensures))

pub returns-in_err-xorbs : goal.returns-in_err-xorbs
returns-in_err-xorbs c =
    let bytes = c.args.bytes.now in
    let info = c.in_ok-info.info in
    let ends = subst (λ b. HasHeaderAndFooter b info) (ap (λ (s : Source). s.bytes) c.new-source.ensures) c.in_ok-info.ensures.read.ends in
    let e = c.in_err-xorbs.field-0.0 in
    let p = err_from_is_err_and c.from_residual-in_err-xorbs.result c.from_residual-in_err-xorbs.ensures.1 in
    rw (p.1, p.2) (xorbs_refused c.args.range.now bytes info ends e
    (subst (λ t. t) (λ i. NotRead (HasByTable xorb_records c.args.range.now (c.bytes_from-from_xorbs.ensures i) (c.of_xorbs-xorb_table.ensures.rows i) (c.of_xorbs-xorb_table.ensures.last i)) e) c.in_err-xorbs.ensures))

pub invariant_of-result : goal.invariant_of-result
invariant_of-result c =
    let range = c.args.range.now in
    let version = c.of_header-version.result in
    record {
      file_rows = few_rows (in_version file_records version) (laws_in file_records file_laws version) range c.bytes_from-from_files.result.now c.of_files-file_table.result.rows.now c.of_files-file_table.result.last
          c.in_ok-files.files.items c.in_ok-files.ensures;
      xorb_rows = few_rows xorb_records xorb_laws range c.bytes_from-from_xorbs.result.now c.of_xorbs-xorb_table.result.rows.now c.of_xorbs-xorb_table.result.last c.in_ok-xorbs.xorbs.items c.in_ok-xorbs.ensures;
    }

pub returns : goal.returns
returns c =
    let bytes = c.args.bytes.now in
    let info = c.in_ok-info.info in
    let range = c.args.range.now in
    let ends = subst (λ b. HasHeaderAndFooter b info) (ap (λ (s : Source). s.bytes) c.new-source.ensures) c.in_ok-info.ensures.read.ends in
    let files = subst (λ t. t) (λ i. HasByTable (in_version file_records (c.of_header-version.ensures i)) range (c.bytes_from-from_files.ensures i) (c.of_files-file_table.ensures.rows i) (c.of_files-file_table.ensures.last i) (map as_read c.in_ok-files.files.items)) c.in_ok-files.ensures in
    let xorbs = subst (λ t. t) (λ i. HasByTable xorb_records range (c.bytes_from-from_xorbs.ensures i) (c.of_xorbs-xorb_table.ensures.rows i) (c.of_xorbs-xorb_table.ensures.last i) (map-id c.in_ok-xorbs.xorbs.items i)) c.in_ok-xorbs.ensures in (
      refl,
      record { files = files.ascends; xorbs = xorbs.ascends },
      opened range bytes info ends _ files xorbs (ap (λ (o : LayoutOptions). record o { key = info.metadata.chunk_hash_hmac_key }) c.plain.ensures),
    )
