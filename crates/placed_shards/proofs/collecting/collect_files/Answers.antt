use Rattle.std.proofs.Common.{◌<◌, ◌≤◌, ◌++◌, ◌∷◌, [], length, take, sym, ap, ◌∙◌, subst, arith, rules}
use Rattle.std.specs.Prelude.{map}
use Rattle.std.proofs.lemmas.List.{length-append, map-append, take_more, take_all}
use Rattle.std.proofs.lemmas.List.Sums.{sum_by_more_le}
use Rattle.xet_records.specs.declared.file_structs.MDBFileInfo.{MDBFileInfo}
use Rattle.xet_records.specs.FileRecord.{as_read, file_records, row_count}
use Rattle.xet_records.proofs.RecordKinds.{file_laws}
use Rattle.xet_shards.specs.Write.Written.{HasWritten}
use Rattle.placed_shards.proofs.Filling.{written_as}
use Rattle.placed_shards.proofs.collecting.collect_files.Goals as goal

pub collect-requires-clause-there : goal.collect-requires-clause-there
collect-requires-clause-there c =
    let r = c.file-item.result in
    let stores = c.header_and_rows.ensures in
    omega (arith, ap length stores.rows_are, length-append (file_records.bytes_after r) stores.rest, file_laws.size_after r stores.is_stored, ap file_records.rows_after stores.header_is)

pub collect-requires-clause-rows : goal.collect-requires-clause-rows
collect-requires-clause-rows c =
    let files = c.args.files.now in
    let i = c.loop-file.file-index in
    let r = c.file-item.result in
    let stores = c.header_and_rows.ensures in
    let below : i < length files = search rules in
    omega (arith, c.loop-file.invariant.stored.table.rows, c.requires, sum_by_more_le row_count files i r below, file_laws.rows r stores.is_stored, ap file_records.rows_after stores.header_is, ap row_count c.file-item.is)

pub loop-file-preserved : goal.loop-file-preserved
loop-file-preserved c =
    let files = c.args.files.now in
    let i = c.loop-file.file-index in
    let r = c.file-item.result in
    let below : i < length files = search rules in
    let more = ap (λ (x : MDBFileInfo). take i files ++ x ∷ []) c.file-item.is ∙ sym (take_more files i r below) in
    record {
      stored = subst (HasWritten c.collect.new.self) more (c.in_ok-collect.ensures.collected r c.header_and_rows.ensures (take i files) c.loop-file.invariant.stored).0;
      read = subst (HasWritten c.collect.new.self) (sym (map-append as_read (take i files) (r ∷ [])) ∙ ap (map as_read) more)
          (c.in_ok-collect.ensures.collected r c.header_and_rows.ensures (map as_read (take i files)) c.loop-file.invariant.read).1;
    }

pub returns : goal.returns
returns c = λ b.
    let files = c.args.files.now in
    let past : length files ≤ c.loop-file.file-index = search rules in
    let all = take_all c.loop-file.file-index files past in
    written_as b c.loop-file.written files (subst (HasWritten c.loop-file.written) all c.loop-file.invariant.stored) (subst (λ fs. HasWritten c.loop-file.written (map as_read fs)) all c.loop-file.invariant.read)
