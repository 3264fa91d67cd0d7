use Rattle.std.proofs.Common.{◌≡◌, ◌+◌, ◌*◌, true, length, sym, ap, ◌∙◌, subst, arith, rules, length-drop}
use Rattle.std.proofs.lemmas.List.{length-take-le}
use Rattle.xet_records.specs.declared.file_structs.header.FileDataSequenceHeader.{FileDataSequenceHeader}
use Rattle.xet_records.specs.FileRecord.{as_read, file_record_bytes, file_records, rows_after}
use Rattle.xet_records.proofs.RecordKinds.{file_laws, length-record_bytes}
use Rattle.xet_shards.specs.Write.Puts.{Puts}
use Rattle.placed_shards.specs.StoredFiles.{file_as}
use Rattle.placed_shards.proofs.Filling.{file_parts, file_put}
use Rattle.placed_shards.proofs.putting.put_file.Goals as goal

pub put_cleared-requires-clause-rows : goal.put_cleared-requires-clause-rows
put_cleared-requires-clause-rows c =
    let f = c.args.file.now in
    let h = c.header-header.result in
    let bytes = c.bytes-bytes.result.now in
    let parts = file_parts f bytes c.is_stored.ensures.stored c.bytes-bytes.ensures.bytes in
    let n = ap (λ (g : FileDataSequenceHeader). g.num_entries) c.header-header.ensures in
    let rows = c.rows_after.ensures.rows ∙ ap rows_after c.header-header.ensures in
    omega (arith, n, rows, parts.size, parts.count, ap length c.split_at.ensures.back, length-drop (48 * (1 + h.num_entries)) bytes)

pub put_cleared-requires-clause-room : goal.put_cleared-requires-clause-room
put_cleared-requires-clause-room c =
    let f = c.args.file.now in
    let h = c.header-header.result in
    let bytes = c.bytes-bytes.result.now in
    let parts = file_parts f bytes c.is_stored.ensures.stored c.bytes-bytes.ensures.bytes in
    let n = ap (λ (g : FileDataSequenceHeader). g.num_entries) c.header-header.ensures in
    let rows = c.rows_after.ensures.rows ∙ ap rows_after c.header-header.ensures in
    let front : length c.split_at.result.0.now ≡ 48 * (1 + h.num_entries) = ap length c.split_at.ensures.front ∙ length-take-le (48 * (1 + h.num_entries)) bytes (omega (arith, n, parts.size, parts.count)) in
    omega (arith, c.requires, n, rows, parts.count, front, c.put_bytes-end.ensures.end_is, file_laws.rows f c.is_stored.ensures.stored)

pub returns-clause-end : goal.returns-clause-end
returns-clause-end c =
    let f = c.args.file.now in
    let parts = file_parts f c.bytes-bytes.result.now c.is_stored.ensures.stored c.bytes-bytes.ensures.bytes in
    let n = ap (λ (g : FileDataSequenceHeader). g.num_entries) c.header-header.ensures in
    let rows = c.rows_after.ensures.rows ∙ ap rows_after c.header-header.ensures in
    let whole = file_put f c.bytes-bytes.result.now c.split_at.result.0.now c.split_at.result.1.now c.header-header.result.num_entries _ c.is_stored.ensures.stored c.bytes-bytes.ensures.bytes n (omega (arith, n, rows, parts.count))
    c.split_at.ensures.front c.split_at.ensures.back c.args.out.now c.put_bytes-end.new.out c.put_cleared.new.out c.args.at c.put_bytes-end.result c.put_cleared.result c.put_bytes-end.ensures c.put_cleared.ensures in
    whole.end_is ∙ ap (λ k. c.args.at + k) (length-record_bytes file_records file_laws (as_read f) (file_laws.as_read_stored f c.is_stored.ensures.stored) ∙ ap (λ k. 48 * k) (file_laws.same_rows f))

pub returns-clause-bytes : goal.returns-clause-bytes
returns-clause-bytes c =
    let f = c.args.file.now in
    let parts = file_parts f c.bytes-bytes.result.now c.is_stored.ensures.stored c.bytes-bytes.ensures.bytes in
    let n = ap (λ (g : FileDataSequenceHeader). g.num_entries) c.header-header.ensures in
    let rows = c.rows_after.ensures.rows ∙ ap rows_after c.header-header.ensures in
    let whole = file_put f c.bytes-bytes.result.now c.split_at.result.0.now c.split_at.result.1.now c.header-header.result.num_entries _ c.is_stored.ensures.stored c.bytes-bytes.ensures.bytes n (omega (arith, n, rows, parts.count))
    c.split_at.ensures.front c.split_at.ensures.back c.args.out.now c.put_bytes-end.new.out c.put_cleared.new.out c.args.at c.put_bytes-end.result c.put_cleared.result c.put_bytes-end.ensures c.put_cleared.ensures in
    let is : c.args.is_read ≡ true = search rules in
    subst (λ b. Puts c.args.out.now c.put_cleared.new.out c.args.at c.put_cleared.result (file_record_bytes (file_as b f))) (sym is) whole
