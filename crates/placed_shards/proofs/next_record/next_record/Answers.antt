use Rattle.std.proofs.Common.{◌≡◌, ◌+◌, ◌*◌, ◌<◌, ◌≤◌, false, length, ◌++◌, inl, inr, sym, ap, ◌∙◌, subst, refl, arith, rules}
use Rattle.std.proofs.lemmas.List.{take-append-drop}
use Rattle.xet_records.specs.Reading.{IsAccepted, IsRefused}
use Rattle.xet_records.specs.Reading.IsRefused.{not_allowed, too_many_rows}
use Rattle.xet_records.specs.RecordKind.{in_version}
use Rattle.xet_records.proofs.RecordKinds.{header_within, stored_in}
use Rattle.placed_shards.proofs.Decoded.{cut_begins, header_first, header_read}
use Rattle.placed_shards.proofs.next_record.next_record.Goals as goal

pub returns-then-is_bookend : goal.returns-then-is_bookend
returns-then-is_bookend g c =
    let K = g.P.PlacedRecord.kind in
    let h = c.row-header.result in
    let begins = header_read K g.P.Header.Row.row_bytes g.P.Header.Row.Fits g.P.Header.Row.as_read c.laws.ensures.header_row h c.args.bytes.now c.row-header.ensures in
    record { header = h; rest = begins.rest; widths = begins.widths; is_bookend = search rules; bytes_are = begins.bytes_are }

pub returns-then-refuses : goal.returns-then-refuses
returns-then-refuses g c =
    let K = g.P.PlacedRecord.kind in
    let h = c.row-header.result in
    let begins = header_read K g.P.Header.Row.row_bytes g.P.Header.Row.Fits g.P.Header.Row.as_read c.laws.ensures.header_row h c.args.bytes.now c.row-header.ensures in
    inr (c.new.ensures.bytes, (h, begins.rest, header_first (in_version K c.args.version) h c.args.bytes.now begins.rest begins.widths begins.bytes_are (search rules), not_allowed (search rules)))

pub returns-then-rows-rows_left : goal.returns-then-rows-rows_left
returns-then-rows-rows_left g c =
    let K = g.P.PlacedRecord.kind in
    let h = c.row-header.result in
    let begins = header_read K g.P.Header.Row.row_bytes g.P.Header.Row.Fits g.P.Header.Row.as_read c.laws.ensures.header_row h c.args.bytes.now c.row-header.ensures in
    let many : IsRefused (in_version K c.args.version) c.args.rows_left.now h = too_many_rows (omega (arith, c.if-rows-rows_left.true, c.rows_after-rows.ensures.rows)) in
    inr (c.new-then-rows-rows_left.ensures.bytes, (h, begins.rest, header_first (in_version K c.args.version) h c.args.bytes.now begins.rest begins.widths begins.bytes_are (search rules), many))

pub returns-then-bytes-size : goal.returns-then-bytes-size
returns-then-bytes-size g c =
    let K = g.P.PlacedRecord.kind in
    let h = c.row-header.result in
    let begins = header_read K g.P.Header.Row.row_bytes g.P.Header.Row.Fits g.P.Header.Row.as_read c.laws.ensures.header_row h c.args.bytes.now c.row-header.ensures in
    let accepted : IsAccepted (in_version K c.args.version) c.args.rows_left.now h = record { allowed = search rules; rows = omega (arith, c.if-rows-rows_left.false, c.rows_after-rows.ensures.rows) } in
    let few : length begins.rest < 48 * K.rows_after h = omega (arith, c.if-bytes-size.true, c.rows_after-rows.ensures.rows, header_within K c.laws.ensures.laws c.args.bytes.now h begins.rest begins.bytes_are) in
    inl (c.end_of_input-then-bytes-size.ensures, inr (h, begins.rest, header_first (in_version K c.args.version) h c.args.bytes.now begins.rest begins.widths begins.bytes_are (search rules), accepted, few))

pub under_header-record-requires : goal.under_header-record-requires
under_header-record-requires g c = λ k.
    let K = g.P.PlacedRecord.kind in
    let h = c.row-header.result in
    let begins = header_read K g.P.Header.Row.row_bytes g.P.Header.Row.Fits g.P.Header.Row.as_read c.laws.ensures.header_row h c.args.bytes.now c.row-header.ensures in
    let size = 48 * (1 + c.rows_after-rows.result) in
    let within : size ≤ length c.args.bytes.now = c.if-bytes-size.false in (
      (refl, tt),
      (
        cut_begins K c.laws.ensures.laws h c.args.bytes.now c.split_at.result.0.now size begins (omega arith) within c.split_at.ensures.front,
        (search rules, (omega (arith, c.requires, c.if-rows-rows_left.false, c.rows_after-rows.ensures.rows), omega (arith, c.split_at.ensures.front_len, c.rows_after-rows.ensures.rows))),
      ),
    )

pub returns : goal.returns
returns g c =
    let K = g.P.PlacedRecord.kind in
    let r = c.under_header-record.result in
    let made = c.under_header-record.ensures in
    let rows : 1 + c.rows_after-rows.result ≤ c.args.rows_left.now = c.if-rows-rows_left.false in
    record {
      stored = stored_in K c.args.version r (subst (λ h. (in_version K c.args.version).refuses h ≡ false) (sym made.header) (search rules)) made.stored;
      bytes_are = sym (take-append-drop _ c.args.bytes.now) ∙ (λ i. sym c.split_at.ensures.front i ++ sym c.split_at.ensures.back i) ∙ ap (λ l. l ++ c.split_at.result.1.now) (sym made.bytes);
      rows = omega (arith, rows, c.rows_after-rows.ensures.rows, ap K.rows_after made.header, c.laws.ensures.laws.rows r made.stored);
    }
