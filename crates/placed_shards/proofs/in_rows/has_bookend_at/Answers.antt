use Rattle.std.proofs.Common.{◌≡◌, ◌*◌, drop, ap, ◌∙◌, subst}
use Rattle.xet_records.specs.View.{BeginsWithHeaderRow}
use Rattle.placed_shards.proofs.Decoded.{header_read}
use Rattle.placed_shards.proofs.InRows.{bookend_there}
use Rattle.placed_shards.proofs.in_rows.has_bookend_at.Goals as goal

pub returns : goal.returns
returns g c =
    let K = g.P.PlacedRecord.kind in
    let h = c.row-header.result in
    let bytes = c.bytes_from-bytes.result.now in
    let there : bytes ≡ drop (48 * c.args.at) c.args.section.now = ◌∙◌ {b = drop c.offset_of.result c.args.section.now} c.bytes_from-bytes.ensures (ap (λ n. drop n c.args.section.now) c.offset_of.ensures) in
    let begins = header_read K g.P.Header.Row.row_bytes g.P.Header.Row.Fits g.P.Header.Row.as_read c.laws.ensures.header_row h bytes c.row-header.ensures in
    bookend_there K c.laws.ensures.laws (drop (48 * c.args.at) c.args.section.now) h (subst (λ b. BeginsWithHeaderRow K b h) there begins) c.is_bookend.result c.is_bookend.ensures
