use Rattle.std.proofs.Common.{◌≢◌, ◌+◌, ◌<◌, true≢false, sym, ◌∙◌, arith}
use Rattle.xet_base.specs.Hash.{all_ones}
use Rattle.xet_records.specs.Reading.IsRefused.{not_allowed, too_many_rows}
use Rattle.xet_records.specs.Reading.NextRecordNotRead.{refused_header}
use Rattle.xet_records.proofs.SectionRecords.{header_read, header_in}
use Rattle.xet_records.proofs.record_reader.read_header.Goals as goal

pub returns-then-refuses : goal.returns-then-refuses
returns-then-refuses g c =
    let h = c.in_ok-header.header in
    let K = g.R.SectionRecord.kind in
    let is_record : K.hash_of h ≢ all_ones = λ ones. true≢false (sym (c.is_bookend.ensures.1 ones) ∙ c.if-is_bookend.false) in
    let read = header_in K c.args.version _ _ (header_read K _ _ _ _ h g.met.R.SectionRecord.header_row c.in_ok-header.ensures is_record) in
    refused_header h read (not_allowed (sym c.refuses.ensures ∙ c.if-refuses.true)) c.new.ensures.bytes

pub returns-then-rows-rows_left : goal.returns-then-rows-rows_left
returns-then-rows-rows_left g c =
    let h = c.in_ok-header.header in
    let K = g.R.SectionRecord.kind in
    let is_record : K.hash_of h ≢ all_ones = λ ones. true≢false (sym (c.is_bookend.ensures.1 ones) ∙ c.if-is_bookend.false) in
    let read = header_in K c.args.version _ _ (header_read K _ _ _ _ h g.met.R.SectionRecord.header_row c.in_ok-header.ensures is_record) in
    let past : c.args.rows_left.now < 1 + K.rows_after h = omega (arith, c.rows_after-rows.ensures.rows, c.if-rows-rows_left.true) in
    refused_header h read (too_many_rows past) c.new-then-rows-rows_left.ensures.bytes
