use Rattle.std.proofs.Common.{◌≡◌, ◌≢◌, ◌+◌, ◌*◌, ◌≤◌, length, sym, subst, arith}
use Rattle.xet_base.specs.Hash.{all_ones}
use Rattle.xet_records.specs.XorbRow.{xorb_header_row, FitsXorbHeader}
use Rattle.xet_records.specs.XorbRecord.{xorb_records}
use Rattle.xet_records.proofs.RecordKinds.{xorb_laws}
use Rattle.placed_shards.proofs.Decoded.{xorb_header_is_row, header_of_record, header_read, same_record, size_of_record}
use Rattle.placed_shards.proofs.placed_xorb.PlacedXorbPlacedRecord.of_bytes.Goals as goal

pub row-header-requires : goal.row-header-requires
row-header-requires c = omega (arith, size_of_record xorb_records xorb_laws c.args.bytes.now c.requires.0 c.requires.1 c.requires.3)

pub under_header-requires-clause-begins : goal.under_header-requires-clause-begins
under_header-requires-clause-begins c = header_read xorb_records xorb_header_row FitsXorbHeader (λ h. h) xorb_header_is_row c.row-header.result c.args.bytes.now c.row-header.ensures

pub under_header-requires-clause-is_record : goal.under_header-requires-clause-is_record
under_header-requires-clause-is_record c =
    let (r, stored, few, bytes_are) = c.requires in
    let begins = header_read xorb_records xorb_header_row FitsXorbHeader (λ h. h) xorb_header_is_row c.row-header.result c.args.bytes.now c.row-header.ensures in
    subst (λ h. xorb_records.hash_of h ≢ all_ones) (sym (header_of_record xorb_records xorb_laws c.args.bytes.now r stored bytes_are c.row-header.result begins)) (xorb_laws.is_record r stored)

pub under_header-requires-clause-few : goal.under_header-requires-clause-few
under_header-requires-clause-few c =
    let (r, stored, few, bytes_are) = c.requires in
    let begins = header_read xorb_records xorb_header_row FitsXorbHeader (λ h. h) xorb_header_is_row c.row-header.result c.args.bytes.now c.row-header.ensures in
    subst (λ h. xorb_records.rows_after h ≤ 4294967295) (sym (header_of_record xorb_records xorb_laws c.args.bytes.now r stored bytes_are c.row-header.result begins)) few

pub under_header-requires-clause-size : goal.under_header-requires-clause-size
under_header-requires-clause-size c =
    let (r, stored, few, bytes_are) = c.requires in
    let begins = header_read xorb_records xorb_header_row FitsXorbHeader (λ h. h) xorb_header_is_row c.row-header.result c.args.bytes.now c.row-header.ensures in
    subst (λ h. length c.args.bytes.now ≡ 48 + 48 * xorb_records.rows_after h) (sym (header_of_record xorb_records xorb_laws c.args.bytes.now r stored bytes_are c.row-header.result begins))
    (size_of_record xorb_records xorb_laws c.args.bytes.now r stored bytes_are)

pub returns : goal.returns
returns c = λ r stored bytes_are. same_record xorb_records xorb_laws c.args.bytes.now _ r c.under_header.ensures.stored stored c.under_header.ensures.bytes bytes_are
