use Rattle.std.proofs.Common.{◌≡◌, ◌≢◌, ◌+◌, ◌*◌, ◌≤◌, length, sym, subst, arith}
use Rattle.xet_base.specs.Hash.{all_ones}
use Rattle.xet_records.specs.FileRow.{header_row, FitsHeader}
use Rattle.xet_records.specs.FileRecord.{file_records}
use Rattle.xet_records.proofs.RecordKinds.{file_laws}
use Rattle.placed_shards.proofs.Decoded.{file_header_row, header_of_record, header_read, same_record, size_of_record}
use Rattle.placed_shards.proofs.placed_file.PlacedFilePlacedRecord.of_bytes.Goals as goal

pub row-header-requires : goal.row-header-requires
row-header-requires c = omega (arith, size_of_record file_records file_laws c.args.bytes.now c.requires.0 c.requires.1 c.requires.3)

pub under_header-requires-clause-begins : goal.under_header-requires-clause-begins
under_header-requires-clause-begins c = header_read file_records header_row FitsHeader (λ h. h) file_header_row c.row-header.result c.args.bytes.now c.row-header.ensures

pub under_header-requires-clause-is_record : goal.under_header-requires-clause-is_record
under_header-requires-clause-is_record c =
    let (r, stored, few, bytes_are) = c.requires in
    let begins = header_read file_records header_row FitsHeader (λ h. h) file_header_row c.row-header.result c.args.bytes.now c.row-header.ensures in
    subst (λ h. file_records.hash_of h ≢ all_ones) (sym (header_of_record file_records file_laws c.args.bytes.now r stored bytes_are c.row-header.result begins)) (file_laws.is_record r stored)

pub under_header-requires-clause-few : goal.under_header-requires-clause-few
under_header-requires-clause-few c =
    let (r, stored, few, bytes_are) = c.requires in
    let begins = header_read file_records header_row FitsHeader (λ h. h) file_header_row c.row-header.result c.args.bytes.now c.row-header.ensures in
    subst (λ h. file_records.rows_after h ≤ 4294967295) (sym (header_of_record file_records file_laws c.args.bytes.now r stored bytes_are c.row-header.result begins)) few

pub under_header-requires-clause-size : goal.under_header-requires-clause-size
under_header-requires-clause-size c =
    let (r, stored, few, bytes_are) = c.requires in
    let begins = header_read file_records header_row FitsHeader (λ h. h) file_header_row c.row-header.result c.args.bytes.now c.row-header.ensures in
    subst (λ h. length c.args.bytes.now ≡ 48 + 48 * file_records.rows_after h) (sym (header_of_record file_records file_laws c.args.bytes.now r stored bytes_are c.row-header.result begins))
    (size_of_record file_records file_laws c.args.bytes.now r stored bytes_are)

pub returns : goal.returns
returns c = λ r stored bytes_are. same_record file_records file_laws c.args.bytes.now _ r c.under_header.ensures.stored stored c.under_header.ensures.bytes bytes_are
