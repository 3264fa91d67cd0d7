-- The lengths of header, sections and footer.
use Rattle.std.proofs.Common.{◌≡◌, ◌+◌, ◌*◌, List, flat_map, length, ◌∙◌, arith}
use Rattle.std.specs.Prelude.{All}
use Rattle.std.proofs.lemmas.List.{length-append}
use Rattle.xet_base.specs.Bytes.{u64_bytes}
use Rattle.xet_base.proofs.Bytes.{length-u64_bytes, length-hash_bytes, length-numbers}
use Rattle.xet_records.specs.declared.file_structs.MDBFileInfo.{MDBFileInfo}
use Rattle.xet_records.specs.declared.xorb_structs.MDBXorbInfo.{MDBXorbInfo}
use Rattle.xet_records.specs.RecordKind.{RecordKind}
use Rattle.xet_records.specs.FileRecord.{file_records, file_bookend, FitsRecord}
use Rattle.xet_records.specs.XorbRecord.{xorb_records, xorb_bookend}
use Rattle.xet_records.proofs.Lengths.{length-header_row, length-file_record_bytes, length-xorb_header_row, length-xorb_record_bytes, length-all_record_bytes}
use Rattle.xet_shards.specs.declared.shard_format.ends.header.MDBShardFileHeader.{MDBShardFileHeader}
use Rattle.xet_shards.specs.declared.shard_format.ends.footer.MDBShardFileFooter.{MDBShardFileFooter}
use Rattle.xet_shards.specs.Write.Section.{total_rows, section_bytes}
use Rattle.xet_shards.specs.Write.Layout.{shard_header_bytes, shard_footer_bytes}

-- a row has 48 bytes, the bookend too
length-section : {H R : Type 0} (K : RecordKind H R) (Fits : R → Type 0) → length (K.header_bytes K.bookend) ≡ 48 → ((r : R) → Fits r → length (K.record_bytes r) ≡ 48 * K.row_count r)
    → (records : List R) → All Fits records → length (section_bytes K records) ≡ 48 * total_rows K records + 48
unfolding section_bytes
length-section K Fits bookend each records fit =
    length-append (flat_map K.record_bytes records) (K.header_bytes K.bookend) ∙ omega (arith, length-all_record_bytes K.record_bytes K.row_count Fits each records fit, bookend)

pub length-file_section : (files : List MDBFileInfo) → All FitsRecord files → length (section_bytes file_records files) ≡ 48 * total_rows file_records files + 48
length-file_section files fit = length-section file_records FitsRecord (length-header_row file_bookend) length-file_record_bytes files fit

pub length-xorb_section : (xorbs : List MDBXorbInfo) → length (section_bytes xorb_records xorbs) ≡ 48 * total_rows xorb_records xorbs + 48
length-xorb_section xorbs = length-section xorb_records (λ r. Unit {0}) (length-xorb_header_row xorb_bookend) (λ r any. length-xorb_record_bytes r) xorbs (λ i r below. tt)

pub length-shard_header_bytes : (h : MDBShardFileHeader) → length (shard_header_bytes h) ≡ 48
unfolding shard_header_bytes
length-shard_header_bytes h = simp (length-append, length-u64_bytes)

pub length-shard_footer_bytes : (f : MDBShardFileFooter) → length f._buffer ≡ 6 → length (shard_footer_bytes f) ≡ 200
unfolding shard_footer_bytes
length-shard_footer_bytes f six =
    simp (length-append, length-u64_bytes, length-hash_bytes) (omega (arith, length-numbers u64_bytes 8 length-u64_bytes f._buffer, six))
