use Rattle.std.proofs.Common.{◌++◌, ◌<◌, length, map, refl, sym, ap, ◌∙◌, Some, arith}
use Rattle.xet_records.specs.declared.file_structs.header.FileDataSequenceHeader.{FileDataSequenceHeader}
use Rattle.xet_records.specs.declared.file_structs.rows.FileDataSequenceEntry.{FileDataSequenceEntry}
use Rattle.xet_records.specs.FileRow.{segment_row, FitsSegment}
use Rattle.xet_records.proofs.RowsWithin.{segment_laws, rows_within, row_at_index}
use Rattle.xet_records.proofs.Views.{has_segments}
use Rattle.xet_shards.specs.declared.streaming_shard.file_start.FileStart.{FileStart}
use Rattle.xet_shards.proofs.StreamingShard.MinimalShard.{one_more}
use Rattle.placed_shards.proofs.Shown.{file_shown}
use Rattle.placed_shards.proofs.marks.push_start.Goals as goal

pub row-segment-requires : goal.row-segment-requires
row-segment-requires c =
    let r = c.args.file.now in
    let bytes = c.bytes.result.now in
    let shown = file_shown r bytes c.is_stored.ensures.stored c.is_stored.ensures.rows c.bytes.ensures.bytes in
    omega (
      arith,
      rows_within segment_row FitsSegment segment_laws bytes 1 r.segments (has_segments r.metadata bytes r shown),
      shown.whole.parts.segments,
      ap (λ (h : FileDataSequenceHeader). h.num_entries) c.header.ensures,
      c.if-header-eq0.false,
    )

pub returns : goal.returns
returns c =
    let r = c.args.file.now in
    let bytes = c.bytes.result.now in
    let segment = c.row-segment.result in
    let shown = file_shown r bytes c.is_stored.ensures.stored c.is_stored.ensures.rows c.bytes.ensures.bytes in
    let some : 0 < length r.segments = omega (arith, shown.whole.parts.segments, ap (λ (h : FileDataSequenceHeader). h.num_entries) c.header.ensures, c.if-header-eq0.false) in
    let found = row_at_index segment_row FitsSegment segment_laws (λ (s : FileDataSequenceEntry). s) bytes 1 r.segments 0 1 segment (has_segments r.metadata bytes r shown) some refl c.row-segment.ensures in
    let start : FileDataSequenceEntry → FileStart = λ s. record { xorb_hash = s.xorb_hash; chunk_index = s.chunk_index_start } in
    c.in_ok-push.ensures.items ∙ ap (λ ss. c.args.starts.now.items ++ map start ss) (sym (one_more r.segments 0 segment (found.1 ∙ ap Some found.2)))
