use Rattle.std.proofs.Common.{◌≡◌, take, sum_by, ℕ, ap, ◌∙◌, arith}
use Rattle.std.proofs.lemmas.List.Sums.{sum_by_push}
use Rattle.xet_records.specs.declared.file_structs.rows.FileDataSequenceEntry.{FileDataSequenceEntry}
use Rattle.xet_records.specs.FileRow.{FitsSegment, segment_row}
use Rattle.xet_records.proofs.RowsWithin.{segment_laws}
use Rattle.xet_shards.proofs.Write.Collecting.{one_row_more, all_rows}
use Rattle.xet_shards.proofs.shard_format.write.file_writer.size_of_segments.Goals as goal

abbrev bytes_of : FileDataSequenceEntry → ℕ
bytes_of s = s.unpacked_segment_bytes

pub loop-index-preserved : goal.loop-index-preserved
loop-index-preserved c =
    let i = c.loop-index.index in
    let x = c.row-segment.result in
    record {
      size = λ segments begins.
          let more = one_row_more segment_row FitsSegment segment_laws c.args.rows.now c.args.count segments begins i x c.loop-index-test.true c.row-segment.ensures in
          omega (arith, c.loop-index.invariant.size segments begins, sum_by_push bytes_of (take i segments) x, ap (sum_by bytes_of) more, c.from-size.ensures);
      bound = omega (arith, c.loop-index.invariant.bound, c.from-size.ensures);
    }

pub returns-clause-size : goal.returns-clause-size
returns-clause-size c = λ segments begins.
    let all : take c.loop-index.index segments ≡ segments = ap (λ n. take n segments) (omega (arith, c.loop-index-test.false)) ∙ all_rows segment_row FitsSegment segment_laws c.args.rows.now c.args.count segments begins in
    c.loop-index.invariant.size segments begins ∙ ap (sum_by bytes_of) all
