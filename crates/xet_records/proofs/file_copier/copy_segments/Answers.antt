use Rattle.std.proofs.Common.{[], ◌∷◌, ◌+◌, ◌*◌, ◌≤◌, ◌++◌, refl, ap, ◌∙◌, length, flat_map, arith}
use Rattle.std.proofs.lemmas.Result.{err_from_is_err_and}
use Rattle.xet_records.specs.FileRow.{segment_row}
use Rattle.xet_records.proofs.Copying.{none_copied, more_copied, one_more_segment, copy_fails_later}
use Rattle.xet_records.proofs.file_copier.copy_segments.Goals as goal

pub loop-row-init : goal.loop-row-init
loop-row-init g c = record { copied = ([], none_copied _ _ _ _ _ (g.met.I.ByteInput.reads_nothing _), refl); bound = omega arith }

pub loop-row-preserved : goal.loop-row-preserved
loop-row-preserved g c =
    let before = c.loop-row.invariant.copied in
    record {
      copied = (
        before.0 ++ c.in_ok-segment.segment ∷ [],
        more_copied _ _ _ _ _ _ _ (g.W.Write.contents c.loop-row.writer) _ _ _ _ (g.met.I.ByteInput.joins _ c.loop-row.input _) before.1 c.in_ok-segment.ensures,
        ap (λ n. c.loop-row.bytes + n) c.from-bytes.ensures ∙ one_more_segment before.0 c.in_ok-segment.segment _ before.2,
      );
      bound = omega arith;
    }

pub returns-in_err-segment-clause-copied : goal.returns-in_err-segment-clause-copied
returns-in_err-segment-clause-copied g c =
    let before = c.loop-row.invariant.copied.1 in
    let within : length (flat_map segment_row before.read.stored) + 48 ≤ 48 * c.args.count = omega (arith, before.read.size) in
    let p = err_from_is_err_and c.from_residual.result c.from_residual.ensures.1 in
    rw (p.1, p.2) (copy_fails_later g.I.ByteInput.reads g.I.ByteInput.fails g.met.I.ByteInput.joins g.met.I.ByteInput.fails_later _ c.loop-row.input _ _ _ _ _
    before.read.taken c.in_err-segment.ensures within)
