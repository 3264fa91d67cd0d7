use Rattle.std.proofs.Common.{[], ◌∷◌, ◌+◌, ◌*◌, ◌≤◌, ◌++◌, length, flat_map, arith}
use Rattle.std.proofs.lemmas.Result.{err_from_is_err_and}
use Rattle.xet_records.specs.XorbRow.{chunk_row}
use Rattle.xet_records.proofs.Copying.{none_copied, more_copied, copy_fails_later, output_fails}
use Rattle.xet_shards.proofs.Write.Copying.{no_chunk_rows, more_chunk_rows}
use Rattle.xet_shards.proofs.shard_format.write.xorb_writer.copy_chunks.Goals as goal

pub loop-index-init : goal.loop-index-init
loop-index-init g c = ([], none_copied _ _ _ _ _ (g.met.I.ByteInput.reads_nothing _), no_chunk_rows _ c.args.row)

pub loop-index-preserved : goal.loop-index-preserved
loop-index-preserved g c =
    let before = c.loop-index.invariant in (
      before.0 ++ c.in_ok-chunk.chunk ∷ [],
      more_copied _ _ _ _ _ _ _ (g.W.Write.contents c.loop-index.writer) _ _ _ _ (g.met.I.ByteInput.joins _ c.loop-index.input _) before.1 c.in_ok-chunk.ensures,
      more_chunk_rows _ _ _ _ _ _ before.0 c.in_ok-chunk.chunk before.1.read before.2 c.in_ok-add_chunk_row.ensures.added,
    )

pub returns-in_err-chunk : goal.returns-in_err-chunk
returns-in_err-chunk g c =
    let before = c.loop-index.invariant.1 in
    let within : length (flat_map chunk_row before.read.stored) + 48 ≤ 48 * c.args.count = omega (arith, before.read.size) in
    let p = err_from_is_err_and c.from_residual.result c.from_residual.ensures.1 in
    rw (p.1, p.2) (copy_fails_later g.I.ByteInput.reads g.I.ByteInput.fails g.met.I.ByteInput.joins g.met.I.ByteInput.fails_later _ c.loop-index.input _ _ _ _ _
    before.read.taken c.in_err-chunk.ensures within)

pub returns-in_err-add_chunk_row : goal.returns-in_err-add_chunk_row
returns-in_err-add_chunk_row g c =
    let before = c.loop-index.invariant.1 in
    let p = err_from_is_err_and c.from_residual-in_err-add_chunk_row.result c.from_residual-in_err-add_chunk_row.ensures.1 in
    rw (p.1, p.2) (output_fails g.I.ByteInput.reads g.I.ByteInput.fails _ _ _ _ _
    (g.met.I.ByteInput.joins _ c.loop-index.input _ _ _ before.read.taken c.in_ok-chunk.ensures.read.taken) c.in_err-add_chunk_row.ensures.causes)
