use Rattle.std.proofs.Common.{[], ◌∷◌, ◌++◌, take, get_or, refl, sym, ap, ◌∙◌, append-nil, append_assoc, arith}
use Rattle.xet_shards.specs.Write.Tables.{chunk_table_rows_from}
use Rattle.xet_shards.proofs.Write.ChunkTableRows.{chunk_table_row, no_chunk, chunk_table_rows_from-more}
use Rattle.xet_shards.proofs.shard_format.write.xorb_writer.push_chunk_rows.Goals as goal

pub loop-chunk-init : goal.loop-chunk-init
loop-chunk-init c = record { index = refl; rows = sym (append-nil c.args.chunk_rows.now.items) }

pub loop-chunk-preserved : goal.loop-chunk-preserved
loop-chunk-preserved c =
    let row = c.args.row in
    let items = c.args.chunks.now in
    let old = c.args.chunk_rows.now.items in
    let at = c.loop-chunk.chunk-index in
    let before = c.loop-chunk.invariant in
    let chunk = get_or items at no_chunk in
    let done = chunk_table_rows_from row (take at items) in
    record {
      index = omega (arith, before.index);
      rows = c.in_ok-push.ensures.items
          ∙ (λ i. before.rows i ++ chunk_table_row row (before.index i) chunk ∷ [])
          ∙ append_assoc old done (chunk_table_row row at chunk ∷ [])
          ∙ ap (λ rows. old ++ rows) (sym (chunk_table_rows_from-more row at items no_chunk c.loop-chunk-test.true));
    }
