use Rattle.std.proofs.Common.{◌≡◌, [], ◌∷◌, ◌++◌, take, get_or, sym, ap, ◌∙◌, subst, append-nil, append_assoc, arith}
use Rattle.xet_records.specs.XorbRow.{FitsChunk, chunk_row}
use Rattle.xet_records.proofs.RowsWithin.{chunk_laws}
use Rattle.xet_shards.specs.Steps.TablesSteps.{AddsChunkRows}
use Rattle.xet_shards.specs.Write.Tables.{chunk_table_rows_from}
use Rattle.xet_shards.proofs.Write.ChunkTableRows.{chunk_table_row, no_chunk, chunk_table_rows_from-more}
use Rattle.xet_shards.proofs.Write.Collecting.{row_or, all_rows}
use Rattle.xet_shards.proofs.shard_format.write.xorb_writer.collect_rows_of.Goals as goal

pub loop-index-init : goal.loop-index-init
loop-index-init c = λ chunks begins. sym (append-nil c.args.chunk_rows.now.items)

pub loop-index-preserved : goal.loop-index-preserved
loop-index-preserved c = λ chunks begins.
    let first = c.args.first in
    let i = c.loop-index.index in
    let old = c.args.chunk_rows.now.items in
    let done = chunk_table_rows_from first (take i chunks) in
    let same = row_or chunk_row FitsChunk chunk_laws c.args.rows.now c.args.count chunks begins i c.row-chunk.result no_chunk c.loop-index-test.true c.row-chunk.ensures in
    c.in_ok-push.ensures.items
    ∙ (λ k. c.loop-index.invariant chunks begins k ++ chunk_table_row first i (sym same k) ∷ [])
    ∙ append_assoc old done (chunk_table_row first i (get_or chunks i no_chunk) ∷ [])
    ∙ ap (λ rows. old ++ rows) (sym (chunk_table_rows_from-more first i chunks no_chunk (omega (arith, c.loop-index-test.true, begins.count_is))))

pub returns-clause-added : goal.returns-clause-added
returns-clause-added c = λ chunks begins.
    let all : take c.loop-index.index chunks ≡ chunks = ap (λ n. take n chunks) (omega (arith, c.loop-index-test.false)) ∙ all_rows chunk_row FitsChunk chunk_laws c.args.rows.now c.args.count chunks begins in
    subst (AddsChunkRows c.args.chunk_rows.now.items c.loop-index.chunk_rows.items c.args.first) all (c.loop-index.invariant chunks begins)
