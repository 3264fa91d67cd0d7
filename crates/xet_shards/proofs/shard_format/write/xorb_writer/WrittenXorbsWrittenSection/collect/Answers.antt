use Rattle.std.proofs.Common.{List, subst}
use Rattle.std.proofs.lemmas.Result.{on_ok_weaker}
use Rattle.xet_records.specs.declared.xorb_structs.XorbChunkSequenceEntry.{XorbChunkSequenceEntry}
use Rattle.xet_shards.specs.Steps.Collecting.{BeginsWithChunks}
use Rattle.xet_shards.specs.Steps.TablesSteps.{AddsChunkRows}
use Rattle.xet_shards.proofs.Write.Collecting.{chunks_first, xorb_at}
use Rattle.xet_shards.proofs.shard_format.write.xorb_writer.WrittenXorbsWrittenSection.collect.Goals as goal

pub returns-clause-collected : goal.returns-clause-collected
returns-clause-collected c =
    let p = c.args.placed.now in
    on_ok_weaker c.collect_rows_of.result
    (λ (adds : (chunks : List XorbChunkSequenceEntry) → BeginsWithChunks p.rows.now p.header.num_entries chunks → AddsChunkRows c.add.new.self.chunk_rows.items c.collect_rows_of.new.chunk_rows.items c.in_ok-first.first chunks) r there front have.
    let rows = subst (λ p. p) (λ i. AddsChunkRows (c.in_ok-first.ensures.chunk_rows i).items c.collect_rows_of.new.chunk_rows.items (c.in_ok-first.ensures.row i) r.chunks) (adds r.chunks (chunks_first p r there)) in
    let both = xorb_at p r there c.args.self.now _ c.in_ok-first.ensures.table rows c.in_ok-first.ensures.bytes c.in_ok-first.ensures.bytes_on_disk front have in
    (both, both))
    c.collect_rows_of.ensures.added
