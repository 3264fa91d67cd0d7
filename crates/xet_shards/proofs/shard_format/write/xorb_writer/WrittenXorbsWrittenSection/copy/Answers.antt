use Rattle.std.proofs.Common.{ap, subst}
use Rattle.xet_shards.specs.Steps.TablesSteps.{AddsChunkRows}
use Rattle.xet_shards.proofs.Write.Copying.{xorb_record_copied}
use Rattle.xet_shards.proofs.shard_format.write.xorb_writer.WrittenXorbsWrittenSection.copy.Goals as goal

pub returns : goal.returns
returns g c =
    let added = c.in-Ok.ensures in
    let copied = c.in_ok-copy_chunks.ensures in
    xorb_record_copied _ _ (g.W.Write.contents c.write_copied_row.new.writer) _ c.args.header copied.0 c.args.self.now _ c.in_ok-write_copied_row.ensures.appended copied.1 added.table
    (subst (λ p. p) (λ i. AddsChunkRows (ap (λ s. s.items) added.chunk_rows i) c.copy_chunks.new.chunk_rows.items (added.row i) copied.0) copied.2) added.bytes added.bytes_on_disk
