use Rattle.std.proofs.Common.{◌+◌, ◌++◌, sym, ap, ◌∙◌, subst}
use Rattle.xet_shards.specs.Write.Tables.{chunk_table_rows_from}
use Rattle.xet_shards.specs.Write.Written.{AddsRecord}
use Rattle.xet_shards.proofs.Write.Written.{xorb_written}
use Rattle.xet_shards.proofs.shard_format.write.written.WrittenXorbs.write_for.Goals as goal

pub returns-clause-written : goal.returns-clause-written
returns-clause-written g c = λ before have.
    let xorb = c.args.xorb.now in
    let added = c.in_ok-row.ensures in
    xorb_written c.args.chunk_table c.args.self.now _ before xorb have
    (subst (λ n. AddsRecord c.args.self.now.table c.add.new.self.table xorb.metadata.xorb_hash.word0 (1 + n)) (sym c.requires.whole) added.table)
    (λ wanted. c.in_ok-collect_chunk_rows.ensures.ok wanted
    ∙ (λ i. ap (λ rows. rows.items) added.chunk_rows i ++ chunk_table_rows_from (added.row i) (c.as_slice.ensures i)))
    added.bytes added.bytes_on_disk
