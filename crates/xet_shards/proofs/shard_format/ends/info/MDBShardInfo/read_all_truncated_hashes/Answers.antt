use Rattle.std.proofs.Common.{sym, ap, ◌∙◌}
use Rattle.std.specs.FinMap.{values}
use Rattle.xet_shards.specs.declared.shard_format.ends.info.MDBShardInfo.{MDBShardInfo}
use Rattle.xet_shards.proofs.Ends.EndsUnique.{info_of_bytes}
use Rattle.xet_shards.proofs.Read.Readback.{xorb_section_written}
use Rattle.xet_shards.proofs.Read.TruncatedHashes.{no_hashes_read}
use Rattle.xet_shards.proofs.Write.WrittenTables.{chunk_table_read}
use Rattle.xet_shards.proofs.Write.XorbLayouts.{length-chunk_table}
use Rattle.xet_shards.proofs.shard_format.ends.info.MDBShardInfo.read_all_truncated_hashes.Goals as goal

pub returns-then-rows-eq0-clause-written : goal.returns-then-rows-eq0-clause-written
returns-then-rows-eq0-clause-written g c = λ s is.
    no_hashes_read (g.S.ShardSource.meaning c.args.source.now) (g.S.ShardSource.meaning c.read_section_hashes.new.source) _ _ (values s.xorbs)
    (xorb_section_written is.is_bytes (info_of_bytes is)) c.read_section_hashes.result
    (sym (length-chunk_table (values s.xorbs)) ∙ ap (λ (i : MDBShardInfo). i.metadata.chunk_lookup_num_entry) (sym (info_of_bytes is)) ∙ c.if-rows-eq0.true) c.read_section_hashes.ensures

pub returns-clause-written : goal.returns-clause-written
returns-clause-written g c = λ s is.
    chunk_table_read s is.is_bytes.shard is.is_bytes.version is.is_bytes.expiry _ _ is.is_bytes.bytes_are c.args.self.now (info_of_bytes is) c.read_chunk_table.result c.read_chunk_table.ensures
