use Rattle.xet_shards.proofs.Ends.EndsUnique.{info_of_bytes}
use Rattle.xet_shards.proofs.Write.WrittenTables.{xorb_table_read}
use Rattle.xet_shards.proofs.shard_format.ends.info.MDBShardInfo.read_full_xorb_lookup.Goals as goal

pub returns-clause-written : goal.returns-clause-written
returns-clause-written g c = λ s is.
    xorb_table_read s is.is_bytes.shard is.is_bytes.version is.is_bytes.expiry _ _ is.is_bytes.bytes_are c.args.self.now (info_of_bytes is) c.read_table.result c.read_table.ensures
