use Rattle.xet_shards.proofs.Export.KeyedExport.{export_unkeyed}
use Rattle.xet_shards.proofs.shard_format.ends.info.MDBShardInfo.export_as_keyed_shard.Goals as goal

pub returns : goal.returns
returns g c =
    export_unkeyed c.args.now c.args.valid_seconds c.args.self.now c.chunk_hashes_protected.ensures c.if-chunk_hashes_protected.false c.export_as_keyed_shard_streaming.ensures
