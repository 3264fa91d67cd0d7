use Rattle.xet_shards.proofs.Export.KeyedExport.{export_in_time}
use Rattle.xet_shards.proofs.shard_format.ends.info.MDBShardInfo.export_as_keyed_shard_streaming.Goals as goal

pub returns : goal.returns
returns g c = export_in_time c.args.now c.args.valid_seconds c.in-Some.ensures c.export.ensures
