use Rattle.xet_shards.proofs.Ends.Widths.{fits_written}
use Rattle.xet_shards.proofs.Ends.EndsUnique.{loads_ends, loads_written}
use Rattle.xet_shards.proofs.shard_format.ends.info.MDBShardInfo.load_from_reader.Goals as goal

pub returns-clause-ends : goal.returns-clause-ends
returns-clause-ends g c = λ info ends.
    loads_ends (g.S.ShardSource.meaning c.args.source.now) (g.S.ShardSource.meaning c.read_ends.new.source) info c.read_ends.result ends c.read_ends.ensures

pub returns-clause-written : goal.returns-clause-written
returns-clause-written g c =
    λ version s expiry shard fits are.
    loads_written (g.S.ShardSource.meaning c.args.source.now) (g.S.ShardSource.meaning c.read_ends.new.source) version s expiry c.read_ends.result are (fits_written s expiry shard fits) c.read_ends.ensures
