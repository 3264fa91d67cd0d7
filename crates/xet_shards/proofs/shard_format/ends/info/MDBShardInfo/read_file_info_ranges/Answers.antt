use Rattle.xet_shards.proofs.Read.FileRanges.{ranges_written}
use Rattle.xet_shards.proofs.shard_format.ends.info.MDBShardInfo.read_file_info_ranges.Goals as goal

pub returns-clause-written : goal.returns-clause-written
returns-clause-written g c =
    λ s is.
    ranges_written (g.S.ShardSource.meaning c.args.source.now) (g.S.ShardSource.meaning c.read_header_and_ranges.new.source) s is
    c.read_header_and_ranges.result c.read_header_and_ranges.ensures
