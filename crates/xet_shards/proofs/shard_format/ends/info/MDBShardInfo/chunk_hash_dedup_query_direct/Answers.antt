use Rattle.std.specs.FinMap.{values}
use Rattle.xet_shards.specs.Write.Layout.{plain_options_in}
use Rattle.xet_shards.proofs.Write.WithOptions.{shard_with_options}
use Rattle.xet_shards.proofs.Lookup.WrittenRuns.{direct_with_options, direct_at_bookend, xorb_of_shard}
use Rattle.xet_shards.proofs.shard_format.ends.info.MDBShardInfo.chunk_hash_dedup_query_direct.Goals as goal

pub returns-clause-with_options : goal.returns-clause-with_options
returns-clause-with_options g c files xorbs options xorb is at good =
    let old = g.S.ShardSource.meaning c.args.source.now in
    direct_with_options old is at c.args.unkeyed_query_hashes.now c.args.chunk_index good.bytes _ c.run_at_location.result c.run_at_location.ensures

pub returns-clause-bookend : goal.returns-clause-bookend
returns-clause-bookend g c files xorbs options is at =
    let old = g.S.ShardSource.meaning c.args.source.now in
    direct_at_bookend old is at c.args.unkeyed_query_hashes.now c.args.chunk_index _ c.run_at_location.result c.run_at_location.ensures

pub returns-clause-written : goal.returns-clause-written
returns-clause-written g c s xorb is at =
    returns-clause-with_options g c (values s.files) (values s.xorbs) (plain_options_in is.is_bytes.version is.is_bytes.expiry) xorb
    (shard_with_options is) at (xorb_of_shard s is.is_bytes.shard c.args.xorb_row xorb at)
