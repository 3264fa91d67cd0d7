use Rattle.std.proofs.Common.{refl}
use Rattle.std.specs.FinMap.{entries, values}
use Rattle.xet_shards.specs.Write.Layout.{plain_options_in}
use Rattle.xet_shards.proofs.Write.WithOptions.{shard_with_options}
use Rattle.xet_shards.proofs.Lookup.WrittenQueries.{query_with_options, query_costs_with_options}
use Rattle.xet_shards.proofs.ShardInMemory.Xorbs.{xorb_values}
use Rattle.xet_shards.proofs.shard_format.ends.info.MDBShardInfo.chunk_hash_dedup_query.Goals as goal

pub returns-clause-with_options : goal.returns-clause-with_options
returns-clause-with_options g c files xorbs options is with_table good =
    query_with_options (g.S.ShardSource.meaning c.args.source.now) is with_table good c.args.unkeyed_query_hashes.now _ c.query_by_table.result c.query_by_table.ensures.read

pub returns-clause-costs_with_options : goal.returns-clause-costs_with_options
returns-clause-costs_with_options g c files xorbs options is with_table =
    query_costs_with_options (g.S.ShardSource.meaning c.args.source.now) is with_table c.args.unkeyed_query_hashes.now _ c.query_by_table.result c.query_by_table.ensures.read

pub returns-clause-written : goal.returns-clause-written
returns-clause-written g c s is =
    returns-clause-with_options g c (values s.files) (values s.xorbs) (plain_options_in is.is_bytes.version is.is_bytes.expiry)
    (shard_with_options is) refl (xorb_values (entries s.xorbs) is.is_bytes.shard.xorbs)

pub returns-clause-costs : goal.returns-clause-costs
returns-clause-costs g c s is =
    returns-clause-costs_with_options g c (values s.files) (values s.xorbs) (plain_options_in is.is_bytes.version is.is_bytes.expiry)
    (shard_with_options is) refl
