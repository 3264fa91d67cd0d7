use Rattle.std.proofs.Common.{refl}
use Rattle.std.specs.FinMap.{values}
use Rattle.xet_shards.specs.Write.Layout.{plain_options_in}
use Rattle.xet_shards.proofs.Write.WithOptions.{shard_with_options}
use Rattle.shard_bytes.proofs.CutTables.{chunks_found}
use Rattle.shard_bytes.proofs.part_lookups.find_places.Goals as goal

pub returns-clause-chunks : goal.returns-clause-chunks
returns-clause-chunks c s shard info is cut =
    chunks_found (values s.files) (values s.xorbs) (plain_options_in is.is_bytes.version is.is_bytes.expiry) info.metadata shard c.args.table.now c.args.word (shard_with_options is) refl cut c.search_chunks.result c.args.places.now
    c.search_chunks.new.places c.search_chunks.ensures
