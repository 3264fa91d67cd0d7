use Rattle.std.proofs.Common.{length, rules, subst}
use Rattle.xet_base.specs.Search.Table.{table_at}
use Rattle.xet_shards.specs.Lookup.Lookup.{Searches}
use Rattle.xet_shards.proofs.Lookup.Lookups.{finds_weaker}
use Rattle.xet_shards.proofs.shard_format.lookup.table_search.search_table.Goals as goal

pub returns : goal.returns
returns g c =
    let old = g.S.ShardSource.meaning c.args.source.now in
    let new = g.S.ShardSource.meaning c.search_on_sorted_u64s.new.source in
    let result = c.search_on_sorted_u64s.result in
    let found = c.search_on_sorted_u64s.ensures in
    subst (λ width. Searches (table_at old c.args.start c.args.rows width) c.args.word g.V.TableValue.Spells (length c.args.dest.now) c.args.dest.now c.search_on_sorted_u64s.new.results old new result) c.WIDTH.ensures (record {
      found = finds_weaker _ c.args.word _ g.V.TableValue.Spells c.args.dest.now _ result (λ bytes v given. search rules) found.found;
      count = found.count;
      no_failure = found.no_failure;
      fits = found.fits;
      refused = found.refused;
      kept = found.kept;
      bounds = found.bounds;
      even = found.even;
    })
