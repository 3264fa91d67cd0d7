use Rattle.std.proofs.Common.{◌∙◌, rules, tests}
use Rattle.std.specs.List.{zip}
use Rattle.std.proofs.lemmas.Iterator.{YieldsList-from_slice, YieldsList-from_zip}
use Rattle.std.proofs.lemmas.Iterator.Consumers.{count_from_yields_List}
use Rattle.std.proofs.lemmas.Iterator.Search.{YieldsList-from_take_while}
use Rattle.std.proofs.lemmas.List.Folds.{length-prefix_len}
use Rattle.xet_shards.proofs.ShardInMemory.ChunkQueries.{is_hit, prefix_is_run}
use Rattle.xet_shards.proofs.shard_in_memory.chunk_query.run_length.Goals as goal

pub returns-clause-count : goal.returns-clause-count
returns-clause-count c =
    let qs = c.args.query_hashes.now in
    let cs = c.args.chunks.now in
    count_from_yields_List c.take_while.result _ c.count.ensures.ran
    (YieldsList-from_take_while _ is_hit (YieldsList-from_zip (YieldsList-from_slice qs cc) (YieldsList-from_slice cs cc)) c.take_while.ensures.closure c.take_while.ensures.done
    (λ x b q k. search (rules, tests)))
    ∙ length-prefix_len is_hit (zip qs cs) ∙ prefix_is_run qs cs
