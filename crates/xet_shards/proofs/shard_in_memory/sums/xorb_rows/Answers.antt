use Rattle.std.proofs.Common.{rules, tests, length, ◌+◌, ◌∙◌, arith}
use Rattle.std.specs.Map.{values_of}
use Rattle.std.specs.declared.rc.Rc.{Rc}
use Rattle.std.proofs.lemmas.Iterator.{YieldsList-from_map}
use Rattle.std.proofs.lemmas.Iterator.Consumers.{YieldsList-at, YieldsList-from_rest, sum_by_from_yields_List, fits_by_from_yields_list}
use Rattle.xet_records.specs.declared.xorb_structs.MDBXorbInfo.{MDBXorbInfo}
use Rattle.xet_records.specs.XorbRecord.{xorb_row_count}
use Rattle.xet_shards.proofs.ShardInMemory.Xorbs.{sum_owned}
use Rattle.xet_shards.proofs.shard_in_memory.sums.xorb_rows.Goals as goal

pub sum-requires-clause-fits : goal.sum-requires-clause-fits
sum-requires-clause-fits c = fits_by_from_yields_list _ _ c.map.result _
    (YieldsList-from_map _ (λ (o : Rc MDBXorbInfo _). 1 + length o.value.chunks) (YieldsList-at c.map.ensures.source (YieldsList-from_rest (values_of c.args.xorbs.now.entries) c.values.ensures.rest)) c.map.ensures.closure (λ x r q k. search (rules, tests)))
    (omega (arith, c.requires.rows, sum_owned xorb_row_count c.args.xorbs.now.entries))

pub returns : goal.returns
returns c = sum_by_from_yields_List _ _ c.map.result _ c.sum.ensures.ran
    (YieldsList-from_map _ (λ (o : Rc MDBXorbInfo _). 1 + length o.value.chunks) (YieldsList-at c.map.ensures.source (YieldsList-from_rest (values_of c.args.xorbs.now.entries) c.values.ensures.rest)) c.map.ensures.closure (λ x r q k. search (rules, tests)))
    ∙ sum_owned xorb_row_count c.args.xorbs.now.entries
