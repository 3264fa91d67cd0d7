use Rattle.std.proofs.Common.{rules, tests, ◌∙◌, arith}
use Rattle.std.specs.Map.{values_of}
use Rattle.std.specs.declared.rc.Rc.{Rc}
use Rattle.std.proofs.lemmas.Iterator.{YieldsList-from_map}
use Rattle.std.proofs.lemmas.Iterator.Consumers.{YieldsList-at, YieldsList-from_rest, sum_by_from_yields_List, fits_by_from_yields_list}
use Rattle.xet_records.specs.declared.xorb_structs.MDBXorbInfo.{MDBXorbInfo}
use Rattle.xet_shards.proofs.ShardInMemory.Xorbs.{sum_owned, sum_fits}
use Rattle.xet_shards.proofs.shard_in_memory.sums.stored_bytes_on_disk.Goals as goal

pub sum-requires-clause-fits : goal.sum-requires-clause-fits
sum-requires-clause-fits c = fits_by_from_yields_list _ _ c.map.result _
    (YieldsList-from_map _ (λ (o : Rc MDBXorbInfo _). o.value.metadata.num_bytes_on_disk) (YieldsList-at c.map.ensures.source (YieldsList-from_rest (values_of c.args.xorbs.now.entries) c.values.ensures.rest)) c.map.ensures.closure (λ x r q k. search (rules, tests)))
    (sum_fits (λ r. r.metadata.num_bytes_on_disk) (λ r is. omega (arith, is.widths.metadata.num_bytes_on_disk)) _ c.requires.xorbs c.requires.rows)

pub returns : goal.returns
returns c = sum_by_from_yields_List _ _ c.map.result _ c.sum.ensures.ran
    (YieldsList-from_map _ (λ (o : Rc MDBXorbInfo _). o.value.metadata.num_bytes_on_disk) (YieldsList-at c.map.ensures.source (YieldsList-from_rest (values_of c.args.xorbs.now.entries) c.values.ensures.rest)) c.map.ensures.closure (λ x r q k. search (rules, tests)))
    ∙ sum_owned (λ (r : MDBXorbInfo). r.metadata.num_bytes_on_disk) c.args.xorbs.now.entries
