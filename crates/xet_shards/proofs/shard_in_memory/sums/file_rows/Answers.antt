use Rattle.std.proofs.Common.{rules, tests, ◌+◌, ◌∙◌, arith}
use Rattle.std.specs.BTreeMap.{values}
use Rattle.std.proofs.lemmas.Iterator.{YieldsList-from_map}
use Rattle.std.proofs.lemmas.Iterator.Consumers.{YieldsList-at, YieldsList-from_rest, sum_by_from_yields_List, fits_by_from_yields_list}
use Rattle.xet_records.specs.declared.file_structs.MDBFileInfo.{MDBFileInfo}
use Rattle.xet_records.specs.FileRecord.{rows_after}
use Rattle.xet_shards.proofs.ShardInMemory.Files.{header_rows, well_formed_values}
use Rattle.xet_shards.proofs.shard_in_memory.sums.file_rows.Goals as goal

pub sum-requires-clause-fits : goal.sum-requires-clause-fits
sum-requires-clause-fits c = fits_by_from_yields_list _ _ c.map.result _
    (YieldsList-from_map _ (λ (r : MDBFileInfo). 1 + rows_after r.metadata) (YieldsList-at c.map.ensures.source (YieldsList-from_rest (values c.args.files.now) c.values.ensures.rest)) c.map.ensures.closure (λ x r q k. search (rules, tests)))
    (omega (arith, c.requires.rows, header_rows _ (well_formed_values _ c.requires.files)))

pub returns : goal.returns
returns c = sum_by_from_yields_List _ _ c.map.result _ c.sum.ensures.ran
    (YieldsList-from_map _ (λ (r : MDBFileInfo). 1 + rows_after r.metadata) (YieldsList-at c.map.ensures.source (YieldsList-from_rest (values c.args.files.now) c.values.ensures.rest)) c.map.ensures.closure (λ x r q k. search (rules, tests)))
    ∙ header_rows _ (well_formed_values _ c.requires.files)
