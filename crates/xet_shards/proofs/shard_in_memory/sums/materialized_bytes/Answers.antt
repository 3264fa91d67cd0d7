use Rattle.std.proofs.Common.{rules, tests, refl, sym, subst, length, arith}
use Rattle.std.specs.BTreeMap.{values}
use Rattle.std.proofs.lemmas.Iterator.{YieldsList-from_map}
use Rattle.std.proofs.lemmas.Iterator.Consumers.{YieldsList-at, YieldsList-turn, YieldsList-from_rest, sum_by_from_yields_List, fits_by_from_yields_list}
use Rattle.xet_records.specs.declared.file_structs.MDBFileInfo.{MDBFileInfo}
use Rattle.xet_records.specs.FileRecord.{size_of_file, IsWellFormed}
use Rattle.xet_shards.proofs.ShardInMemory.Files.{files_bound, well_formed_values, widths_of_values}
use Rattle.xet_shards.proofs.shard_in_memory.sums.materialized_bytes.Goals as goal

pub sum-requires-clause-can : goal.sum-requires-clause-can
sum-requires-clause-can c = (
  tt,
  record {
    at = λ xs t q x u yields folds step _ _ _ _ _.
        let turn = YieldsList-turn (YieldsList-at c.map.ensures.source (YieldsList-from_rest (values c.args.files.now) c.values.ensures.rest)) xs t yields _ u x refl step in
        (subst IsWellFormed (sym turn.1) (well_formed_values _ c.requires.files (length xs) x.now turn.0)).whole;
  },
)

pub sum-requires-clause-fits : goal.sum-requires-clause-fits
sum-requires-clause-fits c = fits_by_from_yields_list _ _ c.map.result _
    (YieldsList-from_map _ (λ (r : MDBFileInfo). size_of_file r) (YieldsList-at c.map.ensures.source (YieldsList-from_rest (values c.args.files.now) c.values.ensures.rest)) c.map.ensures.closure (λ x r q k. search (rules, tests)))
    (omega (arith, c.requires.rows, files_bound _ (widths_of_values _ c.requires.files)))

pub returns : goal.returns
returns c = sum_by_from_yields_List _ _ c.map.result _ c.sum.ensures.ran
    (YieldsList-from_map _ (λ (r : MDBFileInfo). size_of_file r) (YieldsList-at c.map.ensures.source (YieldsList-from_rest (values c.args.files.now) c.values.ensures.rest)) c.map.ensures.closure (λ x r q k. search (rules, tests)))
