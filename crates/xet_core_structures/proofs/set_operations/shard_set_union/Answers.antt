use Rattle.std.proofs.lemmas.Result.{err_from_is_err_and}
use Rattle.xet_core_structures.specs.TwoShards.ByteResults.{UnionRefusal}
use Rattle.xet_core_structures.specs.Records.ByteUnion.{IsByteUnion}
use Rattle.xet_core_structures.proofs.TwoShards.SetOperationSteps.{operates, operation_failed}
use Rattle.xet_core_structures.proofs.set_operations.shard_set_union.Goals as goal

pub returns-in_err-operate-clause-outcome : goal.returns-in_err-operate-clause-outcome
returns-in_err-operate-clause-outcome g c =
    let p = err_from_is_err_and c.from_residual.result c.from_residual.ensures.1 in
    rw p.1 (operation_failed IsByteUnion UnionRefusal _ _ _ _ c.in_err-operate.field-0.0 _ p.2 c.in_err-operate.ensures.outcome)

pub returns-clause-outcome : goal.returns-clause-outcome
returns-clause-outcome g c = operates IsByteUnion UnionRefusal _ _ _ _ c.in_ok-operate.field-0 c.in_ok-operate.ensures.outcome
