use Rattle.std.proofs.Common.{refl}
use Rattle.std.specs.Prelude.{⊤}
use Rattle.std.proofs.lemmas.Result.{err_from_is_err_and}
use Rattle.xet_core_structures.specs.Steps.MergeJoin.PairFails.{refused}
use Rattle.xet_core_structures.proofs.TwoShards.Pairs.{fails_so}
use Rattle.xet_core_structures.proofs.set_operations.two_shards.record_operation.refuse.Goals as goal

pub returns-in_err-skip_both : goal.returns-in_err-skip_both
returns-in_err-skip_both g c =
    let p = err_from_is_err_and c.from_residual.result c.from_residual.ensures.1 in
    rw (p.1, p.2) (fails_so g.R.SectionRecord.kind c.args.first c.args.second _ _ (λ one other. ⊥) (λ one other. ⊤) (λ one other q r never. absurd never) _ c.in_err-skip_both.ensures)

pub returns : goal.returns
returns g c =
    let past = c.in_ok-skip_both.ensures in
    refused _ refl tt past.0.0 past.1.0 past.0.1 past.1.1 tt
