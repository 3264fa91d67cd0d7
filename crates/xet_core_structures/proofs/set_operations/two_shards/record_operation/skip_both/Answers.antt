use Rattle.std.proofs.lemmas.Result.{err_from_is_err_and}
use Rattle.xet_core_structures.proofs.TwoShards.Pairs.{first_not_past, second_not_past}
use Rattle.xet_core_structures.proofs.TwoShards.OneSection.{passed_serves}
use Rattle.xet_core_structures.proofs.set_operations.two_shards.record_operation.skip_both.Goals as goal

pub returns-in_err-pass : goal.returns-in_err-pass
returns-in_err-pass g c =
    let p = err_from_is_err_and c.from_residual.result c.from_residual.ensures.1 in
    rw (p.1, p.2) (first_not_past g.R.SectionRecord.kind c.args.first c.args.second _ _ _ _ _ c.in_err-pass.ensures)

pub returns-in_err-pass-2 : goal.returns-in_err-pass-2
returns-in_err-pass-2 g c =
    let p = err_from_is_err_and c.from_residual-in_err-pass-2.result c.from_residual-in_err-pass-2.ensures.1 in
    rw (p.1, p.2) (second_not_past g.R.SectionRecord.kind c.args.first c.args.second _ _ _ _ _ _ (passed_serves g.R.SectionRecord.kind c.args.first _ _ _ c.in_ok-pass.ensures.1) c.in_err-pass-2.ensures)
