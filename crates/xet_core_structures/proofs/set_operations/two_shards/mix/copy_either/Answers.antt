use Rattle.std.proofs.Common.{refl}
use Rattle.std.proofs.lemmas.Result.{err_from_is_err_and}
use Rattle.xet_core_structures.specs.Steps.MixedFiles.EitherFails.{second_fails}
use Rattle.xet_core_structures.proofs.TwoShards.Mixing.{first_copied, second_copied, first_not_copied, second_not_copied}
use Rattle.xet_core_structures.proofs.TwoShards.OneSection.{taken_serves}
use Rattle.xet_core_structures.proofs.set_operations.two_shards.mix.copy_either.Goals as goal

pub returns-in_err-copy_rows : goal.returns-in_err-copy_rows
returns-in_err-copy_rows g c =
    let p = err_from_is_err_and c.from_residual.result c.from_residual.ensures.1 in
    rw (p.1, p.2) (second_not_copied g.T.ShardSource.meaning c.args.r2.now c.copy_rows.new.input _ _ _ _ (rw c.from.ensures at c.in_err-copy_rows.ensures))

pub returns-then-count_1-eq0 : goal.returns-then-count_1-eq0
returns-then-count_1-eq0 g c =
    second_copied g.R.Row.row_bytes g.R.Row.Fits g.R.Row.as_read _ _ _ _ _ _ _ c.in_ok-copy_rows.ensures.0 c.if-count_1-eq0.true
    (rw c.from.ensures at c.in_ok-copy_rows.ensures.1)

pub returns-in_err-copy_rows-2 : goal.returns-in_err-copy_rows-2
returns-in_err-copy_rows-2 g c =
    let p = err_from_is_err_and c.from_residual-in_err-copy_rows-2.result c.from_residual-in_err-copy_rows-2.ensures.1 in
    rw (p.1, p.2) (first_not_copied g.S.ShardSource.meaning c.args.r1.now c.copy_rows-2.new.input _ _ _ _ (rw c.from-2.ensures at c.in_err-copy_rows-2.ensures))

pub returns-in_err-skip_rows : goal.returns-in_err-skip_rows
returns-in_err-skip_rows g c =
    let p = err_from_is_err_and c.from_residual-in_err-skip_rows.result c.from_residual-in_err-skip_rows.ensures.1 in
    rw (p.1, p.2) (second_fails _ refl c.in_err-skip_rows.ensures (taken_serves _ _ _ c.in_ok-copy_rows-2.ensures.1.read.taken))

pub returns : goal.returns
returns g c =
    first_copied g.R.Row.row_bytes g.R.Row.Fits g.R.Row.as_read _ _ _ _ _ _ _ _ c.in_ok-copy_rows-2.ensures.0 c.in_ok-skip_rows.ensures.0 c.if-count_1-eq0.false
    (rw c.from-2.ensures at c.in_ok-copy_rows-2.ensures.1) c.in_ok-skip_rows.ensures.1
