use Rattle.std.proofs.Common.{inr}
use Rattle.std.proofs.lemmas.Result.{err_from_is_err_and}
use Rattle.xet_c.proofs.chunk_rows.rows.Goals as goal

pub returns-in_err-found : goal.returns-in_err-found
returns-in_err-found c =
    let p = err_from_is_err_and c.from_residual.result c.from_residual.ensures.1 in
    rw (p.1, p.2) (inr (c.in_err-found.ensures.any_bytes, c.in_err-found.ensures.written))
