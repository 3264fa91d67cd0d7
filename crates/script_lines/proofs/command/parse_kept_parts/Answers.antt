use Rattle.std.proofs.Common.{◌∷◌, [], refl}
use Rattle.std.proofs.lemmas.Result.{err_from_is_err_and}
use Rattle.script_lines.proofs.command.parse_kept_parts.Goals as goal

pub returns-in_err-verification-clause-none : goal.returns-in_err-verification-clause-none
returns-in_err-verification-clause-none c =
    let p = err_from_is_err_and c.from_residual.result c.from_residual.ensures.1 in
    rw p.1 (λ kept. c.in_err-verification.ensures.none (kept.verification ∷ []) refl)
