use Rattle.std.proofs.Common.{◌∙◌, map}
use Rattle.std.proofs.lemmas.Result.{MatchResult-weaker}
use Rattle.mdb_assembly.proofs.RowNumbers.{start_as_row, starts_as_rows, starts_later, starts_are_rows, starts_fit}
use Rattle.mdb_assembly.proofs.row_numbers.shift_starts.Goals as goal

pub returns-clause-raised : goal.returns-clause-raised
returns-clause-raised c = λ starts are fit.
    MatchResult-weaker c.shift_row_numbers.result
    (c.shift_row_numbers.ensures.raised (map start_as_row starts) (are ∙ starts_as_rows starts) (starts_are_rows starts fit))
    (λ _ shifted. shifted ∙ starts_later c.args.first starts)
    (λ _ refused. (refused.0, λ within. refused.1 (starts_fit c.args.first starts within)))
