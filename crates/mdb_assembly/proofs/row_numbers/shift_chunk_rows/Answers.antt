use Rattle.std.proofs.Common.{◌∙◌, map}
use Rattle.std.proofs.lemmas.Result.{MatchResult-weaker}
use Rattle.mdb_assembly.proofs.RowNumbers.{chunk_as_row, chunks_as_rows, chunks_later, chunks_are_rows, chunks_fit}
use Rattle.mdb_assembly.proofs.row_numbers.shift_chunk_rows.Goals as goal

pub returns-clause-raised : goal.returns-clause-raised
returns-clause-raised c = λ table are fit.
    MatchResult-weaker c.shift_row_numbers.result
    (c.shift_row_numbers.ensures.raised (map chunk_as_row table) (are ∙ chunks_as_rows table) (chunks_are_rows table fit))
    (λ _ shifted. shifted ∙ chunks_later c.args.first table)
    (λ _ refused. (refused.0, λ within. refused.1 (chunks_fit c.args.first table within)))
