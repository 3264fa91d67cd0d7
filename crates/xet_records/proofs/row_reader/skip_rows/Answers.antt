use Rattle.std.proofs.lemmas.Result.{MatchResult-weaker}
use Rattle.xet_records.proofs.Decoding.{rows_passed}
use Rattle.xet_records.proofs.row_reader.skip_rows.Goals as goal

pub returns : goal.returns
returns g c =
    rw (← c.from.ensures) (MatchResult-weaker c.skip.result c.skip.ensures
    (λ _ passes. rows_passed g.T.Row.row_bytes g.T.Row.Fits g.T.Row.row_at g.met.T.Row.spelled g.T.Row.as_read _ c.from.result passes) (λ _ fails. fails))
