use Rattle.xet_c.proofs.Outcomes.{run_shown}
use Rattle.xet_c.proofs.query.xet_query_at.Goals as goal

pub returns : goal.returns
returns c = run_shown _ _ _ _ _ _ c.run_at-found.result c.run_at-found.ensures c.show_run.ensures
