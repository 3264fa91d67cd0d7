use Rattle.placed_shards.proofs.Equations.Written.{opened, only_opened}
use Rattle.placed_shards.proofs.laws.written.written_is_opened.Goals as goal

pub returns-clause-opened : goal.returns-clause-opened
returns-clause-opened c = opened

pub returns-clause-only : goal.returns-clause-only
returns-clause-only c = only_opened
