use Rattle.placed_shards.proofs.Equations.Written.{written_again, same_bytes}
use Rattle.placed_shards.proofs.laws.written.opened_is_written.Goals as goal

pub returns-clause-again : goal.returns-clause-again
returns-clause-again c = written_again

pub returns-clause-same_bytes : goal.returns-clause-same_bytes
returns-clause-same_bytes c = same_bytes
