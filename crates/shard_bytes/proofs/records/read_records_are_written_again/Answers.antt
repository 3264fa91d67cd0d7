use Rattle.shard_bytes.proofs.Recording.{shard_again, can_add_shard}
use Rattle.shard_bytes.proofs.records.read_records_are_written_again.Goals as goal

pub returns-clause-admitted : goal.returns-clause-admitted
returns-clause-admitted c = can_add_shard

pub returns-clause-again : goal.returns-clause-again
returns-clause-again c = shard_again
