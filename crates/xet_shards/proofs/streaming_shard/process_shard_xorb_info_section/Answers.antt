use Rattle.xet_records.specs.XorbRecord.{xorb_records}
use Rattle.xet_records.proofs.Processing.{processes_reader}
use Rattle.xet_shards.proofs.streaming_shard.process_shard_xorb_info_section.Goals as goal

pub returns-clause-calls : goal.returns-clause-calls
returns-clause-calls g c = processes_reader xorb_records g.R.Read.remaining _ _ _ _ _ _ c.process_section.ensures.calls
