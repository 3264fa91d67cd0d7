use Rattle.xet_records.specs.FileRecord.{file_records}
use Rattle.xet_records.proofs.Processing.{processes_reader}
use Rattle.xet_shards.proofs.streaming_shard.process_shard_file_info_section.Goals as goal

pub returns-clause-calls : goal.returns-clause-calls
returns-clause-calls g c = processes_reader file_records g.R.Read.remaining _ _ _ _ _ _ c.process_section.ensures.calls
