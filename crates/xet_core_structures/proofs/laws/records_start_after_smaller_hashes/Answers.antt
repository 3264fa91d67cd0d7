use Rattle.xet_records.specs.FileRecord.{file_records}
use Rattle.xet_records.specs.XorbRecord.{xorb_records}
use Rattle.xet_shards.proofs.Write.TableOrder.{records_start}
use Rattle.xet_core_structures.proofs.laws.records_start_after_smaller_hashes.Goals as goal

pub returns-clause-files : goal.returns-clause-files
returns-clause-files c = λ s shard. records_start file_records s.files shard.files.keyed

pub returns-clause-xorbs : goal.returns-clause-xorbs
returns-clause-xorbs c = λ s shard. records_start xorb_records s.xorbs shard.xorbs.keyed
