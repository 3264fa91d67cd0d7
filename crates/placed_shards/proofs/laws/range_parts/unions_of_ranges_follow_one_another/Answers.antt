use Rattle.xet_records.specs.FileRecord.{file_records}
use Rattle.xet_records.specs.XorbRecord.{xorb_records}
use Rattle.xet_core_structures.specs.Records.ByteUnion.{IsEitherFile, IsEitherXorb}
use Rattle.placed_shards.proofs.RangeUnions.{combines_append}
use Rattle.placed_shards.proofs.laws.range_parts.unions_of_ranges_follow_one_another.Goals as goal

pub returns-clause-files : goal.returns-clause-files
returns-clause-files c = combines_append file_records IsEitherFile

pub returns-clause-xorbs : goal.returns-clause-xorbs
returns-clause-xorbs c = combines_append xorb_records IsEitherXorb
