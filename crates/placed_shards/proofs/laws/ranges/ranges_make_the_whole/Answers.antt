use Rattle.xet_records.specs.FileRecord.{file_records}
use Rattle.xet_records.specs.XorbRecord.{xorb_records}
use Rattle.placed_shards.proofs.Equations.Ranges.{consecutive_parts, whole_of_consecutive}
use Rattle.placed_shards.proofs.laws.ranges.ranges_make_the_whole.Goals as goal

pub returns-clause-files : goal.returns-clause-files
returns-clause-files c = λ cuts d are ascend. whole_of_consecutive file_records cuts d.files are ascend.files

pub returns-clause-xorbs : goal.returns-clause-xorbs
returns-clause-xorbs c = λ cuts d are ascend. whole_of_consecutive xorb_records cuts d.xorbs are ascend.xorbs

pub returns-clause-files_between : goal.returns-clause-files_between
returns-clause-files_between c = λ from cuts to d are ascend. consecutive_parts file_records from cuts to d.files are ascend.files

pub returns-clause-xorbs_between : goal.returns-clause-xorbs_between
returns-clause-xorbs_between c = λ from cuts to d are ascend. consecutive_parts xorb_records from cuts to d.xorbs are ascend.xorbs
