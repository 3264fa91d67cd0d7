use Rattle.xet_records.specs.FileRecord.{file_records_in}
use Rattle.xet_records.specs.XorbRecord.{xorb_records}
use Rattle.xet_records.proofs.RecordKinds.{xorb_laws}
use Rattle.xet_shards.proofs.Write.Sections.{files_laws}
use Rattle.xet_core_structures.proofs.Records.ShardContents.{held_once, held_whole, held_well}
use Rattle.xet_core_structures.proofs.Records.SectionWays.{one_way, one_cause}
use Rattle.xet_core_structures.proofs.laws.sections_are_read_in_one_way.Goals as goal

pub returns-clause-files : goal.returns-clause-files
returns-clause-files c = λ version. one_way (file_records_in version) (files_laws version)

pub returns-clause-xorbs : goal.returns-clause-xorbs
returns-clause-xorbs c = one_way xorb_records xorb_laws

pub returns-clause-holds : goal.returns-clause-holds
returns-clause-holds c = λ bytes info s t one other. held_once bytes info t other s one

pub returns-clause-whole : goal.returns-clause-whole
returns-clause-whole c = λ bytes info s holds. (held_whole bytes info s holds, held_well bytes info s holds)

pub returns-clause-first : goal.returns-clause-first
returns-clause-first c = one_cause
