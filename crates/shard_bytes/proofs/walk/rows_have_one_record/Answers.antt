use Rattle.xet_core_structures.specs.SectionReading.{files_of}
use Rattle.xet_core_structures.specs.Version.{version_of}
use Rattle.xet_core_structures.specs.XorbRecord.{xorb_records}
use Rattle.xet_records.proofs.RecordKinds.{xorb_laws}
use Rattle.xet_shards.proofs.Write.Sections.{files_laws}
use Rattle.shard_bytes.proofs.Walks.{one_with_ends, rows_with_ends, only_memory_with_ends}
use Rattle.shard_bytes.proofs.walk.rows_have_one_record.Goals as goal

pub returns-clause-one_file : goal.returns-clause-one_file
returns-clause-one_file c = λ bytes row x y a b. one_with_ends bytes a.0 a.1 files_of (files_laws (version_of a.0.header.version)) (λ i. i.metadata.file_info_offset) row x y a b

pub returns-clause-one_xorb : goal.returns-clause-one_xorb
returns-clause-one_xorb c = λ bytes row x y a b. one_with_ends bytes a.0 a.1 (λ i. xorb_records) xorb_laws (λ i. i.metadata.xorb_info_offset) row x y a b

pub returns-clause-file_refused : goal.returns-clause-file_refused
returns-clause-file_refused c = λ bytes row found e small at refused.
    only_memory_with_ends bytes at.0 at.1 files_of (files_laws (version_of at.0.header.version)) (λ i. i.metadata.file_info_offset) row found e small at refused

pub returns-clause-xorb_refused : goal.returns-clause-xorb_refused
returns-clause-xorb_refused c = λ bytes row found e small at refused.
    only_memory_with_ends bytes at.0 at.1 (λ i. xorb_records) xorb_laws (λ i. i.metadata.xorb_info_offset) row found e small at refused

pub returns-clause-file_rows : goal.returns-clause-file_rows
returns-clause-file_rows c = λ bytes row r at. rows_with_ends bytes at.0 at.1 files_of (files_laws (version_of at.0.header.version)) (λ i. i.metadata.file_info_offset) row r at

pub returns-clause-xorb_rows : goal.returns-clause-xorb_rows
returns-clause-xorb_rows c = λ bytes row r at. rows_with_ends bytes at.0 at.1 (λ i. xorb_records) xorb_laws (λ i. i.metadata.xorb_info_offset) row r at
