use Rattle.xet_core_structures.specs.SectionReading.{files_of}
use Rattle.xet_core_structures.specs.Version.{version_of}
use Rattle.xet_core_structures.specs.XorbRecord.{xorb_records}
use Rattle.xet_records.proofs.RecordKinds.{xorb_laws}
use Rattle.xet_shards.proofs.Write.Sections.{files_laws}
use Rattle.shard_bytes.proofs.Walks.{has_values, walked_with_ends}
use Rattle.shard_bytes.proofs.walk.walks_meet_all_records.Goals as goal

pub returns-clause-files : goal.returns-clause-files
returns-clause-files c = λ bytes info found ends. walked_with_ends bytes info ends files_of (files_laws (version_of info.header.version)) (λ i. i.metadata.file_info_offset) found

pub returns-clause-xorbs : goal.returns-clause-xorbs
returns-clause-xorbs c = λ bytes info found ends. walked_with_ends bytes info ends (λ i. xorb_records) xorb_laws (λ i. i.metadata.xorb_info_offset) found

pub returns-clause-files_of_shard : goal.returns-clause-files_of_shard
returns-clause-files_of_shard c = λ s bytes found has.
    let info = has.info in
    let walks = walked_with_ends bytes info has.ends files_of (files_laws (version_of info.header.version)) (λ i. i.metadata.file_info_offset) found in
    let are = has_values (files_of info) (files_laws (version_of info.header.version)) bytes info.metadata.file_info_offset s.files has.holds.files found in
    (λ w. are.0 (walks.0 w), λ same. walks.1 (are.1 same))

pub returns-clause-xorbs_of_shard : goal.returns-clause-xorbs_of_shard
returns-clause-xorbs_of_shard c = λ s bytes found has.
    let info = has.info in
    let walks = walked_with_ends bytes info has.ends (λ i. xorb_records) xorb_laws (λ i. i.metadata.xorb_info_offset) found in
    let are = has_values xorb_records xorb_laws bytes info.metadata.xorb_info_offset s.xorbs has.holds.xorbs found in
    (λ w. are.0 (walks.0 w), λ same. walks.1 (are.1 same))
