use Rattle.std.specs.FinMap.{values}
use Rattle.xet_core_structures.specs.SectionReading.{files_of}
use Rattle.xet_core_structures.specs.Version.{version_of}
use Rattle.xet_core_structures.specs.XorbRecord.{xorb_records}
use Rattle.xet_records.proofs.RecordKinds.{xorb_laws}
use Rattle.xet_shards.proofs.Write.Sections.{files_laws}
use Rattle.xet_shards.proofs.Write.WithOptions.{no_file, no_xorb}
use Rattle.shard_bytes.proofs.CutTables.{starts_found}
use Rattle.shard_bytes.proofs.WrittenParts.{looked_files, looked_xorbs}
use Rattle.shard_bytes.proofs.part_lookups.find_rows.Goals as goal

pub returns-clause-files : goal.returns-clause-files
returns-clause-files c s shard info is cut =
    let f = info.metadata in
    starts_found (files_of info) (files_laws (version_of info.header.version)) no_file (values s.files) f.file_info_offset f.file_lookup_offset f.file_lookup_num_entry shard (looked_files is)
    c.args.table.now c.args.word cut c.search_starts.result c.args.rows.now c.search_starts.new.rows c.search_starts.ensures

pub returns-clause-xorbs : goal.returns-clause-xorbs
returns-clause-xorbs c s shard info is cut =
    let f = info.metadata in
    starts_found xorb_records xorb_laws no_xorb (values s.xorbs) f.xorb_info_offset f.xorb_lookup_offset f.xorb_lookup_num_entry shard (looked_xorbs is)
    c.args.table.now c.args.word cut c.search_starts.result c.args.rows.now c.search_starts.new.rows c.search_starts.ensures
