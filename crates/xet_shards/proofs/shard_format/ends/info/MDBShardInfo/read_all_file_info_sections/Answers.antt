use Rattle.std.specs.FinMap.{entries, values}
use Rattle.xet_records.specs.Version.{version_of}
use Rattle.xet_shards.specs.Read.SectionReading.{files_of}
use Rattle.xet_shards.proofs.Write.Sections.{files_laws}
use Rattle.xet_shards.proofs.ShardInMemory.Files.{well_formed_values}
use Rattle.xet_shards.proofs.Ends.EndsUnique.{info_of_bytes}
use Rattle.xet_shards.proofs.Read.Readback.{whole_read, section_written, all_as_read}
use Rattle.xet_shards.proofs.shard_format.ends.info.MDBShardInfo.read_all_file_info_sections.Goals as goal

pub returns-clause-written : goal.returns-clause-written
returns-clause-written g c = λ s is.
    whole_read (files_of c.args.self.now) (files_laws (version_of c.args.self.now.header.version)) _ (g.S.ShardSource.meaning c.read_section_at.new.source) (values s.files)
    (section_written is.is_bytes (info_of_bytes is)) c.read_section_at.result
    (all_as_read (values s.files) (well_formed_values (entries s.files) is.is_bytes.shard.files)) (rw c.format_version-version.ensures at c.read_section_at.ensures)
