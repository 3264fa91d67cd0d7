use Rattle.xet_records.specs.FileRecord.{file_records_in}
use Rattle.xet_shards.proofs.Write.Sections.{files_laws}
use Rattle.xet_shards.proofs.Read.SectionReading.{record_fails}
use Rattle.xet_shards.proofs.Export.KeyedExport.{result_as}
use Rattle.xet_shards.proofs.shard_format.export.keyed_export.MDBFileInfoViewExportedRecord.read.Goals as goal

pub returns : goal.returns
returns g c = result_as c.read_view.result _ _ _ _ (λ next read. read) (record_fails (file_records_in c.args.version) (files_laws c.args.version) g.S.ShardSource.meaning _ _ _) c.read_view.ensures
