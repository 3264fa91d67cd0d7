use Rattle.xet_records.specs.XorbRecord.{xorb_records}
use Rattle.xet_records.proofs.RecordKinds.{xorb_laws, laws_in}
use Rattle.xet_records.specs.RecordKind.{in_version}
use Rattle.xet_shards.proofs.Read.SectionReading.{record_fails}
use Rattle.xet_shards.proofs.Export.KeyedExport.{result_as, next_xorb}
use Rattle.xet_shards.proofs.shard_format.export.keyed_export.MDBXorbInfoExportedRecord.read.Goals as goal

pub returns : goal.returns
returns g c = result_as c.read_record.result _ _ _ _ (next_xorb c.args.version _ _ _) (record_fails (in_version xorb_records c.args.version) (laws_in xorb_records xorb_laws c.args.version) g.S.ShardSource.meaning _ _ _) c.read_record.ensures
