use Rattle.std.specs.FinMap.{values}
use Rattle.std.proofs.lemmas.List.{map-id}
use Rattle.xet_records.specs.XorbRecord.{xorb_records}
use Rattle.xet_records.proofs.RecordKinds.{xorb_laws}
use Rattle.xet_shards.proofs.Ends.EndsUnique.{info_of_bytes}
use Rattle.xet_shards.proofs.Read.Readback.{whole_read, xorb_section_written}
use Rattle.xet_shards.proofs.shard_format.ends.info.MDBShardInfo.read_all_xorb_blocks_full.Goals as goal

pub returns-clause-written : goal.returns-clause-written
returns-clause-written g c = λ s is.
    whole_read xorb_records xorb_laws _ (g.S.ShardSource.meaning c.read_section_at.new.source) (values s.xorbs)
    (xorb_section_written is.is_bytes (info_of_bytes is)) c.read_section_at.result (map-id (values s.xorbs)) c.read_section_at.ensures
