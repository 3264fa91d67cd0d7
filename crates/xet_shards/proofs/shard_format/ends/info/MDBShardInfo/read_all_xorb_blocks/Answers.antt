use Rattle.std.specs.FinMap.{values}
use Rattle.std.proofs.lemmas.List.{map-id}
use Rattle.xet_records.specs.XorbRecord.{xorb_records}
use Rattle.xet_records.proofs.RecordKinds.{xorb_laws}
use Rattle.xet_shards.specs.Read.XorbHeaders.{header_at}
use Rattle.xet_shards.proofs.Ends.EndsUnique.{info_of_bytes}
use Rattle.xet_shards.proofs.Read.Readback.{xorb_section_written}
use Rattle.xet_shards.proofs.Read.SectionWalks.{keeps_known}
use Rattle.xet_shards.proofs.shard_format.ends.info.MDBShardInfo.read_all_xorb_blocks.Goals as goal

pub returns-clause-written : goal.returns-clause-written
returns-clause-written g c = λ s is.
    keeps_known xorb_records xorb_laws header_at _ (g.S.ShardSource.meaning c.read_xorb_headers.new.source) (values s.xorbs) c.read_xorb_headers.result
    (xorb_section_written is.is_bytes (info_of_bytes is)) (map-id (values s.xorbs)) c.read_xorb_headers.ensures
