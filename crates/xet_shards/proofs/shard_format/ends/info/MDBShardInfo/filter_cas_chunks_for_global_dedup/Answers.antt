use Rattle.std.proofs.Common.{◌≡◌}
use Rattle.xet_base.specs.Source.{ReadsBytes, ReadFails}
use Rattle.xet_shards.specs.Ends.Ends.{HasUnsupportedHeader, EndsInHeader, PartFails}
use Rattle.xet_shards.specs.StreamingShard.MinimalShard.{eligible_hashes}
use Rattle.xet_shards.proofs.StreamingShard.MinimalReading.{made_after_header}
use Rattle.xet_shards.proofs.shard_format.ends.info.MDBShardInfo.filter_cas_chunks_for_global_dedup.Goals as goal

pub returns : goal.returns
returns g c =
    let header = c.in_ok-read_header.ensures in
    made_after_header g.S.ShardSource.meaning ReadsBytes ReadFails (λ hashes m. hashes.items ≡ eligible_hashes m.files m.xorbs) (PartFails HasUnsupportedHeader EndsInHeader 48) c.args.source.now
    c.read_header.new.source c.read_eligible.new.input c.read_eligible.result
    (record { header = c.in_ok-read_header.field-0; tag = header.known.0; version = header.known.1; taken = header.read }) (rw c.format_version-version.ensures at c.read_eligible.ensures)
