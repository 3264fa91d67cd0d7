use Rattle.std.proofs.Common.{◌≡◌}
use Rattle.std.specs.Io.KnownBytes.{Consumes}
use Rattle.xet_base.specs.Input.{ReaderFails}
use Rattle.xet_shards.specs.StreamingShard.MinimalShard.{eligible_hashes}
use Rattle.xet_shards.specs.StreamingShard.MinimalReading.{ReaderHeaderFails}
use Rattle.xet_shards.proofs.StreamingShard.MinimalReading.{made_after_header}
use Rattle.xet_shards.proofs.streaming_shard.minimal_shard.MDBMinimalShard.eligible_chunks_from_reader.Goals as goal

pub returns : goal.returns
returns g c =
    let header = c.in_ok-deserialize.ensures in
    made_after_header g.R.Read.remaining Consumes (λ before after n e. ReaderFails before n e) (λ hashes m. hashes.items ≡ eligible_hashes m.files m.xorbs) (λ before after e. ReaderHeaderFails before e)
    c.args.reader.now c.deserialize.new.reader c.read_eligible.new.input c.read_eligible.result
    (record { header = c.in_ok-deserialize.field-0; tag = header.tag.0; version = header.tag.1; taken = header.bytes }) (rw c.format_version-version.ensures at c.read_eligible.ensures)
