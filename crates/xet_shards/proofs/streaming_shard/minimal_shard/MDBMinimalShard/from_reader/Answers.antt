use Rattle.std.specs.Io.KnownBytes.{Consumes}
use Rattle.xet_base.specs.Input.{ReaderFails}
use Rattle.xet_shards.specs.StreamingShard.MinimalReading.{ReaderHeaderFails}
use Rattle.xet_shards.proofs.StreamingShard.MinimalReading.{after_header}
use Rattle.xet_shards.proofs.streaming_shard.minimal_shard.MDBMinimalShard.from_reader.Goals as goal

pub returns : goal.returns
returns g c =
    let header = c.in_ok-header.ensures in
    after_header g.R.Read.remaining Consumes (λ before after n e. ReaderFails before n e) (λ before after e. ReaderHeaderFails before e) c.args.include_files c.args.include_xorb
    c.args.reader.now c.deserialize.new.reader c.read_sections.new.input c.read_sections.result
    (record { header = c.in_ok-header.header; tag = header.tag.0; version = header.tag.1; taken = header.bytes }) (rw c.format_version-version.ensures at c.read_sections.ensures)
