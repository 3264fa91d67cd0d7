use Rattle.std.proofs.Common.{rules}
use Rattle.xet_records.specs.Version.{number_of}
use Rattle.xet_shards.proofs.Ends.Versions.{number_fits, other_version}
use Rattle.xet_shards.proofs.shard_format.ends.header.MDBShardFileHeader.after_tag.Goals as goal

pub returns-in_default-clause-err : goal.returns-in_default-clause-err
returns-in_default-clause-err c = (
  c.new.ensures.bytes,
  λ version. other_version c.args.rest.now c.split_u64-version.result.1.now c.split_u64-version.result.0 (number_of version) (search rules) (number_fits version)
      c.split_u64-version.ensures.bytes (λ is. c.in_default.ensures (version, is)),
)
