use Rattle.shard_bytes.proofs.InParts.{xorb_at_place}
use Rattle.shard_bytes.proofs.WrittenParts.{xorb_read}
use Rattle.shard_bytes.proofs.part_lookups.xorb_in.Goals as goal

pub returns-clause-in_shard : goal.returns-clause-in_shard
returns-clause-in_shard c shard info row ends there = xorb_at_place shard c.args.bytes.now info row c.read_xorb.result ends there c.read_xorb.ensures

pub returns-clause-written : goal.returns-clause-written
returns-clause-written c s shard info row xorb is starts there enough = xorb_read is row xorb c.args.bytes.now c.read_xorb.result starts there enough c.read_xorb.ensures
