use Rattle.std.proofs.Common.{take, map}
use Rattle.mdb_base.specs.Expiries.{shard_expiry, IsEarliest}
use Rattle.mdb_base.proofs.expiry.earliest_in.Given as goal

abbrev pub invariant-loop-info : goal.invariant-loop-info
invariant-loop-info l = IsEarliest (map shard_expiry (take l.info-index l.infos)) l.found
