use Rattle.std.proofs.Common.{rules}
use Rattle.shard_bytes.proofs.Expiring.{expiry_of_shard, not_refused}
use Rattle.shard_bytes.proofs.expiry.with_expiry.Goals as goal

pub returns-in-Ok-clause-of_shard : goal.returns-in-Ok-clause-of_shard
returns-in-Ok-clause-of_shard c = λ s is. expiry_of_shard s c.args.expiry c.args.bytes.items c.serialize.new.writer.items is (search rules)

pub returns-in_err-footer-clause-of_shard : goal.returns-in_err-footer-clause-of_shard
returns-in_err-footer-clause-of_shard c = λ s is. absurd (not_refused s c.args.bytes.items _ _ c.as_slice.ensures.value is c.in_err-footer.ensures)
