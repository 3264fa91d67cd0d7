use Rattle.std.proofs.Common.{None, ap}
use Rattle.xet_shards.specs.Write.Layout.{layout}
use Rattle.xet_shards.proofs.Write.SameBytes.{same_bytes, same_expiry, same_layout}
use Rattle.xet_core_structures.proofs.laws.equal_bytes_mean_equal_shards.Goals as goal

pub returns-clause-contents : goal.returns-clause-contents
returns-clause-contents c = λ s t s_shard t_shard. (same_bytes s t None None s_shard t_shard, ap (λ s. layout s None))

pub returns-clause-expiries : goal.returns-clause-expiries
returns-clause-expiries c = λ s t e f s_shard t_shard e_fits f_fits. (
  λ same. (same_bytes s t e f s_shard t_shard same, same_expiry s t e f s_shard t_shard same e_fits f_fits),
  λ same. same_layout s t e f same.0 same.1,
)
