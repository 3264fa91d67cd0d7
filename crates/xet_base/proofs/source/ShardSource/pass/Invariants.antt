use Rattle.std.proofs.Common.{◌≡◌, ◌+◌, ◌-◌, ◌<◌, ◌≤◌, length}
use Rattle.xet_base.specs.Bytes.{AreBytes}
use Rattle.xet_base.specs.Source.{after_read, next_bytes}
use Rattle.xet_base.proofs.source.ShardSource.pass.Given as goal

abbrev pub invariant-loop-passed : goal.invariant-loop-passed
invariant-loop-passed g l = record {
  within : l.passed ≤ l.count;
  there : 0 < l.passed → (g.Self.ShardSource.meaning l.initial.self).at + l.passed ≤ length (g.Self.ShardSource.meaning l.initial.self).bytes;
  source : g.Self.ShardSource.meaning l.self ≡ after_read (g.Self.ShardSource.meaning l.initial.self) l.passed;
  bytes : AreBytes (next_bytes (g.Self.ShardSource.meaning l.initial.self) l.passed);
}

abbrev pub decreases-loop-passed : goal.decreases-loop-passed
decreases-loop-passed g l = l.count - l.passed
