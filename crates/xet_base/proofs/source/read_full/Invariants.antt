use Rattle.std.proofs.Common.{◌≡◌, ◌+◌, ◌-◌, ◌<◌, ◌≤◌, length, take}
use Rattle.xet_base.specs.Source.{after_read, next_bytes}
use Rattle.xet_base.proofs.source.read_full.Given as goal

abbrev pub invariant-loop-filled : goal.invariant-loop-filled
invariant-loop-filled g l = record {
  within : l.filled ≤ length l.slice;
  there : 0 < l.filled → (g.S.ShardSource.meaning l.fn.source).at + l.filled ≤ length (g.S.ShardSource.meaning l.fn.source).bytes;
  source : g.S.ShardSource.meaning l.source ≡ after_read (g.S.ShardSource.meaning l.fn.source) l.filled;
  front : take l.filled l.slice ≡ next_bytes (g.S.ShardSource.meaning l.fn.source) l.filled;
}

abbrev pub decreases-loop-filled : goal.decreases-loop-filled
decreases-loop-filled g l = length l.initial.slice - l.filled
