use Rattle.std.proofs.Common.{◌≡◌, List, All, map, take}
use Rattle.shard_concatenation.specs.Concatenation.{ShardPart, bytes_of_part, IsPartUnder, version_in}
use Rattle.shard_concatenation.specs.Steps.Gathering.{HasSizes, HasGathered}
use Rattle.shard_concatenation.proofs.gathering.gather.Given as goal

abbrev pub invariant-loop-shard : goal.invariant-loop-shard
invariant-loop-shard l = ((parts : List ShardPart) → All (IsPartUnder l.key) parts → map bytes_of_part parts ≡ map (λ x. x.now) l.shards
    → HasGathered l.files.items l.xorbs.items l.cursors.items l.totals (take l.shard-index parts))
    × HasSizes l.files.items l.xorbs.items l.totals
    × ((parts : List ShardPart) → All (IsPartUnder l.key) parts → map bytes_of_part parts ≡ map (λ x. x.now) l.shards
    → l.version ≡ version_in (take l.shard-index parts))
