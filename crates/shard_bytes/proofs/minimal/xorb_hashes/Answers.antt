use Rattle.std.proofs.Common.{rules}
use Rattle.shard_bytes.proofs.Searching.{next_hash, none_within}
use Rattle.shard_bytes.proofs.minimal.xorb_hashes.Goals as goal
use Rattle.shard_bytes.proofs.minimal.xorb_hashes.Goals.{in-Some+in_ok-push, in_default}

pub loop-index-preserved : goal.loop-index-preserved
loop-index-preserved c =
    elim c.match-xorb.branch [
      | in-Some+in_ok-push w ↦
          next_hash c.args.shard.now.xorbs c.loop-index.index w.in-Some.xorb.now c.loop-index.hashes.items c.match-xorb.hashes.items (search rules) c.loop-index.invariant (search rules)
      | in_default w ↦ absurd (none_within c.args.shard.now.xorbs c.loop-index.index (search rules) (search rules))
    ]
