use Rattle.std.proofs.Common.{◌↔◌, IsTrue, arith, rules}
use Rattle.shard_bytes.specs.Minimal.{HasXorb}
use Rattle.shard_bytes.proofs.Keeping.{next_kept, next_not_kept, not_so, but_so, both_so}
use Rattle.shard_bytes.proofs.Searching.{known_has}
use Rattle.shard_bytes.proofs.minimal.hashes_lacked.Goals as goal
use Rattle.shard_bytes.proofs.minimal.hashes_lacked.Goals.{then-not-contains+in_ok-push, else-not-contains}

pub loop-hash-preserved : goal.loop-hash-preserved
loop-hash-preserved c =
    let m = c.args.shard.now in
    let known = known_has m c.in_ok-present.present.items c.of-known.result.items.items c.in_ok-present.ensures c.of-known.ensures _ in
    let decides = both_so c.contains.ensures known in
    elim c.if-not-contains.branch [
      | then-not-contains+in_ok-push w ↦
          next_kept (λ hash lacks. IsTrue lacks ↔ (¬ HasXorb m hash)) c.args.hashes.now c.loop-hash.lacking.items c.if-not-contains.lacking.items c.loop-hash.hash-index _ (omega arith) c.loop-hash.invariant
          (not_so c.contains.result _ decides (search rules)) (search rules)
      | else-not-contains w ↦
          next_not_kept (λ hash lacks. IsTrue lacks ↔ (¬ HasXorb m hash)) c.args.hashes.now c.loop-hash.lacking.items c.if-not-contains.lacking.items c.loop-hash.hash-index _ (omega arith) c.loop-hash.invariant
          (but_so c.contains.result _ decides (search rules)) (search rules)
    ]
