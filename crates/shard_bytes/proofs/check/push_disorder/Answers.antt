use Rattle.std.proofs.Common.{◌≡◌, [], ◌∷◌, ◌++◌, map, rules}
use Rattle.std.specs.List.Sorted.{IsStrictlySortedBy}
use Rattle.xet_core_structures.specs.Hash.{hash_cmp}
use Rattle.xet_shards.specs.Write.Tables.{hash_in}
use Rattle.shard_bytes.specs.declared.check.Finding.TheVariants.{OutOfOrder}
use Rattle.shard_bytes.specs.Checking.{IsOutOfOrder}
use Rattle.shard_bytes.proofs.Checking.{in_order, out_of_order}
use Rattle.shard_bytes.proofs.check.push_disorder.Goals as goal
use Rattle.shard_bytes.proofs.check.push_disorder.Goals.{in-Some+in_ok-push, in_default}

pub returns-clause-added : goal.returns-clause-added
returns-clause-added g c =
    let hashes = map (hash_in g.P.PlacedRecord.kind) c.args.records.now in
    let old = c.args.findings.now.items in
    let new = c.match-first_out_of_order.findings.items in
    elim c.match-first_out_of_order.branch [
      | in-Some+in_ok-push w ↦
          let out : IsOutOfOrder w.in-Some.index hashes = search rules in
          let is : new ≡ old ++ OutOfOrder c.args.section w.in-Some.index ∷ [] = search rules in
          out_of_order c.args.section hashes w.in-Some.index old new out is
      | in_default w ↦
          let sorted : IsStrictlySortedBy hash_cmp hashes = search rules in
          let is : new ≡ old = search rules in
          in_order c.args.section hashes old new sorted is
    ]
