use Rattle.std.proofs.Common.{map, IsTrue, arith, rules}
use Rattle.std.proofs.lemmas.List.{length-map}
use Rattle.xet_shards.specs.Write.Tables.{hash_in}
use Rattle.xet_shards.proofs.Read.SectionHashes.{adjacent_ascend}
use Rattle.shard_bytes.proofs.Checking.{one_more}
use Rattle.shard_bytes.proofs.check.first_out_of_order.Goals as goal

pub loop-index-preserved : goal.loop-index-preserved
loop-index-preserved g c =
    let up : IsTrue c.ascend.result = search rules in
    one_more (hash_in g.P.PlacedRecord.kind) c.args.records.now c.loop-index.index c.index-records-index.result c.index-records-index-in-loop-index.result (omega arith) (omega arith)
    c.index-records-index.is c.index-records-index-in-loop-index.is (c.ascend.ensures.0 up) c.loop-index.invariant

pub returns : goal.returns
returns g c =
    adjacent_ascend (map (hash_in g.P.PlacedRecord.kind) c.args.records.now)
    (λ k d below. c.loop-index.invariant k d (omega (arith, below, length-map c.args.records.now (hash_in g.P.PlacedRecord.kind))))
