use Rattle.std.proofs.Common.{take}
use Rattle.xet_core_structures.specs.TwoShards.Streams.{streams}
use Rattle.xet_core_structures.proofs.TwoShards.MixWriting.{AreMixed}
use Rattle.xet_core_structures.proofs.set_operations.two_shards.mix.mix_rows.Given as goal

abbrev pub invariant-loop-part : goal.invariant-loop-part
invariant-loop-part g l =
    let one = g.S.ShardSource.meaning in
    let two = g.T.ShardSource.meaning in
    let contents = g.W.Write.contents in
    AreMixed l.first l.second (take l.part-index l.part-items) (streams (one l.initial.r1) (two l.initial.r2) (contents l.initial.out)) (streams (one l.r1) (two l.r2) (contents l.out))
