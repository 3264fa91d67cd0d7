use Rattle.std.proofs.Common.{arith, rules, ◌≡◌, ◌++◌, length, length-append}
use Rattle.std.proofs.KnownBytes.{Appends-trans}
use Rattle.mdb_assembly.proofs.assembly.copy.Goals as goal

-- one block more
pub loop-left-preserved : goal.loop-left-preserved
loop-left-preserved g c =
    let before = c.loop-left.invariant.0 in
    let block = c.read_exact.new.buf in
    let len : length block ≡ c.min-next.result = search rules in (
      before ++ block,
      omega (arith, length-append before block, len, c.loop-left.invariant.1, c.min-next.ensures),
      Appends-trans (g.W.Write.contents c.args.output.now) (g.W.Write.contents c.loop-left.output)
          (g.W.Write.contents c.write_all.new.self) before block c.loop-left.invariant.2 c.in_ok-write_all.ensures.bytes,
    )
