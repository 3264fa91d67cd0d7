use Rattle.std.proofs.Common.{arith}
use Rattle.std.proofs.lemmas.Grind.{common_steps}
use Rattle.xet_base.proofs.Reading.{taken_more, taken_still}
use Rattle.xet_base.proofs.serialization_utils.read_bytes.Goals as goal
use Rattle.xet_base.proofs.serialization_utils.read_bytes.Goals.{in-Ok, in-Err}

pub loop-turn-preserved : goal.loop-turn-preserved
loop-turn-preserved g c =
    let filled = c.loop-turn.filled in
    let slice = c.loop-turn.slice in
    let turn = c.loop-turn.invariant in
    elim c.match-read.branch [
      | in-Ok w ↦ let n = w.in-Ok.n in record {
        within = grind (arith, common_steps);
        taken = rw w.filled-is (taken_more _ (g.R.Read.remaining c.loop-turn.reader) _ filled _ n slice c.read.new.buf turn.within (grind (arith, common_steps, w.in-Ok.ensures.bound)) turn.taken w.in-Ok.ensures.bytes.0);
      }
      | in-Err w ↦ record {
        within = grind (arith, common_steps);
        taken = rw w.filled-is (taken_still _ (g.R.Read.remaining c.loop-turn.reader) _ filled _ slice c.read.new.buf turn.within turn.taken w.in-Err.ensures.bytes);
      }
    ]
