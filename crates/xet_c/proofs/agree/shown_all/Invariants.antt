use Rattle.std.proofs.Common.{◌≡◌, map, take}
use Rattle.xet_c.specs.Agreeing.{c_disagreement}
use Rattle.xet_c.proofs.agree.shown_all.Given as goal

abbrev pub invariant-loop-disagreement : goal.invariant-loop-disagreement
invariant-loop-disagreement l = l.shown.items ≡ map c_disagreement (take l.disagreement-index l.all)
