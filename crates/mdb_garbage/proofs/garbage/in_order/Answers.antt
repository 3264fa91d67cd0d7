use Rattle.mdb_garbage.proofs.Ordered.{has_same}
use Rattle.mdb_garbage.proofs.garbage.in_order.Goals as goal

pub returns : goal.returns
returns c = record {
  kept = λ f has within. has_same _ f (c.sort_once.ensures.all f (c.keep_findings.ensures.kept f has within));
  each = λ f has. c.keep_findings.ensures.each f (c.sort_once.ensures.each f has);
  ascend = c.sort_once.ensures.ascend;
}
