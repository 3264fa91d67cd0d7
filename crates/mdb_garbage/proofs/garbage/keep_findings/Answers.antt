use Rattle.std.proofs.Common.{rules}
use Rattle.mdb_garbage.proofs.Filtered.{retains_range}
use Rattle.mdb_garbage.proofs.garbage.keep_findings.Goals as goal

pub returns : goal.returns
returns c = retains_range _ c.args.range (λ f. f.xorb) _ (λ x b f' k. search rules) _ _ c.retain.ensures.filtered
