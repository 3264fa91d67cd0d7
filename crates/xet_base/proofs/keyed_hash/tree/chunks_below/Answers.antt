use Rattle.std.proofs.Common.{arith}
use Rattle.xet_base.proofs.Blake3.{fits_53}
use Rattle.xet_base.proofs.keyed_hash.tree.chunks_below.Goals as goal

pub returns-clause-is : goal.returns-clause-is
returns-clause-is c = omega (arith, fits_53 c.args.level c.requires)

pub returns-clause-fits : goal.returns-clause-fits
returns-clause-fits c = omega (arith, fits_53 c.args.level c.requires)
