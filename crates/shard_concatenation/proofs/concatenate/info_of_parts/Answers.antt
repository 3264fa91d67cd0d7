use Rattle.std.proofs.Common.{arith}
use Rattle.shard_concatenation.specs.Concatenation.{xorbs_in}
use Rattle.xet_shards.proofs.Write.XorbLayouts.{xorb_rows-chunks}
use Rattle.shard_concatenation.proofs.concatenate.info_of_parts.Goals as goal

pub returns-in_default-clause-succeeds : goal.returns-in_default-clause-succeeds
returns-in_default-clause-succeeds c = λ parts held.
    omega (arith, c.in_default.ensures, held.totals_are.xorbs_are, held.totals_are.xorb_rows, xorb_rows-chunks (xorbs_in parts))
