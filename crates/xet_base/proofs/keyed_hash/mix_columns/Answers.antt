use Rattle.std.proofs.Common.{arith}
use Rattle.xet_base.specs.KeyedHash.{mix_columns}
use Rattle.xet_base.proofs.keyed_hash.mix_columns.Goals as goal

pub returns : goal.returns
unfolding mix_columns
returns c =
    rw (
      ← c.mix.ensures 0 (omega arith),
      ← c.mix.ensures 1 (omega arith),
      ← c.mix.ensures 2 (omega arith),
      ← c.mix.ensures 3 (omega arith),
    )
