use Rattle.xet_base.specs.KeyedHash.{mix_diagonals}
use Rattle.xet_base.proofs.keyed_hash.four.mix_diagonals.Goals as goal

pub returns : goal.returns
unfolding mix_diagonals
returns c j h =
    rw (
      ← c.mix.ensures j h,
      ← c.mix-2.ensures j h,
      ← c.mix-3.ensures j h,
      ← c.mix-4.ensures j h,
    )
