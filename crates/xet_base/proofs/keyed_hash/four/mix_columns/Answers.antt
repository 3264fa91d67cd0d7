use Rattle.xet_base.specs.KeyedHash.{mix_columns}
use Rattle.xet_base.proofs.keyed_hash.four.mix_columns.Goals as goal

pub returns : goal.returns
unfolding mix_columns
returns c j h =
    rw (
      ← c.mix.ensures j h,
      ← c.mix-2.ensures j h,
      ← c.mix-3.ensures j h,
      ← c.mix-4.ensures j h,
    )
