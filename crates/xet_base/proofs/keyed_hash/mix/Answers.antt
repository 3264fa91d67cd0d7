use Rattle.std.proofs.Common.{refl}
use Rattle.xet_base.specs.KeyedHash.{mix}
use Rattle.xet_base.proofs.keyed_hash.mix.Goals as goal

pub returns : goal.returns
unfolding mix
returns c j h =
    rw (
      c.xor_rotate-b2.ensures j h,
      c.add-c2.ensures j h,
      c.xor_rotate-d2.ensures j h,
      c.add-a2.ensures j h,
      c.add-ab1.ensures j h,
      c.xor_rotate-b1.ensures j h,
      c.add-c1.ensures j h,
      c.xor_rotate-d1.ensures j h,
      c.add-a1.ensures j h,
      c.add-ab.ensures j h,
    ) refl
