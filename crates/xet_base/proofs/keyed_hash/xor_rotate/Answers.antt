use Rattle.xet_base.proofs.Lanes.{shifts_rotate}
use Rattle.xet_base.proofs.keyed_hash.xor_rotate.Goals as goal

pub returns : goal.returns
returns c = shifts_rotate c.args.k c.requires.low c.requires.high c.args.a c.fits-a.0 c.args.b c.fits-b.0
