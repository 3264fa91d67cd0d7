use Rattle.std.proofs.Common.{arith}
use Rattle.xet_base.specs.KeyedHash.{mix_diagonals}
use Rattle.xet_base.proofs.keyed_hash.mix_diagonals.Goals as goal

pub returns : goal.returns
unfolding mix_diagonals
returns c =
    rw (
      c.turned_back-b_row.ensures,
      c.turned_twice-c_row.ensures,
      c.rotate_lanes-d_row.ensures,
      ← (rw (c.rotate_lanes-b_diagonal.ensures, c.turned_twice-c_diagonal.ensures, c.turned_back-d_diagonal.ensures) at (c.mix.ensures 0 (omega arith))),
      ← (rw (c.rotate_lanes-b_diagonal.ensures, c.turned_twice-c_diagonal.ensures, c.turned_back-d_diagonal.ensures) at (c.mix.ensures 1 (omega arith))),
      ← (rw (c.rotate_lanes-b_diagonal.ensures, c.turned_twice-c_diagonal.ensures, c.turned_back-d_diagonal.ensures) at (c.mix.ensures 2 (omega arith))),
      ← (rw (c.rotate_lanes-b_diagonal.ensures, c.turned_twice-c_diagonal.ensures, c.turned_back-d_diagonal.ensures) at (c.mix.ensures 3 (omega arith))),
    )
