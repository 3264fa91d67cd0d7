use Rattle.std.proofs.Common.{refl}
use Rattle.xet_core_structures.specs.Records.ByteUnion.{IsEitherFile, IsEitherXorb}
use Rattle.placed_shards.specs.Agreement.{IsAgreedFile, IsAgreedXorb}
use Rattle.placed_shards.specs.Sets.{IsLeft}
use Rattle.placed_shards.proofs.Equations.Ranges.{unites_within}
use Rattle.placed_shards.proofs.laws.ranges.within_of_union.Goals as goal

pub returns-clause-union : goal.returns-clause-union
returns-clause-union c = unites_within IsEitherFile IsEitherXorb refl refl

pub returns-clause-agreed : goal.returns-clause-agreed
returns-clause-agreed c = unites_within IsAgreedFile IsAgreedXorb (tt, refl) (tt, refl)

pub returns-clause-difference : goal.returns-clause-difference
returns-clause-difference c = unites_within IsLeft IsLeft refl refl
