use Rattle.xet_core_structures.specs.Records.ByteUnion.{IsEitherFile, IsEitherXorb}
use Rattle.placed_shards.specs.Sets.{IsLeft}
use Rattle.placed_shards.proofs.Equations.Keys.{unites_keyed, either_keyed, left_keyed}
use Rattle.placed_shards.proofs.laws.unions.keyed_of_union.Goals as goal

pub returns-clause-union : goal.returns-clause-union
returns-clause-union c = λ key. unites_keyed key IsEitherFile IsEitherXorb (either_keyed key)

pub returns-clause-difference : goal.returns-clause-difference
returns-clause-difference c = λ key. unites_keyed key IsLeft IsLeft (left_keyed key)
