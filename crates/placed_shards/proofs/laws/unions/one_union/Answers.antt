use Rattle.xet_core_structures.specs.Records.ByteUnion.{IsEitherFile, IsEitherXorb}
use Rattle.xet_core_structures.proofs.TwoShards.Results.{files_unique, xorbs_unique}
use Rattle.placed_shards.specs.Sets.{IsLeft}
use Rattle.placed_shards.proofs.Equations.Unions.{one_left, unites_once}
use Rattle.placed_shards.proofs.laws.unions.one_union.Goals as goal

pub returns-clause-union : goal.returns-clause-union
returns-clause-union c = unites_once IsEitherFile IsEitherXorb files_unique xorbs_unique

pub returns-clause-difference : goal.returns-clause-difference
returns-clause-difference c = unites_once IsLeft IsLeft one_left one_left
