use Rattle.xet_core_structures.proofs.LawProofs.FileLookups.{tree_under, loaded_under, found_under}
use Rattle.xet_core_structures.proofs.TwoShards.Readable.{united_xorbs, left_xorbs}
use Rattle.xet_core_structures.proofs.Trees.TreeXorbs.{held_under, tree_xorbs}
use Rattle.xet_core_structures.proofs.laws.lookups_on_results.Goals as goal

pub returns-clause-trees : goal.returns-clause-trees
returns-clause-trees c = tree_under

pub returns-clause-loaded : goal.returns-clause-loaded
returns-clause-loaded c = λ key s info found old new is loads. loaded_under key s info old is new found loads

pub returns-clause-files : goal.returns-clause-files
returns-clause-files c = λ key s info hash old new found is looks. found_under key s info old is hash new found looks

pub returns-clause-union_xorbs : goal.returns-clause-union_xorbs
returns-clause-union_xorbs c = λ x y i j s. united_xorbs x i y j s

pub returns-clause-difference_xorbs : goal.returns-clause-difference_xorbs
returns-clause-difference_xorbs c = λ x y i j s. left_xorbs x i y j s

pub returns-clause-tree_xorbs : goal.returns-clause-tree_xorbs
returns-clause-tree_xorbs c = tree_xorbs

pub returns-clause-held : goal.returns-clause-held
returns-clause-held c = held_under
