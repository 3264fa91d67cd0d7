use Rattle.xet_core_structures.proofs.Records.ByteUnions.{form_held, written_held}
use Rattle.xet_core_structures.proofs.Trees.MergeTrees.{keyed_tree, tree_refused}
use Rattle.xet_core_structures.proofs.Trees.SameTrees.{same_trees}
use Rattle.xet_core_structures.proofs.Trees.TreesOfExports.{any_export_held}
use Rattle.xet_core_structures.proofs.laws.trees_of_held_shards.Goals as goal

pub returns-clause-written : goal.returns-clause-written
returns-clause-written c = written_held

pub returns-clause-any_options : goal.returns-clause-any_options
returns-clause-any_options c = form_held

pub returns-clause-exports : goal.returns-clause-exports
returns-clause-exports c = any_export_held

pub returns-clause-bytes : goal.returns-clause-bytes
returns-clause-bytes c = λ inputs plan key shards join out merge writes. (keyed_tree inputs key plan shards join out merge writes).0

pub returns-clause-again : goal.returns-clause-again
returns-clause-again c = λ inputs plan key shards join out merge writes. (keyed_tree inputs key plan shards join out merge writes).1

pub returns-clause-refusals : goal.returns-clause-refusals
returns-clause-refusals c = λ inputs plan key shards join e merge refusal. tree_refused inputs key plan shards join e merge.inputs_are merge.agree merge.is_join refusal

pub returns-clause-same : goal.returns-clause-same
returns-clause-same c = same_trees
