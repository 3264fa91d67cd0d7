use Rattle.xet_base.specs.KeyedHash.{no_key}
use Rattle.xet_shards.proofs.Ends.EndsUnique.{bytes_without_expiry}
use Rattle.xet_core_structures.proofs.LawProofs.ExportTrees.{tree_of_exports, keyed_leaves, run_kept, run_from, same_chunks, answer_from, longer_run, longer_under, export_written}
use Rattle.xet_core_structures.proofs.Trees.MergeTrees.{one_layout}
use Rattle.xet_core_structures.proofs.laws.exports.merges_keep_runs.Goals as goal

pub returns-clause-kept : goal.returns-clause-kept
returns-clause-kept c = λ inputs plan shards join s out q index hashes run merge writes member is. (
  one_layout inputs plan shards join merge out writes,
  run_kept shards join merge.is_join no_key s q index hashes run member is,
)

pub returns-clause-only : goal.returns-clause-only
returns-clause-only c = λ key shards join q index hashes run is_join is. run_from shards join is_join key q index hashes run is

pub returns-clause-answers : goal.returns-clause-answers
returns-clause-answers c = λ key shards join hashes run is_join is. answer_from shards join is_join key hashes run is

pub returns-clause-chunks : goal.returns-clause-chunks
returns-clause-chunks c = λ shards join q p is_join. same_chunks shards join is_join q p

pub returns-clause-keyed : goal.returns-clause-keyed
returns-clause-keyed c = λ inputs plan key shards join s out q index hashes run merge writes member is. (
  tree_of_exports key inputs plan shards join merge out writes,
  longer_run shards join merge.is_join key s q index hashes run member is,
)

pub returns-clause-exported : goal.returns-clause-exported
returns-clause-exported c = λ inputs plan shards join options old new before after size merge writes exports.
    export_written join options old new before after size (bytes_without_expiry (one_layout inputs plan shards join merge _ writes)) exports

pub returns-clause-exported_runs : goal.returns-clause-exported_runs
returns-clause-exported_runs c = longer_under

pub returns-clause-keyed_leaves : goal.returns-clause-keyed_leaves
returns-clause-keyed_leaves c = keyed_leaves
