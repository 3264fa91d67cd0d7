use Rattle.xet_core_structures.proofs.LawProofs.ExportTrees.{export_of_bytes}
use Rattle.xet_core_structures.proofs.Trees.TreesOfExports.{timestamps_differ, tree_of_exports_with, refused_with, exports_exchange}
use Rattle.xet_core_structures.proofs.laws.exports.exports_merge_to_the_export_of_the_join.Goals as goal

pub returns-clause-exports : goal.returns-clause-exports
returns-clause-exports c = λ aux s options old new before after size is exports. export_of_bytes aux s options old new before after size is exports

pub returns-clause-bytes : goal.returns-clause-bytes
returns-clause-bytes c = λ aux inputs plan key shards join out merge writes. tree_of_exports_with key inputs plan shards join aux out merge writes

pub returns-clause-timestamps : goal.returns-clause-timestamps
returns-clause-timestamps c = timestamps_differ

pub returns-clause-exchanged : goal.returns-clause-exchanged
returns-clause-exchanged c = λ aux inputs outs plan key shards join out bytes now valid size old new merge unites exports exported_at writes.
    exports_exchange aux key inputs outs plan shards join merge exported_at out bytes now valid size old new unites exports writes

pub returns-clause-refusals : goal.returns-clause-refusals
returns-clause-refusals c = λ aux inputs plan key shards join e merge refusal. refused_with key inputs plan shards join aux e merge refusal
