use Rattle.std.proofs.Common.{Some, sym, ap, ◌∙◌}
use Rattle.std.specs.FinMap.{get}
use Rattle.xet_records.specs.Merging.{merged_file}
use Rattle.xet_records.proofs.Merging.{nothing_taken}
use Rattle.xet_shards.specs.Content.Joining.{either_file}
use Rattle.xet_shards.specs.Steps.JoiningSteps.{CanJoinFile}
use Rattle.xet_shards.proofs.ShardInMemory.FileUnions.{joined_file, of_some}
use Rattle.xet_shards.proofs.shard_in_memory.file_store.FileStore.joined_with.Goals as goal

pub returns-then-contains_parts_of-clause-made : goal.returns-then-contains_parts_of-clause-made
returns-then-contains_parts_of-clause-made c =
    let own = c.in-Some.own.now in
    let file = c.args.file_info.now in
    let there = c.in-Some.ensures.value in
    let same = nothing_taken own file (c.contains_parts_of.ensures.0 c.if-contains_parts_of.true) in
    sym there ∙ ap Some (sym same) ∙ ap (λ own. either_file own (Some file)) there

pub returns-clause-made : goal.returns-clause-made
returns-clause-made c =
    let own = c.in-Some.own.now in
    let file = c.args.file_info.now in
    let can = of_some (λ r. CanJoinFile r file) (get c.args.self.now c.args.file_hash.now) own c.in-Some.ensures.value c.requires.joins in
    joined_file _ own file _ c.in-Some.ensures.value
    (c.in_ok-merge_from.ensures.ok ∙ ap (λ r. merged_file r file) c.in_ok-joined.ensures.ok)
    c.in-Some.ensures.well_formed c.requires.formed can can.same.file_hash
