use Rattle.std.proofs.Common.{rules}
use Rattle.std.proofs.lemmas.Iterator.{cases_from_all, YieldsList-from_slice}
use borrow.Author.Tests.{tests}
use Rattle.xet_records.specs.declared.file_structs.part.OptionalPart.{OptionalPart}
use Rattle.xet_records.specs.Part.{parts, rows_of}
use Rattle.xet_records.proofs.Parts.{every_part}
use Rattle.xet_shards.specs.Steps.FileStore.{AreClear}
use Rattle.xet_shards.proofs.Write.StoredParts.{clear_parts}
use Rattle.xet_shards.proofs.shard_in_memory.file_store.has_clear_parts.Goals as goal

pub returns : goal.returns
returns c =
    let clear : OptionalPart → Type 0 = λ part. AreClear (rows_of part c.args.file_info.now) in
    clear_parts c.args.file_info.now c.all.result (every_part clear c.all.result
    (cases_from_all _ _ _ clear (λ part. ¬ clear part) c.all.ensures.ran (YieldsList-from_slice parts cc) (λ x q k. search (rules, tests)) (λ x q k. search (rules, tests))))
