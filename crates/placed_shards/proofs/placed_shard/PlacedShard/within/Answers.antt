use Rattle.std.proofs.Common.{◌≤◌, sym, ap, ◌∙◌, subst, arith}
use Rattle.xet_records.specs.FileRecord.{file_records}
use Rattle.xet_records.specs.XorbRecord.{xorb_records}
use Rattle.xet_shards.specs.Write.Section.{total_rows}
use Rattle.placed_shards.specs.Ranges.{is_within}
use Rattle.placed_shards.specs.StoredFiles.{files_as}
use Rattle.placed_shards.proofs.Changing.{passing_files}
use Rattle.placed_shards.proofs.Within.{rows_passing}
use Rattle.placed_shards.proofs.placed_shard.PlacedShard.within.Goals as goal

pub invariant_of-result-clause-file_rows : goal.invariant_of-result-clause-file_rows
invariant_of-result-clause-file_rows c =
    let s = c.args.self in
    subst (λ l. total_rows file_records l ≤ 4294967295) (sym c.files_within.ensures) (omega (arith, rows_passing file_records (is_within c.args.range.now) s.files.items, s.file_rows))

pub invariant_of-result-clause-xorb_rows : goal.invariant_of-result-clause-xorb_rows
invariant_of-result-clause-xorb_rows c =
    let s = c.args.self in
    subst (λ l. total_rows xorb_records l ≤ 4294967295) (sym c.xorbs_within.ensures) (omega (arith, rows_passing xorb_records (is_within c.args.range.now) s.xorbs.items, s.xorb_rows))

pub returns-clause-content : goal.returns-clause-content
returns-clause-content c =
    let s = c.args.self in
    let files = ap (files_as s.as_read) c.files_within.ensures ∙ passing_files (is_within c.args.range.now) s.as_read s.files.items in
    λ i. record { files = files i; xorbs = c.xorbs_within.ensures i; options = s.options }
