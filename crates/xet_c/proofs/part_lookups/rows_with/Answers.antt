use Rattle.std.proofs.Common.{inr, ◌++◌, take, ap, ◌∙◌, arith}
use Rattle.std.specs.FinMap.{values}
use Rattle.std.proofs.lemmas.Result.{err_from_is_err_and}
use Rattle.xet_core_structures.specs.FileRecord.{file_records}
use Rattle.xet_core_structures.specs.XorbRecord.{xorb_records}
use Rattle.shard_bytes.proofs.Fronts.{starts_taken}
use Rattle.xet_c.proofs.part_lookups.rows_with.Goals as goal

pub returns-in_err-count-clause-files : goal.returns-in_err-count-clause-files
returns-in_err-count-clause-files c s shard info is cut =
    let p = err_from_is_err_and c.from_residual.result c.from_residual.ensures.1 in
    rw (p.1, p.2) (inr (c.in_err-count.ensures.files s shard info is cut))

pub returns-in_err-count-clause-xorbs : goal.returns-in_err-count-clause-xorbs
returns-in_err-count-clause-xorbs c s shard info is cut =
    let p = err_from_is_err_and c.from_residual.result c.from_residual.ensures.1 in
    rw (p.1, p.2) (inr (c.in_err-count.ensures.xorbs s shard info is cut))

pub returns-clause-files : goal.returns-clause-files
returns-clause-files c s shard info is cut =
    let among = c.in_ok-count.ensures.files s shard info is cut in
    let count = c.in_ok-count.count in
    let rows = c.find_rows.new.rows in
    starts_taken file_records (values s.files) c.args.word count rows c.extend_from_slice.new.self.items among (omega (arith, among.0, among.1, c.find_rows.array_long))
    (c.in_ok-extend_from_slice.ensures.items ∙ ap (λ front. front ++ take count rows) c.new-found.ensures.items)

pub returns-clause-xorbs : goal.returns-clause-xorbs
returns-clause-xorbs c s shard info is cut =
    let among = c.in_ok-count.ensures.xorbs s shard info is cut in
    let count = c.in_ok-count.count in
    let rows = c.find_rows.new.rows in
    starts_taken xorb_records (values s.xorbs) c.args.word count rows c.extend_from_slice.new.self.items among (omega (arith, among.0, among.1, c.find_rows.array_long))
    (c.in_ok-extend_from_slice.ensures.items ∙ ap (λ front. front ++ take count rows) c.new-found.ensures.items)
