use Rattle.std.proofs.Common.{inl, inr}
use Rattle.std.proofs.lemmas.Result.{err_from_is_err_and}
use Rattle.shard_bytes.specs.Exporting.{RefusesExport, NotExported}
use Rattle.shard_bytes.proofs.Compositions.{both_outcomes, export_steps}
use Rattle.shard_bytes.proofs.MemoryErrors.{not_read_in_memory}
use Rattle.shard_bytes.proofs.export.exported.Goals as goal

pub returns-in_err-open_behind_header : goal.returns-in_err-open_behind_header
returns-in_err-open_behind_header c =
    let p = err_from_is_err_and c.from_residual-in_err-open_behind_header.result c.from_residual-in_err-open_behind_header.ensures.1 in
    rw (p.1, p.2) (not_read_in_memory c.args.bytes.now (NotExported c.args.export.now c.args.bytes.now) _
    (λ why. inr (c.in_ok-info.info, c.in_ok-info.ensures, inr (c.in_ok-options.ensures.1, why))) c.in_err-open_behind_header.ensures)

pub returns : goal.returns
returns c =
    let x = c.args.export.now in
    both_outcomes c.with_keyed_hashes.result _ _ _ (RefusesExport x c.args.bytes.now)
    (λ keyed fourth. export_steps x c.args.bytes.now c.in_ok-info.info c.in_ok-info.ensures c.in_ok-options.ensures.1 c.in_ok-open_behind_header.field-0 c.with_options-shard.result c.with_files_if.result
    c.in_ok-shard.shard keyed c.in_ok-options.options c.in_ok-open_behind_header.ensures.0 c.in_ok-open_behind_header.ensures.1 c.in_ok-options.ensures.0
    c.with_options-shard.ensures.content c.with_options-shard.ensures.as_read c.with_files_if.ensures.content c.with_files_if.ensures.as_read c.in_ok-shard.ensures fourth)
    (λ e is. inl is) c.with_keyed_hashes.ensures
