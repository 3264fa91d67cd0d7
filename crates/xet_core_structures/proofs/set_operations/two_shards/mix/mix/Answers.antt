use Rattle.std.proofs.Common.{Some, ◌+◌, ◌<◌, true≢false, sym, ap, ◌∙◌, subst}
use Rattle.std.specs.Io.KnownBytes.{Appends}
use Rattle.std.proofs.Math.Nat.{lt_of_not-le}
use Rattle.std.proofs.lemmas.Result.{err_from_is_err_and}
use Rattle.xet_records.specs.FileRecord.{file_records, rows_after}
use Rattle.xet_records.specs.FileRow.{header_row}
use Rattle.xet_core_structures.specs.Steps.MixedFiles.{MixHasTooManyRows}
use Rattle.xet_core_structures.proofs.TwoShards.MixWriting.{no_output, not_added, mix_written}
use Rattle.xet_core_structures.proofs.TwoShards.OneSection.{taken_serves}
use Rattle.xet_core_structures.proofs.TwoShards.Pairs.{fails_so, refused_so}
use Rattle.xet_core_structures.proofs.TwoShards.UnitedFiles.{mix_rows}
use Rattle.xet_core_structures.proofs.set_operations.two_shards.mix.mix.Goals as goal

pub returns-in_err-write_copied_row : goal.returns-in_err-write_copied_row
returns-in_err-write_copied_row g c =
    let p = err_from_is_err_and c.from_residual.result c.from_residual.ensures.1 in
    rw (p.1, p.2) (no_output c.args.first c.args.second _ _ _ _ c.in_err-write_copied_row.ensures.causes)

pub returns-in_err-size : goal.returns-in_err-size
returns-in_err-size g c =
    let p = err_from_is_err_and c.from_residual-in_err-size.result c.from_residual-in_err-size.ensures.1 in
    rw (p.1, p.2) (fails_so file_records (Some c.args.first) (Some c.args.second) _ _ (λ _ _. ⊥) (MixHasTooManyRows c.args.written.now.table.rows) (λ one other _ _ never. absurd never) _ c.in_err-size.ensures.rows)

pub returns-in-Err : goal.returns-in-Err
returns-in-Err g c =
    let mixed = c.in_ok-size.ensures.rows in
    not_added c.args.first c.args.second _ _ _ _ _ _ (taken_serves _ _ _ mixed.reads_first.taken) (taken_serves _ _ _ mixed.reads_second.taken) c.in-Err.ensures.causes

pub returns-then-not-has_room : goal.returns-then-not-has_room
returns-then-not-has_room g c =
    let rows = c.args.written.now.table.rows in
    let full : 4294967295 < rows + (1 + c.rows_after-rows.result) = lt_of_not-le (λ fits. true≢false (sym (c.has_room.ensures.1 fits) ∙ c.if-not-has_room.true)) in
    refused_so file_records (Some c.args.first) (Some c.args.second) _ _ _ _
    (mix_rows c.args.first c.args.second _ _ _ _ c.requires.first c.requires.second c.requires.hash c.requires.count rows (1 + c.rows_after-rows.result)
    (ap (λ n. 1 + n) (c.rows_after-rows.ensures.rows ∙ ap rows_after c.mix_with-header.ensures)) full) c.refuse.result c.refuse.ensures

pub returns-in-Ok : goal.returns-in-Ok
returns-in-Ok g c =
    let contents = g.W.Write.contents in
    let room = c.has_room.ensures.0 c.if-not-has_room.false in
    mix_written c.args.first c.args.second _ _ (contents c.args.out.now) (contents c.write_copied_row.new.writer) (contents c.mix_rows.new.out)
    c.in_ok-size.size c.args.written.now.table.rows (1 + c.rows_after-rows.result) c.args.written.now c.add.new.self
    c.requires.first c.requires.second c.requires.hash c.requires.count (ap (λ n. 1 + n) (c.rows_after-rows.ensures.rows ∙ ap rows_after c.mix_with-header.ensures)) room
    (subst (λ h. Appends (contents c.args.out.now) (contents c.write_copied_row.new.writer) (header_row h)) c.mix_with-header.ensures c.in_ok-write_copied_row.ensures.appended)
    c.in_ok-size.ensures.rows c.in-Ok.ensures.written
