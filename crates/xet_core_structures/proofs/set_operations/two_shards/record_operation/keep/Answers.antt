use Rattle.std.proofs.Common.{Some, ◌+◌, ◌<◌, true≢false, sym, ◌∙◌, arith}
use Rattle.std.proofs.Math.Nat.{lt_of_not-le}
use Rattle.std.proofs.lemmas.Result.{err_from_is_err_and}
use Rattle.xet_core_structures.proofs.TwoShards.Pairs.{refused_so, refused_rows, copy_failed, second_not_past}
use Rattle.xet_core_structures.proofs.TwoShards.OneSection.{taken_serves}
use Rattle.xet_core_structures.proofs.set_operations.two_shards.record_operation.keep.Goals as goal

pub returns-then-not-has_room : goal.returns-then-not-has_room
returns-then-not-has_room g c =
    let K = g.Sec.Record.SectionRecord.kind in
    let rows = g.Sec.WrittenSection.rows c.args.written.now in
    let full : 4294967295 < rows + (1 + c.rows_after-rows.result) = lt_of_not-le (λ fits. true≢false (sym (c.has_room.ensures.1 fits) ∙ c.if-not-has_room.true)) in
    let many : 4294967295 < rows + (1 + K.rows_after c.args.kept) = omega (arith, full, c.rows_after-rows.ensures.rows) in
    refused_so K (Some c.args.kept) c.args.passed _ _ _ _ (refused_rows K c.laws.ensures c.args.kept c.args.passed _ _ _ _ rows c.requires many) c.refuse.result c.refuse.ensures

pub returns-in_err-copy : goal.returns-in_err-copy
returns-in_err-copy g c =
    let p = err_from_is_err_and c.from_residual.result c.from_residual.ensures.1 in
    rw (p.1, p.2) (copy_failed g.Sec.Record.SectionRecord.kind g.S.ShardSource.meaning c.args.r1.now c.copy.new.input c.args.kept c.args.passed _ _ _ c.in_err-copy.ensures)

pub returns-in_err-pass : goal.returns-in_err-pass
returns-in_err-pass g c =
    let p = err_from_is_err_and c.from_residual-in_err-pass.result c.from_residual-in_err-pass.ensures.1 in
    rw (p.1, p.2) (second_not_past g.Sec.Record.SectionRecord.kind _ c.args.passed _ _ _ _ _ _ (taken_serves _ _ _ c.in_ok-copy.ensures.read.taken) c.in_err-pass.ensures)
