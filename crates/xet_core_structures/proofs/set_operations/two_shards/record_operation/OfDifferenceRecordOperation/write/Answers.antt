use Rattle.std.proofs.Common.{None, Some, refl, sym, subst}
use Rattle.std.specs.Prelude.{IfSome}
use Rattle.xet_core_structures.specs.Steps.RecordPairsSteps.{IsRest}
use Rattle.xet_core_structures.specs.Steps.MergeJoin.{IsRecordHeader}
use Rattle.xet_core_structures.proofs.TwoShards.Pairs.{keeps_second, nothing_kept}
use Rattle.xet_core_structures.proofs.set_operations.two_shards.record_operation.OfDifferenceRecordOperation.write.Goals as goal

pub returns-in-Some-default : goal.returns-in-Some-default
returns-in-Some-default g c =
    let K = g.Sec.Record.SectionRecord.kind in
    rw (c.in-Some-default.is-0)
    (nothing_kept K c.laws.ensures IsRest (Some c.in-Some-default.field-0-0) c.args.second _ _ _ _ (g.Sec.WrittenSection.rows c.args.written.now) (g.Sec.WrittenSection.has_written c.args.written.now) _
    (λ one other first second. subst (λ o. IsRest o other None) (sym first.1) refl) c.skip_both.result
    (rw c.in-Some-default.is-0 at c.skip_both.ensures))

pub returns-in-None-Some : goal.returns-in-None-Some
returns-in-None-Some g c =
    let K = g.Sec.Record.SectionRecord.kind in
    rw (c.in-None-Some.is-0, c.in-None-Some.is-1)
    (keeps_second K c.laws.ensures IsRest c.in-None-Some.kept None _ _ _ _ (g.Sec.WrittenSection.rows c.args.written.now)
    (subst (λ o. IfSome o (IsRecordHeader K)) c.in-None-Some.is-1 c.requires.second) tt
    (λ r other read none. subst (λ o. IsRest o (Some r) (Some r)) (sym none.0) refl) _ _ _ _ c.keep.result c.keep.ensures)
