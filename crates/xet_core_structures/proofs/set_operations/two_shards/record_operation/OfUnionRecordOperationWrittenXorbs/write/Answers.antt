use Rattle.std.proofs.Common.{None, Some, refl, sym, subst}
use Rattle.std.specs.Prelude.{IfSome}
use Rattle.xet_records.specs.XorbRecord.{xorb_records}
use Rattle.xet_records.proofs.RecordKinds.{xorb_laws}
use Rattle.xet_core_structures.specs.Records.ByteUnion.{IsEitherXorb}
use Rattle.xet_core_structures.specs.Steps.RecordPairsSteps.{AreOfOneHash}
use Rattle.xet_core_structures.specs.Steps.MergeJoin.{IsRecordHeader}
use Rattle.xet_core_structures.proofs.TwoShards.Pairs.{keeps_first, keeps_second}
use Rattle.xet_core_structures.proofs.set_operations.two_shards.record_operation.OfUnionRecordOperationWrittenXorbs.write.Goals as goal

pub returns-in-Some-default : goal.returns-in-Some-default
returns-in-Some-default g c =
    rw (c.in-Some-default.is-0)
    (keeps_first xorb_records xorb_laws IsEitherXorb c.in-Some-default.x c.args.second _ _ _ _ c.args.written.now.table.rows
    (subst (λ o. IfSome o (IsRecordHeader xorb_records)) c.in-Some-default.is-0 c.requires.first)
    (subst (λ o. AreOfOneHash xorb_records.hash_of o c.args.second) c.in-Some-default.is-0 c.requires.hash)
    (λ r other read past. refl) _ _ _ _ c.keep.result c.keep.ensures)

pub returns-in-None-Some : goal.returns-in-None-Some
returns-in-None-Some g c =
    rw (c.in-None-Some.is-0, c.in-None-Some.is-1)
    (keeps_second xorb_records xorb_laws IsEitherXorb c.in-None-Some.y None _ _ _ _ c.args.written.now.table.rows
    (subst (λ o. IfSome o (IsRecordHeader xorb_records)) c.in-None-Some.is-1 c.requires.second) tt
    (λ r other read none. subst (λ o. IsEitherXorb o (Some r) (Some r)) (sym none.0) refl) _ _ _ _ c.keep-in-None-Some.result c.keep-in-None-Some.ensures)
