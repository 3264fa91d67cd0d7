use Rattle.std.proofs.Common.{None, Some, refl, sym, subst}
use Rattle.std.specs.Prelude.{IfSome}
use Rattle.xet_records.specs.FileRecord.{file_records}
use Rattle.xet_records.proofs.RecordKinds.{file_laws}
use Rattle.xet_core_structures.specs.Records.ByteUnion.{IsEitherFile}
use Rattle.xet_core_structures.specs.Steps.MergeJoin.{IsRecordHeader}
use Rattle.xet_core_structures.proofs.TwoShards.Pairs.{keeps_first, keeps_second}
use Rattle.xet_core_structures.proofs.set_operations.two_shards.record_operation.OfUnionRecordOperationWrittenFiles.write.Goals as goal

pub returns-in-Some-None : goal.returns-in-Some-None
returns-in-Some-None g c =
    rw (c.in-Some-None.is-0, c.in-Some-None.is-1)
    (keeps_first file_records file_laws IsEitherFile c.in-Some-None.x None _ _ _ _ c.args.written.now.table.rows
    (subst (λ o. IfSome o (IsRecordHeader file_records)) c.in-Some-None.is-0 c.requires.first) tt
    (λ r other read none. subst (λ o. IsEitherFile (Some r) o (Some r)) (sym none.0) refl) _ _ _ _ c.keep.result c.keep.ensures)

pub returns-in-None-Some : goal.returns-in-None-Some
returns-in-None-Some g c =
    rw (c.in-None-Some.is-0, c.in-None-Some.is-1)
    (keeps_second file_records file_laws IsEitherFile c.in-None-Some.y None _ _ _ _ c.args.written.now.table.rows
    (subst (λ o. IfSome o (IsRecordHeader file_records)) c.in-None-Some.is-1 c.requires.second) tt
    (λ r other read none. subst (λ o. IsEitherFile o (Some r) (Some r)) (sym none.0) refl) _ _ _ _ c.keep-in-None-Some.result c.keep-in-None-Some.ensures)
