use Rattle.std.proofs.Common.{subst, take_all}
use Rattle.std.specs.Prelude.{All}
use Rattle.std.proofs.lemmas.List.Elements.{All-more}
use Rattle.placed_shards.proofs.placed_record.all_stored.Goals as goal

pub loop-record-preserved : goal.loop-record-preserved
loop-record-preserved g c = All-more g.P.PlacedRecord.kind.IsStored _ _ c.record-item.result c.loop-record-test.true c.loop-record.invariant (subst g.P.PlacedRecord.kind.IsStored c.record-item.is c.is_stored.ensures.stored)

pub returns : goal.returns
returns g c = subst (All g.P.PlacedRecord.kind.IsStored) (take_all _ _ c.loop-record-test.false) c.loop-record.invariant
