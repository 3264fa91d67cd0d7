use Rattle.std.proofs.Common.{ap, ◌∙◌}
use Rattle.mdb_base.specs.Expiries.{shard_expiry, earlier_of}
use Rattle.mdb_base.proofs.Earliest.{earliest_with}
use Rattle.mdb_base.proofs.expiry.earliest_in.Goals as goal

-- one more footer
pub loop-info-preserved : goal.loop-info-preserved
loop-info-preserved c =
    earliest_with shard_expiry c.args.infos.now c.loop-info.info-index _ c.loop-info.found c.earlier_of-found.result
    c.loop-info-test.true c.loop-info.invariant
    (c.earlier_of-found.ensures ∙ ap (earlier_of c.loop-info.found) c.shard_expiry.ensures)
