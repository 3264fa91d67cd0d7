use Rattle.placed_shards.proofs.Marking.{own_are, own_marks}
use Rattle.placed_shards.proofs.marks.starts_in.Goals as goal

pub returns-clause-hashes : goal.returns-clause-hashes
returns-clause-hashes c =
    (own_are c.args.xorb.now c.header-header.result c.args.starts.now c.starts_from.result.now c.starts_before.result.now c.header-header.ensures c.is_stored.ensures.stored.count c.starts_from.ensures
    c.starts_before.ensures).hashes

pub returns-clause-indices : goal.returns-clause-indices
returns-clause-indices c =
    (own_are c.args.xorb.now c.header-header.result c.args.starts.now c.starts_from.result.now c.starts_before.result.now c.header-header.ensures c.is_stored.ensures.stored.count c.starts_from.ensures
    c.starts_before.ensures).indices

pub returns-clause-marks : goal.returns-clause-marks
returns-clause-marks c =
    own_marks c.args.xorb.now c.args.starts.now c.starts_before.result.now
    (own_are c.args.xorb.now c.header-header.result c.args.starts.now c.starts_from.result.now c.starts_before.result.now c.header-header.ensures c.is_stored.ensures.stored.count c.starts_from.ensures c.starts_before.ensures)
