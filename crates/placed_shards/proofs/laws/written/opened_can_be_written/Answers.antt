use Rattle.placed_shards.proofs.Equations.Reopened.{can_be_written, opened_the_same, opened_well_formed}
use Rattle.placed_shards.proofs.laws.written.opened_can_be_written.Goals as goal

pub returns-clause-writable : goal.returns-clause-writable
returns-clause-writable c = can_be_written

pub returns-clause-opened : goal.returns-clause-opened
returns-clause-opened c = opened_the_same

pub returns-clause-well_formed : goal.returns-clause-well_formed
returns-clause-well_formed c = opened_well_formed
