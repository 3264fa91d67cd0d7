use Rattle.mdb_garbage.proofs.Seen.{reports_range}
use Rattle.mdb_garbage.proofs.garbage.Garbage.finish.Goals as goal

pub returns : goal.returns
returns c = λ files xorbs seen.
    reports_range c.args.self.range files xorbs c.args.self.segments.items.items c.args.self.xorbs.items c.of-xorbs.result.items.items c.args.self.found.items _ _ _ seen.segments seen.hashes seen.found
    c.of-xorbs.ensures c.in_ok-add_unnamed.ensures c.in_ok-add_lacking.ensures c.in_order.ensures
