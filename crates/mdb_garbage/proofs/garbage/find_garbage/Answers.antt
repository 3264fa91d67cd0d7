use Rattle.std.proofs.Common.{◌≤◌, length, rules, subst}
use Rattle.std.proofs.lemmas.List.{take_all}
use Rattle.mdb_garbage.specs.Reports.{HasSeen}
use Rattle.mdb_garbage.proofs.Seen.{reports_all}
use Rattle.mdb_garbage.proofs.garbage.find_garbage.Goals as goal

pub returns : goal.returns
returns c =
    let past : length c.args.xorbs.now ≤ c.loop-xorb.xorb-index = search rules in
    let seen = subst (λ xs. HasSeen c.args.files.now xs c.loop-xorb.garbage) (take_all c.loop-xorb.xorb-index c.args.xorbs.now past) c.loop-xorb.invariant.seen in
    reports_all c.loop-xorb.garbage.range c.args.files.now c.args.xorbs.now _ c.loop-xorb.invariant.all (c.in_ok-found.ensures c.args.files.now c.args.xorbs.now seen)
