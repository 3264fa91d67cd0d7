use Rattle.std.proofs.Common.{◌<◌, ◌≤◌, length, rules, refl}
use Rattle.std.proofs.lemmas.Option.{slice_get_read}
use Rattle.placed_shards.proofs.HashRuns.{adding_on, all_added}
use Rattle.placed_shards.proofs.places.add_places.Goals as goal

pub loop-index-preserved : goal.loop-index-preserved
loop-index-preserved g c =
    let K = g.P.PlacedRecord.kind in
    let low : c.loop-index.index < length c.args.records.now = search rules in
    let at = slice_get_read c.args.records.now (length c.args.records.now) c.loop-index.index c.index-records-index.result refl low c.index-records-index.is in
    rw c.in_ok-push.ensures.items
    (adding_on K c.args.list c.args.records.now c.args.places.now.items c.loop-index.index c.loop-index.places.items c.loop-index.invariant c.index-records-index.result c.hash-hash.result at c.hash-hash.ensures)

pub returns-clause-ok : goal.returns-clause-ok
returns-clause-ok g c =
    let past : length c.args.records.now ≤ c.loop-index.index = search rules in
    all_added g.P.PlacedRecord.kind c.args.list c.args.records.now c.args.places.now.items c.loop-index.index c.loop-index.places.items c.loop-index.invariant past
