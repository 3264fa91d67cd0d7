use Rattle.std.proofs.lemmas.Result.{err_from_is_err_and}
use Rattle.xet_shards.proofs.Lookup.Tries.{stops_next, none_next, none_found}
use Rattle.xet_shards.proofs.shard_format.lookup.chunk_query.first_run.Goals as goal

pub returns-in_err-run : goal.returns-in_err-run
returns-in_err-run g c =
    let p = err_from_is_err_and c.from_residual.result c.from_residual.ensures.1 in
    rw (p.1, p.2) (stops_next c.args.locations.now c.loop-location.location-index c.loop-location-test.true c.loop-location.invariant c.new.ensures.bytes c.in_err-run.ensures tt)

pub returns-then-is_some : goal.returns-then-is_some
returns-then-is_some g c =
    stops_next c.args.locations.now c.loop-location.location-index c.loop-location-test.true c.loop-location.invariant c.new.ensures.bytes c.in_ok-run.ensures c.if-is_some.ensures

pub loop-location-preserved : goal.loop-location-preserved
loop-location-preserved g c =
    none_next c.args.locations.now c.loop-location.location-index c.loop-location-test.true c.loop-location.invariant c.new.ensures.bytes c.in_ok-run.ensures c.if-is_some.ensures

pub returns : goal.returns
returns g c = none_found c.args.locations.now c.loop-location.location-index c.loop-location-test.false c.loop-location.invariant
