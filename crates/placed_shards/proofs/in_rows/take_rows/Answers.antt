use Rattle.std.proofs.Common.{inr, ◌∷◌, ◌++◌, [], Some, refl, sym, subst, arith}
use Rattle.xet_records.specs.RecordKind.{in_version}
use Rattle.xet_records.proofs.RecordKinds.{laws_in}
use Rattle.placed_shards.specs.Steps.InRows.{TakesInRange}
use Rattle.placed_shards.proofs.InRows.{HasWalked, walk_starts, walk_on, walk_stops, walk_ends}
use Rattle.placed_shards.proofs.in_rows.take_rows.Goals as goal

pub loop-rows_left-init : goal.loop-rows_left-init
loop-rows_left-init g c =
    let K = g.P.PlacedRecord.kind in
    rw c.new-records.ensures.items (walk_starts (in_version K c.args.version) (laws_in K c.laws.ensures.laws c.args.version) c.args.range.now c.args.count c.args.bytes.now)

pub returns-in_default : goal.returns-in_default
returns-in_default g c =
    let K = g.P.PlacedRecord.kind in
    let w = c.loop-rows_left in
    let none = rw c.in_default.is at c.take_in_range.ensures in
    inr (refl, walk_stops (in_version K c.args.version) (laws_in K c.laws.ensures.laws c.args.version) c.args.range.now c.args.count c.args.bytes.now w.records.items w.before w.rest.now w.rows_left w.invariant (omega (arith, c.loop-rows_left-test.true)) none)

pub loop-rows_left-preserved : goal.loop-rows_left-preserved
loop-rows_left-preserved g c =
    let K = g.P.PlacedRecord.kind in
    let V = in_version K c.args.version in
    let w = c.loop-rows_left in
    let next = c.in-Some.next in
    let count = c.args.count in
    let bytes = c.args.bytes.now in
    let range = c.args.range.now in
    let after = c.take_in_range.new.rows_left in
    let taken : TakesInRange V range w.before w.rows_left after w.rest.now next.record next.rest.now = rw c.in-Some.is at c.take_in_range.ensures in
    rw c.in_ok-push.ensures.items (subst (λ k. HasWalked V range count bytes (w.records.items ++ next.record ∷ []) (Some k) next.rest.now after) (sym c.hash.ensures)
    (walk_on V (laws_in K c.laws.ensures.laws c.args.version) range count bytes w.records.items w.before w.rest.now w.rows_left w.invariant next.record next.rest.now after taken))

pub returns : goal.returns
returns g c =
    let K = g.P.PlacedRecord.kind in
    let w = c.loop-rows_left in
    walk_ends (in_version K c.args.version) (laws_in K c.laws.ensures.laws c.args.version) c.args.range.now c.args.count c.args.bytes.now w.records.items w.before w.rest.now w.rows_left w.invariant (omega (arith, c.loop-rows_left-test.false))
