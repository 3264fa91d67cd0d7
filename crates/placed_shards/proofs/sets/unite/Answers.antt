use Rattle.std.proofs.Common.{◌≡◌, ◌+◌, inr, drop, map, refl, sym, ap, ◌∙◌, subst}
use Rattle.xet_shards.specs.Write.Section.{total_rows}
use Rattle.placed_shards.specs.Steps.SetsSteps.{CountsRows, IsTurn}
use Rattle.placed_shards.proofs.Uniting.{IsUniting, uniting_start, uniting_on, after_all, no_record, fewer_left, pushed_read}
use Rattle.placed_shards.proofs.sets.unite.Goals as goal

pub loop-made-init : goal.loop-made-init
loop-made-init g c =
    let K = g.P.PlacedRecord.kind in
    rw c.in_ok-made.ensures.items (uniting_start K c.laws.ensures.laws g.U.Union.makes c.laws-2.ensures.nothing (map K.as_read c.args.first.now) (map K.as_read c.args.second.now) c.requires.first c.requires.second)

pub returns-in-End : goal.returns-in-End
returns-in-End g c =
    let K = g.P.PlacedRecord.kind in
    let turn = subst (IsTurn K g.U.Union.makes c.args.first.now c.loop-made.at_1 c.args.second.now c.loop-made.at_2) c.in-End.is c.in_ok-next_turn.ensures in
    after_all K c.laws.ensures.laws g.U.Union.makes (map K.as_read c.args.first.now) (map K.as_read c.args.second.now) (drop c.loop-made.at_1 (map K.as_read c.args.first.now)) (drop c.loop-made.at_2 (map K.as_read c.args.second.now))
    (map K.as_read c.loop-made.made.items) c.loop-made.rows c.loop-made.invariant c.laws-2.ensures.made_once
    turn.0 turn.1 (λ made. map K.as_read made.items) c.loop-made.made refl c.if_rows_fit.result c.if_rows_fit.ensures

pub loop-made-preserved : goal.loop-made-preserved
loop-made-preserved g c =
    let K = g.P.PlacedRecord.kind in
    let laws = c.laws.ensures.laws in
    let makes = g.U.Union.makes in
    let firsts = map K.as_read c.args.first.now in
    let seconds = map K.as_read c.args.second.now in
    let record_read = K.as_read c.in-Keep.record in
    let made = map K.as_read c.loop-made.made.items in
    let turn = subst (IsTurn K makes c.args.first.now c.loop-made.at_1 c.args.second.now c.loop-made.at_2) c.in-Keep.is c.in_ok-next_turn.ensures in
    let stored = laws.as_read_stored c.in-Keep.record c.is_stored.ensures.stored in
    let counted : c.rows_of.result ≡ K.row_count record_read = c.rows_of.ensures ∙ sym (laws.same_rows c.in-Keep.record) in
    let counts = subst (λ n. CountsRows (total_rows K made + n) c.add_rows-rows.result) counted (c.add_rows-rows.ensures (total_rows K made) c.loop-made.invariant.counted) in
    let pushed = ap (map K.as_read) c.in_ok-push-in-Keep.ensures.items ∙ pushed_read K laws c.loop-made.made.items c.in-Keep.record in
    subst (λ l. IsUniting K makes firsts seconds (drop c.in-Keep.next_1 firsts) (drop c.in-Keep.next_2 seconds) l c.add_rows-rows.result) (sym pushed)
    (uniting_on K laws makes firsts seconds (drop c.loop-made.at_1 firsts) (drop c.loop-made.at_2 seconds) made c.loop-made.rows c.loop-made.invariant
    c.laws-2.ensures.first_alone c.laws-2.ensures.second_alone record_read (drop c.in-Keep.next_1 firsts) (drop c.in-Keep.next_2 seconds) c.add_rows-rows.result stored turn counts)

pub loop-made-smaller : goal.loop-made-smaller
loop-made-smaller g c =
    let K = g.P.PlacedRecord.kind in
    let firsts = map K.as_read c.args.first.now in
    let seconds = map K.as_read c.args.second.now in
    let turn = subst (IsTurn K g.U.Union.makes c.args.first.now c.loop-made.at_1 c.args.second.now c.loop-made.at_2) c.in-Keep.is c.in_ok-next_turn.ensures in
    fewer_left K c.laws.ensures.laws g.U.Union.makes (drop c.loop-made.at_1 firsts) (drop c.loop-made.at_2 seconds) (K.as_read c.in-Keep.record) (drop c.in-Keep.next_1 firsts) (drop c.in-Keep.next_2 seconds) turn

pub returns-in-Nothing : goal.returns-in-Nothing
returns-in-Nothing g c =
    let K = g.P.PlacedRecord.kind in
    let turn = subst (IsTurn K g.U.Union.makes c.args.first.now c.loop-made.at_1 c.args.second.now c.loop-made.at_2) c.in-Nothing.is c.in_ok-next_turn.ensures in
    inr (
      tt,
      no_record K c.laws.ensures.laws g.U.Union.makes (map K.as_read c.args.first.now) (map K.as_read c.args.second.now) (drop c.loop-made.at_1 (map K.as_read c.args.first.now)) (drop c.loop-made.at_2 (map K.as_read c.args.second.now))
          (map K.as_read c.loop-made.made.items) c.loop-made.rows c.loop-made.invariant turn,
    )
