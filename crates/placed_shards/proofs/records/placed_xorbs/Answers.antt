use Rattle.std.proofs.Common.{◌≡◌, [], ◌∷◌, ◌++◌, sym, ◌∙◌, subst}
use Rattle.std.specs.Prelude.{All}
use Rattle.std.proofs.lemmas.List.{take_all, take_more}
use Rattle.xet_records.specs.XorbRecord.{xorb_records, IsXorb}
use Rattle.placed_shards.proofs.Latest.{formed_values}
use Rattle.placed_shards.proofs.records.placed_xorbs.Goals as goal

pub place_xorb-requires : goal.place_xorb-requires
place_xorb-requires c =
    let items = c.as_slice-xorb-items.ensures.value ∙ c.in_ok-latest.ensures.latest in
    let formed : All IsXorb c.as_slice-xorb-items.result.now = subst (All IsXorb) (sym items) (formed_values xorb_records IsXorb _ c.in_ok-latest.ensures.holds) in
    let here = subst IsXorb (sym c.xorb-item.is) (formed c.loop-xorb.xorb-index c.xorb-item.result c.loop-xorb-test.true) in
    record { is_xorb = here.is_xorb; count = here.count; widths = here.widths }

pub loop-xorb-preserved : goal.loop-xorb-preserved
loop-xorb-preserved c =
    let xs = c.as_slice-xorb-items.result.now in
    let i = c.loop-xorb.xorb-index in
    let placed = c.in_ok-place_xorb.ensures ∙ c.xorb-item.is in
    c.in_ok-push.ensures.items ∙ (λ j. c.loop-xorb.invariant j ++ placed j ∷ []) ∙ sym (take_more xs i c.xorb-item.result c.loop-xorb-test.true)

pub returns-clause-placed : goal.returns-clause-placed
returns-clause-placed c =
    c.loop-xorb.invariant ∙ take_all c.loop-xorb.xorb-index c.as_slice-xorb-items.result.now c.loop-xorb-test.false ∙ c.as_slice-xorb-items.ensures.value ∙ c.in_ok-latest.ensures.latest
