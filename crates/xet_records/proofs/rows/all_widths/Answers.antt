use Rattle.std.proofs.Common.{subst, ◌∙◌, take_all}
use Rattle.std.specs.Prelude.{All}
use Rattle.std.proofs.lemmas.List.Elements.{All-more}
use Rattle.xet_records.proofs.rows.all_widths.Goals as goal

pub loop-row-preserved : goal.loop-row-preserved
loop-row-preserved g c = All-more g.T.Row.Fits _ _ c.row-item.result c.loop-row-test.true c.loop-row.invariant (subst g.T.Row.Fits c.row-item.is c.widths.ensures)

pub returns : goal.returns
returns g c = subst (All g.T.Row.Fits) (take_all _ _ c.loop-row-test.false ∙ c.as_slice-row-items.ensures) c.loop-row.invariant
