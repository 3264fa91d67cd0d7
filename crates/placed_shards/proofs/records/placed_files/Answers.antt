use Rattle.std.proofs.Common.{◌≡◌, [], ◌∷◌, ◌++◌, sym, ◌∙◌, subst, arith}
use Rattle.std.specs.Prelude.{All}
use Rattle.std.proofs.lemmas.List.{take_all, take_more}
use Rattle.xet_records.specs.FileRecord.{file_records, IsWellFormed}
use Rattle.xet_records.proofs.Record.{rows_whole}
use Rattle.placed_shards.proofs.Latest.{formed_values}
use Rattle.placed_shards.proofs.records.placed_files.Goals as goal

pub place_file-requires-clause-stored : goal.place_file-requires-clause-stored
place_file-requires-clause-stored c =
    let items = c.as_slice-file-items.ensures.value ∙ c.in_ok-latest.ensures.latest in
    let formed : All IsWellFormed c.as_slice-file-items.result.now = subst (All IsWellFormed) (sym items) (formed_values file_records IsWellFormed _ c.in_ok-latest.ensures.holds) in
    let here = subst IsWellFormed (sym c.file-item.is) (formed c.loop-file.file-index c.file-item.result c.loop-file-test.true) in
    record { is_file = here.is_file; whole = here.whole; widths = here.widths }

pub place_file-requires-clause-few : goal.place_file-requires-clause-few
place_file-requires-clause-few c =
    let items = c.as_slice-file-items.ensures.value ∙ c.in_ok-latest.ensures.latest in
    let formed : All IsWellFormed c.as_slice-file-items.result.now = subst (All IsWellFormed) (sym items) (formed_values file_records IsWellFormed _ c.in_ok-latest.ensures.holds) in
    let here = subst IsWellFormed (sym c.file-item.is) (formed c.loop-file.file-index c.file-item.result c.loop-file-test.true) in
    omega (arith, here.rows, rows_whole c.file-item.result here.whole)

pub loop-file-preserved : goal.loop-file-preserved
loop-file-preserved c =
    let xs = c.as_slice-file-items.result.now in
    let i = c.loop-file.file-index in
    let placed = c.in_ok-place_file.ensures ∙ c.file-item.is in
    c.in_ok-push.ensures.items ∙ (λ j. c.loop-file.invariant j ++ placed j ∷ []) ∙ sym (take_more xs i c.file-item.result c.loop-file-test.true)

pub returns-clause-placed : goal.returns-clause-placed
returns-clause-placed c =
    c.loop-file.invariant ∙ take_all c.loop-file.file-index c.as_slice-file-items.result.now c.loop-file-test.false ∙ c.as_slice-file-items.ensures.value ∙ c.in_ok-latest.ensures.latest
