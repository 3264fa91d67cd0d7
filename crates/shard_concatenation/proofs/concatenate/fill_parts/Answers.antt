use Rattle.std.proofs.Common.{◌<◌, ◌^◌, ◌∙◌, ℕ, List, Bor, map, inr, refl, sym, subst, arith, rules}
use Rattle.std.proofs.lemmas.Result.{err_from_is_err_and}
use Rattle.shard_concatenation.specs.Concatenation.{files_in, xorbs_in, options_under, RefusesConcatenation}
use Rattle.shard_concatenation.specs.Steps.PartFilling.{HoldAll}
use Rattle.placed_shards.specs.Filling.{Fills}
use Rattle.xet_shards.specs.Write.Layout.{layout_of}
use Rattle.shard_concatenation.proofs.Concatenation.{parts_fit}
use Rattle.shard_concatenation.proofs.concatenate.fill_parts.Goals as goal

pub returns-in_err-gathered-clause-succeeds : goal.returns-in_err-gathered-clause-succeeds
returns-in_err-gathered-clause-succeeds c = λ key parts row are.
    let lacks = c.in_err-gathered.ensures.succeeds key parts row are in
    let p = err_from_is_err_and c.from_residual.result c.from_residual.ensures.1 in
    rw (p.1) (p.2 ∙ lacks)

pub returns-in_err-gathered-clause-causes : goal.returns-in_err-gathered-clause-causes
returns-in_err-gathered-clause-causes c =
    let p = err_from_is_err_and c.from_residual.result c.from_residual.ensures.1 in
    rw (p.1) (subst (RefusesConcatenation (map (λ (x : Bor (List ℕ)). x.now) c.args.shards.now)) (sym p.2) (c.in_err-gathered.ensures.causes), refl)

pub returns-in_err-info-clause-succeeds : goal.returns-in_err-info-clause-succeeds
returns-in_err-info-clause-succeeds c = λ key parts row are.
    let lacks = c.in_err-info.ensures.succeeds parts (c.in_ok-gathered.ensures.gathered key parts row.fit are).1 row.together in
    let p = err_from_is_err_and c.from_residual-in_err-info.result c.from_residual-in_err-info.ensures.1 in
    rw (p.1) (p.2 ∙ lacks)

pub returns-in_err-info-clause-causes : goal.returns-in_err-info-clause-causes
returns-in_err-info-clause-causes c =
    let p = err_from_is_err_and c.from_residual-in_err-info.result c.from_residual-in_err-info.ensures.1 in
    rw (p.1) (subst (RefusesConcatenation (map (λ (x : Bor (List ℕ)). x.now) c.args.shards.now)) (sym p.2) (inr (inr c.in_err-info.ensures.causes)), refl)

pub returns-in_err-merge-clause-succeeds : goal.returns-in_err-merge-clause-succeeds
returns-in_err-merge-clause-succeeds c = λ key parts row are.
    let tables = (c.in_ok-gathered.ensures.gathered key parts row.fit are).1.tables_held in
    let lacks = c.in_err-merge.ensures.succeeds tables.held (tables.cursors_are ∙ sym c.as_slice.ensures.value) tables.hold in
    let p = err_from_is_err_and c.from_residual-in_err-merge.result c.from_residual-in_err-merge.ensures.1 in
    rw (p.1) (p.2 ∙ lacks)

pub returns-in_err-merge-clause-causes : goal.returns-in_err-merge-clause-causes
returns-in_err-merge-clause-causes c =
    let p = err_from_is_err_and c.from_residual-in_err-merge.result c.from_residual-in_err-merge.ensures.1 in
    rw (p.1) (subst (RefusesConcatenation (map (λ (x : Bor (List ℕ)). x.now) c.args.shards.now)) (sym p.2) (inr (inr c.in_err-merge.ensures.causes)), refl)

pub returns-clause-order : goal.returns-clause-order
returns-clause-order c = λ key parts fit are each. c.in_ok-gathered.ensures.order key parts fit are each

pub returns-clause-rows : goal.returns-clause-rows
returns-clause-rows c = λ key parts fit are.
    let totals = (c.in_ok-gathered.ensures.gathered key parts fit are).1.totals_are in
    let file_rows : c.in_ok-gathered.gathered.totals.file_rows < 2 ^ 32 = search rules in
    let xorb_rows : c.in_ok-gathered.gathered.totals.xorb_rows < 2 ^ 32 = search rules in
    record { file_rows = omega (arith, totals.file_rows); xorb_rows = omega (arith, totals.xorb_rows) }

pub returns-clause-parts : goal.returns-clause-parts
returns-clause-parts c = λ key parts fit are.
    let (same, held) = c.in_ok-gathered.ensures.gathered key parts fit are in
    let widths = parts_fit key parts fit in
    let holds : HoldAll c.in_ok-gathered.gathered.cursors.items c.in_ok-merge.merge = subst (λ cs. HoldAll cs c.in_ok-merge.merge) c.as_slice.ensures.value c.in_ok-merge.ensures.held in
    let version = c.in_ok-gathered.ensures.version key parts fit are in
    subst (λ bytes. Fills bytes c.args.out.now c.put_at_front-size.new.out c.put_at_front-size.result) (λ i. layout_of (files_in parts) (xorbs_in parts) (options_under (version i) (same i)))
    (c.put_at_front-size.ensures.parts parts held widths (returns-clause-rows c key parts fit are) (c.in_ok-info.ensures.info parts held widths) holds)
