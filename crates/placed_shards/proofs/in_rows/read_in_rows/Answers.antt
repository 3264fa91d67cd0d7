use Rattle.std.proofs.Common.{◌≡◌, inr, ◌*◌, None, drop, refl, true≢false, sym, ap, ◌∙◌, subst, arith}
use Rattle.std.specs.Prelude.{MatchResult}
use Rattle.xet_records.specs.RecordKind.{in_version}
use Rattle.placed_shards.specs.Steps.InRows.{NotRead, RowsFollow}
use Rattle.placed_shards.proofs.InRows.{no_start, no_end, rows_taken}
use Rattle.placed_shards.proofs.in_rows.read_in_rows.Goals as goal

pub returns-then-not-may_start : goal.returns-then-not-may_start
returns-then-not-may_start g c =
    inr (
      refl,
      no_start g.P.PlacedRecord.kind c.laws.ensures.laws c.args.version c.args.range.now c.args.section.now c.args.first c.args.end
          (λ starts. true≢false (sym (c.may_start.ensures.1 starts) ∙ c.if-not-may_start.true)),
    )

pub returns-then-not-may_end : goal.returns-then-not-may_end
returns-then-not-may_end g c =
    inr (
      refl,
      no_end g.P.PlacedRecord.kind c.laws.ensures.laws c.args.version c.args.range.now c.args.section.now c.args.first c.args.end
          (λ ends. true≢false (sym (c.may_end.ensures.1 ends) ∙ c.if-not-may_end.true)),
    )

pub returns : goal.returns
returns g c =
    let K = g.P.PlacedRecord.kind in
    let starts = c.may_start.ensures.0 c.if-not-may_start.false in
    let count = c.from-count.result in
    let there : c.bytes_from-rows.result.now ≡ drop (48 * c.args.first) c.args.section.now = ◌∙◌ {b = drop c.offset_of.result c.args.section.now} c.bytes_from-rows.ensures (ap (λ n. drop n c.args.section.now) c.offset_of.ensures) in
    rows_taken K c.laws.ensures.laws c.args.version c.args.range.now c.args.section.now c.args.first c.args.end starts (c.may_end.ensures.0 c.if-not-may_end.false) (omega arith) count (omega (arith, starts.0, c.from-count.ensures)) (λ records. records.items) c.take_rows.result
    (subst (λ rows. MatchResult c.take_rows.result (λ records. RowsFollow (in_version K c.args.version) c.args.range.now None count rows records.items) (NotRead (RowsFollow (in_version K c.args.version) c.args.range.now None count rows)))
    there c.take_rows.ensures)
