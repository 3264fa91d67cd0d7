use Rattle.std.proofs.Common.{◌≡◌, suc, ◌+◌, ◌-◌, ◌*◌, ◌<◌, length, take, drop, flat_map, sym, ap, ◌∙◌, subst, arith}
use Rattle.std.specs.Prelude.{map}
use Rattle.xet_records.specs.FileRow.{hash_row, clear}
use Rattle.xet_shards.specs.Write.Puts.{Puts}
use Rattle.xet_shards.proofs.Write.Puts.{puts_then}
use Rattle.placed_shards.proofs.Filling.{next_cleared}
use Rattle.placed_shards.proofs.putting.put_cleared.Goals as goal

pub loop-i-preserved : goal.loop-i-preserved
loop-i-preserved c = (
  omega (arith, c.loop-i.invariant.0, c.put_cleared_row-end.ensures.end),
  λ stored rest fit len rows_are.
      let i = c.loop-i.i in
      let within : i < length stored = omega (arith, len) in
      let next = next_cleared stored rest c.args.rows.now i fit within rows_are in
      let before = c.loop-i.invariant.1 stored rest fit len rows_are in
      let size : 48 * i + 48 - 48 * i ≡ 48 = omega arith in
      let one : suc i ≡ i + 1 = omega arith in
      subst (Puts c.args.out.now c.put_cleared_row-end.new.out c.args.at c.put_cleared_row-end.result) (sym next.more ∙ ap (λ n. flat_map hash_row (map clear (take n stored))) one)
      (puts_then c.args.out.now c.loop-i.out c.put_cleared_row-end.new.out c.args.at c.loop-i.end c.put_cleared_row-end.result _ _ before
      (c.put_cleared_row-end.ensures.bytes next.row next.fits (ap (λ n. take n (drop (48 * i) c.args.rows.now)) size ∙ next.is))),
)
