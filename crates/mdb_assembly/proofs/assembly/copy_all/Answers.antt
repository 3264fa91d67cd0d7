use Rattle.std.proofs.Common.{arith, ◌≡◌, ◌++◌, length, length-append, get_or}
use Rattle.std.proofs.KnownBytes.{Appends-trans}
use Rattle.std.proofs.lemmas.List.Sums.{sum_by_more}
use Rattle.mdb_assembly.specs.declared.runs.Extent.{Extent}
use Rattle.mdb_assembly.proofs.assembly.copy_all.Goals as goal

-- one range more
pub loop-extent-preserved : goal.loop-extent-preserved
loop-extent-preserved g c =
    let none : Extent = record { start = 0; size = 0 } in
    let extents = c.args.extents.now in
    let before = c.loop-extent.invariant in
    let next = c.in_ok-copy.ensures.copied in
    let size : length next.0 ≡ (get_or extents c.loop-extent.extent-index none).size = next.1 in
    let more =
    sum_by_more (λ (extent : Extent). extent.size) extents c.loop-extent.extent-index none
    c.loop-extent-test.true in (
      before.0 ++ next.0,
      omega (arith, length-append before.0 next.0, before.1, size, more),
      Appends-trans (g.W.Write.contents c.args.output.now) (g.W.Write.contents c.loop-extent.output)
          (g.W.Write.contents c.copy.new.output) before.0 next.0 before.2 next.2,
    )
