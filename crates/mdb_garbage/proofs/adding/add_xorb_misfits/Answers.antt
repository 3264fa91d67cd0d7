use Rattle.std.proofs.Common.{◌≡◌}
use Rattle.mdb_garbage.specs.Garbage.{IsTotal, IsStart}
use Rattle.mdb_garbage.specs.Steps.{IsFound}
use Rattle.mdb_garbage.proofs.Additions.{adds_as, adds_then}
use Rattle.mdb_garbage.proofs.adding.add_xorb_misfits.Goals as goal

pub returns : goal.returns
returns c =
    let hash = c.args.xorb.now.metadata.xorb_hash in
    let total = adds_as (IsFound hash c.total_misfit.result) (λ f. (f.xorb ≡ hash) × IsTotal c.args.xorb.now f.misfit) _ _
    (λ f is. (is.0, (c.total_misfit.ensures f.misfit).0 is.1)) (λ f is. (is.0, (c.total_misfit.ensures f.misfit).1 is.1)) c.in_ok-add_misfit.ensures in
    let start = adds_as (IsFound hash c.start_misfit.result) (λ f. (f.xorb ≡ hash) × IsStart c.args.xorb.now f.misfit) _ _
    (λ f is. (is.0, (c.start_misfit.ensures f.misfit).0 is.1)) (λ f is. (is.0, (c.start_misfit.ensures f.misfit).1 is.1)) c.in_ok-add_misfit-2.ensures in
    adds_then _ _ _ _ _ (adds_then _ _ _ _ _ total start) c.in_ok-add_segment_misfits.ensures
