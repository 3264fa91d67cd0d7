use Rattle.std.proofs.Common.{map, ap, ◌∙◌}
use Rattle.xet_c.specs.Arguments.{c_hash}
use Rattle.xet_c.proofs.Outcomes.{run_at_said}
use Rattle.xet_c.proofs.query.run_at.Goals as goal

pub returns : goal.returns
returns c =
    run_at_said c.args.shard.now c.args.hashes.now c.as_slice.result.now c.args.row c.args.index c.query_at.result (ap (map c_hash) c.as_slice.ensures.value ∙ c.in_ok-hashes.ensures.ok)
    c.query_at.ensures.any_bytes c.query_at.ensures.written
