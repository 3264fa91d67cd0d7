use Rattle.std.proofs.Common.{ap, ◌∙◌}
use Rattle.xet_base.specs.KeyedHash.{state_after}
use Rattle.xet_base.specs.Blake3.{xor_halves, chaining_value}
use Rattle.xet_base.specs.Steps.Lanes.{lane}
use Rattle.xet_base.proofs.keyed_hash.four.chunks.chaining_value.Goals as goal

pub returns : goal.returns
unfolding chaining_value
returns c j h =
    c.xor_halves.ensures j h ∙ ap xor_halves (c.compress.ensures j h ∙ ap (λ v. state_after 7 v (lane j c.args.blocks.now)) (c.block_states.ensures j h))
