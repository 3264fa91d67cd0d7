use Rattle.std.proofs.Common.{ap, ap₂, ◌∙◌}
use Rattle.xet_base.specs.KeyedHash.{digest, state_after, keyed_bytes}
use Rattle.xet_base.proofs.keyed_hash.keyed_bytes.Goals as goal

pub returns : goal.returns
unfolding keyed_bytes
returns c =
    c.digest.ensures ∙ ap digest (c.words_in.ensures ∙ c.compress.ensures ∙ ap₂ (state_after 7) c.initial_state.ensures c.message_of.ensures)
