use Rattle.std.proofs.Common.{flat_map, ap, ◌∙◌}
use Rattle.xet_base.specs.Bytes.{u32_bytes}
use Rattle.xet_base.specs.Blake3.{root_flag, tree_words, blake3_bytes}
use Rattle.xet_base.proofs.Blake3.{whole_tree}
use Rattle.xet_base.proofs.keyed_hash.tree.blake3_bytes.Goals as goal

pub returns : goal.returns
unfolding blake3_bytes
returns c =
    c.words_as_bytes.ensures ∙ ap (flat_map u32_bytes) (c.tree_words.ensures ∙ whole_tree c.words_of.result c.level_for-level.result c.args.bytes.now c.level_for-level.ensures.level c.level_for-level.ensures.room ∙ ap (λ k. tree_words k 54 0 root_flag c.args.bytes.now) c.words_of.ensures)
