use Rattle.xet_base.proofs.keyed_hash.tree.+tree_words.Given as goal

abbrev pub decreases-tree_words : goal.decreases-tree_words
decreases-tree_words l = l.level
