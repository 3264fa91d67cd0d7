use Rattle.std.proofs.Common.{◌≡◌}
use Rattle.xet_base.specs.Blake3.{after_blocks}
use Rattle.xet_base.proofs.keyed_hash.tree.chunk_words.Given as goal

abbrev pub invariant-loop-n : goal.invariant-loop-n
invariant-loop-n l = l.words ≡ after_blocks l.key l.t l.bytes l.n
