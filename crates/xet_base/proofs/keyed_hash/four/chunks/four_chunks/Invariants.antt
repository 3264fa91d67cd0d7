use Rattle.std.proofs.Common.{◌≡◌, ℕ, ◌+◌, ◌<◌, [], ◌∷◌, slice_index_or}
use Rattle.xet_base.specs.Blake3.{after_blocks}
use Rattle.xet_base.specs.Steps.Lanes.{lane_of_eight}
use Rattle.xet_base.proofs.keyed_hash.four.chunks.four_chunks.Given as goal

abbrev pub invariant-loop-n : goal.invariant-loop-n
invariant-loop-n l =
    (j : ℕ) → j < 4 → lane_of_eight j l.words
    ≡ after_blocks l.key (l.t + j) (slice_index_or (l.a ∷ l.b ∷ l.c ∷ l.d ∷ []) j []) l.n
