use Rattle.std.proofs.Common.{◌≡◌, ◌+◌, ◌++◌, List, ℕ, length, take, flat_map}
use Rattle.std.specs.Prelude.{sum_by}
use Rattle.shard_concatenation.specs.Steps.SpansSteps.{HoldsSpan}
use Rattle.shard_concatenation.proofs.spans.put_rows_within.Given as goal

abbrev pub invariant-loop-section : goal.invariant-loop-section
invariant-loop-section l = (l.end ≡ l.at + sum_by (λ s. length s.rows.now) (take l.section-index l.sections))
    × ((before : List ℕ) → l.at ≡ length before → HoldsSpan l.from before l.fn.out → HoldsSpan l.from (before ++ flat_map (λ s. s.rows.now) (take l.section-index l.sections)) l.out)
