-- Spans of byte strings: what is between two offsets.
use Rattle.std.specs.Prelude.{◌≡◌, ◌⊎◌, ℕ, ◌+◌, ◌<◌, ◌≤◌, List, [], ◌∷◌, length, slice_range, MatchResult}
use Rattle.std.specs.declared.result.Result.{Result}
use Rattle.xet_base.specs.declared.error.CoreError.{CoreError}

-- a slice was filled with the bytes from an offset on; or they pass the end, and all of it stays; in
-- both cases the number of all bytes is returned
abbrev pub FillsSpan : List ℕ → (from : ℕ) → (old new : List ℕ) → (size : ℕ) → Type 0
FillsSpan bytes from old new size =
    (size ≡ length bytes)
    × (((from + length old ≤ size) × (new ≡ slice_range bytes from (from + length old)))
    ⊎ ((size < from + length old) × (new ≡ old)))

-- a slice was filled from an offset on with bytes for which `IsMade` holds, if it does not pass their
-- end; or none were made, for a cause, and all of it stays
abbrev pub FillsSpanWith : (List ℕ → Type 0) → (CoreError → Type 0) → (from : ℕ)
    → (old new : List ℕ) → Result ℕ CoreError → Type 0
FillsSpanWith IsMade IsCause from old new result =
    MatchResult result
    (λ size. (bytes : List ℕ) × IsMade bytes × FillsSpan bytes from old new size)
    (λ e. IsCause e × (new ≡ old))

-- the spans of these sizes that follow one another from an offset on
abbrev pub spans_from : (from : ℕ) → (sizes : List ℕ) → List ℕ → List (List ℕ)
spans_from from [] bytes = []
spans_from from (size ∷ sizes) bytes =
    slice_range bytes from (from + size) ∷ spans_from (from + size) sizes bytes
