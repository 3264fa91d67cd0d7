-- Bytes that are put to the front of a slice, if they fit.
use Rattle.std.specs.Prelude.{◌≡◌, ◌⊎◌, ℕ, ◌<◌, ◌≤◌, List, ◌++◌, length, drop, MatchResult}
use Rattle.std.specs.declared.result.Result.{Result}
use Rattle.xet_base.specs.declared.error.CoreError.{CoreError}

-- bytes were put at the front of a slice, and what is behind them stays; or they do not fit, and
-- all of it stays; in both cases their number is returned
abbrev pub Fills : List ℕ → (old new : List ℕ) → (size : ℕ) → Type 0
Fills bytes old new size =
    (size ≡ length bytes)
    × (((size ≤ length old) × (new ≡ bytes ++ drop size old))
    ⊎ ((length old < size) × (new ≡ old)))

-- bytes for which `IsMade` holds were made, and put at the front of a slice if they fit; or none
-- were, for a cause, and all of it stays
abbrev pub FillsWith : (List ℕ → Type 0) → (CoreError → Type 0) → (old new : List ℕ)
    → Result ℕ CoreError → Type 0
FillsWith IsMade IsCause old new result =
    MatchResult result (λ size. (bytes : List ℕ) × IsMade bytes × Fills bytes old new size)
    (λ e. IsCause e × (new ≡ old))
