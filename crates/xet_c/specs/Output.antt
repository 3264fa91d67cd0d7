-- What a call returns, and leaves in the caller's memory.
use Rattle.std.specs.Prelude.{◌≡◌, ◌⊎◌, ℕ, ◌+◌, ◌<◌, ◌≤◌, List, length, ◌++◌, drop, slice_range}
use Rattle.xet_core_structures.specs.declared.error.CoreError.{CoreError}
use Rattle.xet_core_structures.specs.declared.error.CoreError.TheVariants.{InvalidArguments}
use Rattle.xet_core_structures.specs.Errors.{variant_number}

-- items were written to the front of an output, and what is behind them stays; or they do not fit,
-- the answer is 19, and the output stays; in both cases their number is returned
abbrev pub Delivers : {X : Type 0} → List X → (old new : List X) → (written answer : ℕ) → Type 0
Delivers items old new written answer =
    (written ≡ length items)
    × (((answer ≡ 0) × (length items ≤ length old) × (new ≡ items ++ drop (length items) old))
    ⊎ ((answer ≡ 19) × (length old < length items) × (new ≡ old)))

-- the number of items that were made is returned, and the answer is 0 if they fit so many, else 19
abbrev pub Answers : (room written answer size : ℕ) → Type 0
Answers room written answer size =
    (written ≡ size) × (((answer ≡ 0) × (size ≤ room)) ⊎ ((answer ≡ 19) × (room < size)))

-- the answer is the number of an error, none were written, and the output stays
abbrev pub Refuses : {X : Type 0} → CoreError → (old new : List X) → (written answer : ℕ) → Type 0
Refuses e old new written answer =
    (answer ≡ variant_number e) × (written ≡ 0) × (new ≡ old)

-- items for which `IsMade` holds were made and delivered, or there were none for a cause
abbrev pub Outcome : {X : Type 0} → (List X → Type 0) → (CoreError → Type 0) → (old new : List X)
    → (written answer : ℕ) → Type 0
Outcome {X} IsMade IsCause old new written answer =
    ((items : List X) × IsMade items × Delivers items old new written answer)
    ⊎ ((e : CoreError) × IsCause e × Refuses e old new written answer)

-- the number of all bytes is returned, and the answer is 0 if a span of so many is within them, else
-- that of invalid arguments
abbrev pub AnswersSpan : (from count size answer whole : ℕ) → Type 0
AnswersSpan from count size answer whole =
    (size ≡ whole)
    × (((answer ≡ 0) × (from + count ≤ whole))
    ⊎ ((answer ≡ variant_number InvalidArguments) × (whole < from + count)))

-- a span of bytes for which `IsMade` holds was written; or it passes their end, the answer is that of
-- invalid arguments, and the output stays; in both cases their number is returned; or there were none
-- for a cause
abbrev pub SpanOutcome : (List ℕ → Type 0) → (CoreError → Type 0) → (from : ℕ)
    → (old new : List ℕ) → (size answer : ℕ) → Type 0
SpanOutcome IsMade IsCause from old new size answer =
    ((bytes : List ℕ) × IsMade bytes × (size ≡ length bytes)
    × (((answer ≡ 0) × (from + length old ≤ length bytes)
    × (new ≡ slice_range bytes from (from + length old)))
    ⊎ ((answer ≡ variant_number InvalidArguments) × (length bytes < from + length old)
    × (new ≡ old))))
    ⊎ ((e : CoreError) × IsCause e × Refuses e old new size answer)
