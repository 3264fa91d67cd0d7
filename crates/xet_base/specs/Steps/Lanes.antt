-- States of the keyed hash as vectors: one state as four rows, and four side by side.
use Rattle.std.specs.Prelude.{ℕ, List, [], ◌∷◌, slice_index, slice_index_or}

-- the words of four rows
abbrev pub words_in : List ℕ × List ℕ × List ℕ × List ℕ → List ℕ
words_in rows =
    slice_index rows.0 0 ∷ slice_index rows.0 1 ∷ slice_index rows.0 2 ∷ slice_index rows.0 3
    ∷ slice_index rows.1 0 ∷ slice_index rows.1 1 ∷ slice_index rows.1 2 ∷ slice_index rows.1 3
    ∷ slice_index rows.2 0 ∷ slice_index rows.2 1 ∷ slice_index rows.2 2 ∷ slice_index rows.2 3
    ∷ slice_index rows.3 0 ∷ slice_index rows.3 1 ∷ slice_index rows.3 2 ∷ slice_index rows.3 3 ∷ []

-- word k of the state in lane j
abbrev pub lane_at : List (List ℕ) → ℕ → ℕ → ℕ
lane_at vectors k j = slice_index (slice_index_or vectors k []) j

-- the state in lane j of vectors, each of which has one word of four states
abbrev pub lane : ℕ → List (List ℕ) → List ℕ
lane j vectors =
    lane_at vectors 0 j ∷ lane_at vectors 1 j ∷ lane_at vectors 2 j ∷ lane_at vectors 3 j
    ∷ lane_at vectors 4 j ∷ lane_at vectors 5 j ∷ lane_at vectors 6 j ∷ lane_at vectors 7 j
    ∷ lane_at vectors 8 j ∷ lane_at vectors 9 j ∷ lane_at vectors 10 j ∷ lane_at vectors 11 j
    ∷ lane_at vectors 12 j ∷ lane_at vectors 13 j ∷ lane_at vectors 14 j ∷ lane_at vectors 15 j ∷ []

-- the eight words in lane j of eight vectors
abbrev pub lane_of_eight : ℕ → List (List ℕ) → List ℕ
lane_of_eight j vectors =
    lane_at vectors 0 j ∷ lane_at vectors 1 j ∷ lane_at vectors 2 j ∷ lane_at vectors 3 j
    ∷ lane_at vectors 4 j ∷ lane_at vectors 5 j ∷ lane_at vectors 6 j ∷ lane_at vectors 7 j ∷ []
