-- Steps towards what `TableReading` defines, which only contracts inside the crate speak of.
use Rattle.std.specs.Prelude.{◌≡◌, ℕ, List, length}
use Rattle.xet_base.specs.Source.{Source, ReadsBytes}

-- the next row was read
pub record ReadsNextRow {T : Type 0} (row_bytes : T → List ℕ) (Fits : T → Type 0) (size : ℕ)
    (old new : Source) (row : T) : Type 0 where
  pub widths : Fits row
  pub bytes : length (row_bytes row) ≡ size
  pub taken : ReadsBytes old new (row_bytes row)
