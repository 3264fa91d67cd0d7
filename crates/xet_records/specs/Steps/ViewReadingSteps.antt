-- Steps towards what `ViewReading` defines, which only contracts inside the crate speak of.
use Rattle.std.specs.Prelude.{◌≡◌, ℕ, ◌*◌, ◌≤◌, List, ◌++◌, length}
use Rattle.xet_base.specs.declared.error.CoreError.{CoreError}
use Rattle.xet_base.specs.declared.error.CoreError.TheVariants.{OutOfMemory}

-- so many rows were read, and are the bytes after these
pub record AddsRows (Took : List ℕ → Type 0) (count : ℕ) (first bytes : List ℕ) : Type 0 where
  pub added : List ℕ
  pub size : length added ≡ 48 * count
  pub taken : Took added
  pub bytes_are : bytes ≡ first ++ added

-- memory ran out when so many rows or fewer were read
pub record LacksMemory (Took : List ℕ → Type 0) (count : ℕ) (e : CoreError) : Type 0 where
  pub added : List ℕ
  pub size : length added ≤ 48 * count
  pub taken : Took added
  pub memory : e ≡ OutOfMemory
