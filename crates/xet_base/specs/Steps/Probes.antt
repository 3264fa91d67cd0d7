-- The rows that a search probes. Rows are counted from 1; `low` and `high` are the rows around
-- those that may still have the key.
use Rattle.std.specs.Prelude.{◌≡◌, ◌⊎◌, ℕ, ◌+◌, ◌-◌, ◌*◌, ◌/◌, ◌^◌, ◌<◌, ◌≤◌, min, max}
use Rattle.xet_base.specs.declared.interpolation_search.window.Window.{Window}
use Rattle.xet_base.specs.Search.Table.{Table, even_step, IsEven}

-- where the key is if keys rise evenly from row `low` to row `high`; neither of the two
unfoldable pub guess_of : ℕ → ℕ → ℕ → ℕ → ℕ → ℕ
guess_of low low_key high high_key key =
    min (max (low + (key - low_key) * (high - low) / (high_key - low_key)) (low + 1)) (high - 1)

-- the key is between the keys of two rows, which differ
pub record IsBetweenKeys (low low_key high high_key key : ℕ) : Type 0 where
  pub rows : low < high
  pub below : low_key ≤ key
  pub above : key ≤ high_key
  pub apart : low_key < high_key

-- the key is between the keys of the rows at the two ends of a window, which differ
abbrev pub AroundKey : Window → ℕ → Type 0
AroundKey w key = IsBetweenKeys w.low w.low_key w.high w.high_key key

-- the next probe below a probed row: the guess, or where that is nearer, a step of 256 rows, as far
-- as row `low` + 1
pub record AfterBelow (low probe guess next : ℕ) : Type 0 where
  pub step : probe < guess + 256 → next ≡ probe - min 256 (probe - (low + 1))
  pub far : guess + 256 ≤ probe → next ≡ guess

-- the next probe above a probed row: the guess, or where that is nearer, a step of 256 rows, as far
-- as row `high` - 1
pub record AfterAbove (high probe guess next : ℕ) : Type 0 where
  pub step : guess ≤ probe + 256 → next ≡ min (probe + 256) (high - 1)
  pub far : probe + 256 < guess → next ≡ guess

-- all rows of a table, between a row of key 0 and a row of the greatest key
pub record IsWhole (rows key : ℕ) (w : Window) : Type 0 where
  pub low : w.low ≡ 0
  pub low_key : w.low_key ≡ 0
  pub high : w.high ≡ rows + 1
  pub high_key : w.high_key ≡ 2 ^ 64 - 1
  pub probe : w.probe ≡ guess_of 0 0 (rows + 1) (2 ^ 64 - 1) key

-- the probed row has a greater key
pub record NarrowsBelow (w : Window) (key found : ℕ) (new : Window) : Type 0 where
  pub low : new.low ≡ w.low
  pub low_key : new.low_key ≡ w.low_key
  pub high : new.high ≡ w.probe
  pub high_key : new.high_key ≡ found
  pub fits : found < 2 ^ 64
  pub probe : AfterBelow w.low w.probe (guess_of w.low w.low_key w.probe found key) new.probe

-- the probed row has a smaller key
pub record NarrowsAbove (w : Window) (key found : ℕ) (new : Window) : Type 0 where
  pub low : new.low ≡ w.probe
  pub low_key : new.low_key ≡ found
  pub high : new.high ≡ w.high
  pub high_key : new.high_key ≡ w.high_key
  pub probe : AfterAbove w.high w.probe (guess_of w.probe found w.high w.high_key key) new.probe

-- the probed row has the key
pub record NarrowsEqual (w new : Window) : Type 0 where
  pub low : new.low ≡ w.low
  pub low_key : new.low_key ≡ w.low_key
  pub high : new.high ≡ w.probe
  pub high_key : new.high_key ≡ w.high_key
  pub probe : new.probe ≡ w.probe - min 4 (w.probe - (w.low + 1))

-- what is left once the probed row's key was found
pub record Narrows (w : Window) (key found : ℕ) (new : Window) : Type 0 where
  pub below : key < found → NarrowsBelow w key found new
  pub above : found < key → NarrowsAbove w key found new
  pub equal : found ≡ key → NarrowsEqual w new

-- on an even table the first guess is at most one row off: nothing was probed; the key was found,
-- or a row a little below it; or few rows are left
abbrev pub OnEven : Table → ℕ → Window → ℕ → Type 0
OnEven t key w made =
    ((made ≡ 0) × IsWhole t.rows key w)
    ⊎ (((made ≡ 1) × (key ≡ w.high * even_step t.rows) × (w.probe + 4 ≡ w.high))
    ⊎ (((made ≡ 1) × (w.probe ≡ w.low + 256) × (key < (w.low + 2) * even_step t.rows))
    ⊎ ((made ≤ 2) × (w.high ≤ w.low + 256))))

-- if `OnEven` holds of a window, and `high` is more than 256 rows above `low`, then it holds again
-- after one more probe, which found the key of its row
abbrev pub KeepsEven : Window → ℕ → ℕ → Window → Type 0
KeepsEven w key found new =
    (t : Table) → (made : ℕ) → IsEven t → w.low + 256 < w.high → found ≡ w.probe * even_step t.rows
    → OnEven t key w made → OnEven t key new (made + 1)
