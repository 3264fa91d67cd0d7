-- How far the loops of a search have come.
use Rattle.std.specs.Prelude.{◌≡◌, ◌⊎◌, ℕ, ◌+◌, ◌-◌, ◌*◌, ◌^◌, ◌<◌, ◌≤◌, List, length, min, All}
use Rattle.xet_base.specs.declared.interpolation_search.window.Window.{Window}
use Rattle.xet_base.specs.Source.{Source, NoFailure}
use Rattle.xet_base.specs.Search.Table.{Table, row_offset, key_at, HasKey, IsSorted, hits_below, hits, Finds, IsEven}
use Rattle.xet_base.specs.Steps.SearchSteps.{IsRow, FindsFrom, Counts}
use Rattle.xet_base.specs.Steps.Probes.{guess_of, AroundKey, OnEven}

-- the results are the values of rows from `from` to before `i`, and of rows from `to` on
pub record FindsAround {V : Type 0} (t : Table) (key : ℕ) (Gives : List ℕ → V → Type 0) (from i to : ℕ) (old new : List V) (count : ℕ) : Type 0 where
  pub finds : Finds t key Gives old new count
  pub rows : All (λ hit. ((from ≤ hit.row) × (hit.row < i)) ⊎ (to ≤ hit.row)) finds.found

-- rows from `from` to before `i` were read but for the first `skip` bytes, and those with the key kept
pub record HasCollected {V : Type 0} (t : Table) (key : ℕ) (Gives : List ℕ → V → Type 0) (from i to skip : ℕ) (old new : Source)
    (results_old results : List V) (had count : ℕ) : Type 0 where
  pub no_failure : NoFailure old new
  pub at : new.at ≡ row_offset t i
  pub seeks : new.seeks ≡ old.seeks
  pub read : new.read + (row_offset t from + skip) ≡ old.read + row_offset t i
  pub finds : (before : List V) → FindsFrom t key Gives to before results_old had → FindsAround t key Gives from i to before results count
  pub counted : Counts t key from i (length results_old) had count

-- and all of them have the key
pub record Keeps {V : Type 0} (t : Table) (key : ℕ) (Gives : List ℕ → V → Type 0) (from i to : ℕ) (old new : Source)
    (results_old results : List V) (had count : ℕ) : Type 0 where
  pub collected : HasCollected t key Gives from i to 8 old new results_old results had count
  pub equal : i + hits_below t key from ≡ hits_below t key i + from

-- a turn at the probe leaves few rows, or at least 256 less than `before`
pub record Shrinks (low high probe before : ℕ) : Type 0 where
  pub down : low + 256 < probe → probe + 256 ≤ low + before
  pub up : probe + 256 < high → high + 256 ≤ probe + before

-- the probe is a guess, or a step from one end of the window
abbrev pub IsProbe : ℕ → ℕ → ℕ → ℕ → ℕ → ℕ → Type 0
IsProbe low low_key high high_key key probe = (probe ≡ guess_of low low_key high high_key key) ⊎ ((probe + 256 ≡ high) ⊎ (probe ≡ low + 256))

-- no probed row had the key; `before` rows were left one turn ago, and each turn takes 128 on average
pub record IsNarrowing (all low low_key high high_key key probe made : ℕ) : Type 0 where
  pub before : ℕ
  pub spent : 128 * made + (high - low) ≤ all + 128
  pub spent_before : 128 * made + before ≤ all + 256
  pub shrinks : low + 256 < high → Shrinks low high probe before
  pub chosen : low + 256 < high → IsProbe low low_key high high_key key probe

-- the upper end has the key; `later` rows with the key were passed, four between one probe and the next
pub record IsMatching (IsEqual : Type 0) (all later low high probe made : ℕ) : Type 0 where
  pub is_equal : IsEqual
  pub equal : ℕ
  pub spent : 128 * made ≤ all + 256 + 128 * equal
  pub matched : 4 * equal ≤ later + 3
  pub stepped : low + 256 < high → probe + 4 ≡ high

-- few rows are left
pub record HasEnded (all later low high made : ℕ) : Type 0 where
  pub small : high ≤ low + 256
  pub equal : ℕ
  pub spent : 128 * made ≤ all + 384 + 128 * equal
  pub matched : 4 * equal ≤ later + 3

-- the seeks that were made on a sorted table
abbrev pub Course : Type 0 → ℕ → ℕ → ℕ → ℕ → ℕ → ℕ → ℕ → ℕ → ℕ → Type 0
Course IsEqual all later low low_key high high_key key probe made =
    IsNarrowing all low low_key high high_key key probe made ⊎ (IsMatching IsEqual all later low high probe made ⊎ HasEnded all later low high made)

-- rows before `low` have smaller keys, as far as the bytes go
abbrev pub AllSmaller : Table → ℕ → ℕ → Type 0
AllSmaller t key low = (i : ℕ) → i < low → HasKey t i → key_at t i < key

-- what holds of the window on a sorted table
pub record OnSorted (t : Table) (key : ℕ) (w : Window) (made : ℕ) (old now : Source) (room count : ℕ) : Type 0 where
  pub smaller : AllSmaller t key w.low
  pub from_low : (i : ℕ) → w.low ≤ i → i < t.rows → HasKey t i → w.low_key ≤ key_at t i
  pub to_high : (w.high_key ≡ 2 ^ 64 - 1) ⊎ ((i : ℕ) → i + 1 < w.high → HasKey t i → key_at t i ≤ w.high_key)
  pub counted : count + hits_below t key (w.high - 1) ≡ min (hits t key) (room + hits_below t key (w.high - 1))
  pub later : ℕ
  pub left : later + hits_below t key (w.high - 1) ≡ hits t key
  pub course : Course (IsRow t key (w.high - 1)) (t.rows + 1) later w.low w.low_key w.high w.high_key key w.probe made
  pub read : now.read ≤ old.read + (made + later) * (8 + t.width)

-- the rows of the window are left; it counts rows from 1, so these are rows `low` to `high - 2` of the table
pub record Searches {V : Type 0} (t : Table) (key : ℕ) (Gives : List ℕ → V → Type 0) (w : Window) (old now : Source)
    (results_old results : List V) (count : ℕ) : Type 0 where
  pub around : AroundKey w key
  pub within : w.high ≤ t.rows + 1
  pub inside : w.low + 256 < w.high → (w.low < w.probe) × (w.probe < w.high)
  pub no_failure : NoFailure old now
  pub made : ℕ
  pub seeks : now.seeks ≡ old.seeks + made
  pub finds : FindsFrom t key Gives (w.high - 1) results_old results count
  pub sorted : IsSorted t → OnSorted t key w made old now (length results_old) count
  pub even : IsEven t → OnEven t key w made
