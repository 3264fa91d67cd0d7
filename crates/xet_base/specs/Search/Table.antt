-- A table of rows in the bytes of a source, each an eight byte key and a value of one width: the
-- rows that hold a key, what a search may answer, and what it may cost.
use Rattle.std.specs.Prelude.{◌≡◌, ◌≢◌, ◌⊎◌, ◌&&◌, ◌==◌, ℕ, zero, suc, ◌+◌, ◌-◌, ◌*◌, ◌/◌, ◌^◌, ◌<◌, ◌≤◌, ◌++◌, List, length, take, drop, map, All, AllPairs, nat_le, Ok, Err, if◌then◌else◌}
use Rattle.std.specs.declared.result.Result.{Result}
use Rattle.std.specs.declared.io.Error.{Error}
use Rattle.xet_base.specs.Bytes.{u64_from_bytes}
use Rattle.xet_base.specs.declared.error.CoreError.{CoreError}
use Rattle.xet_base.specs.Errors.{IsEndOfInput, IsBareInvalidShard}
use Rattle.xet_base.specs.Source.{Source, after_read, next_bytes, FillFails, DeviceFailure}

-- the bytes of the source, the offset of the first row, the number of rows and the bytes of a value
pub record Table : Type 0 where
  pub bytes : List ℕ
  pub start : ℕ
  pub rows : ℕ
  pub width : ℕ

-- the table in the bytes of a source, by the offset of its first row, its number of rows and the
-- bytes of a value
abbrev pub table_at : Source → ℕ → ℕ → ℕ → Table
table_at source start rows width =
    record { bytes = source.bytes; start = start; rows = rows; width = width }

-- the offset of row i, counted from 0, by the offset of the first row and the bytes of a value
unfoldable pub offset_of_row : ℕ → ℕ → ℕ → ℕ
offset_of_row start width i = start + i * (8 + width)

-- the offset of row i of a table, counted from 0
abbrev pub row_offset : Table → ℕ → ℕ
row_offset t i = offset_of_row t.start t.width i

-- the key of row i, where its bytes are there
unfoldable pub key_at : Table → ℕ → ℕ
key_at t i = u64_from_bytes (take 8 (drop (row_offset t i) t.bytes))

-- the eight bytes of row i's key are there
abbrev pub HasKey : Table → ℕ → Type 0
HasKey t i = row_offset t i + 8 ≤ length t.bytes

-- the bytes of row i's value
abbrev pub value_at : Table → ℕ → List ℕ
value_at t i = take t.width (drop (row_offset t i + 8) t.bytes)

-- keys do not descend, as far as the bytes go
abbrev pub IsSorted : Table → Type 0
IsSorted t = (i j : ℕ) → i < j → j < t.rows → HasKey t j → key_at t i ≤ key_at t j

-- how many of the first n rows hold the key
unfoldable pub hits_below : Table → ℕ → ℕ → ℕ
hits_below t key zero = 0
hits_below t key (suc n) =
    hits_below t key n
    + (if nat_le (row_offset t n + 8) (length t.bytes) && (key_at t n == key) then 1 else 0)

-- how many rows of a table hold the key
abbrev pub hits : Table → ℕ → ℕ
hits t key = hits_below t key t.rows

-- the distance between keys where so many are spread evenly over 64 bits
abbrev pub even_step : ℕ → ℕ
even_step rows = (2 ^ 64 - 1) / (rows + 1)

-- keys are spread evenly over 64 bits, as far as the bytes go, and their distance is at least the
-- number of distances
pub record IsEven (t : Table) : Type 0 where
  pub wide : t.rows + 1 ≤ even_step t.rows
  pub keys : (i : ℕ) → i < t.rows → HasKey t i → key_at t i ≡ (i + 1) * even_step t.rows

-- a row, and a value that was read from it
pub record Hit (V : Type 0) : Type 0 where
  pub row : ℕ
  pub value : V

-- the row is there, has the key, and its bytes give the value
pub record IsHit {V : Type 0} (t : Table) (key : ℕ) (Gives : List ℕ → V → Type 0) (hit : Hit V)
    : Type 0 where
  pub within : hit.row < t.rows
  pub there : row_offset t (hit.row + 1) ≤ length t.bytes
  pub same_key : key_at t hit.row ≡ key
  pub gives : Gives (value_at t hit.row) hit.value

-- two rows that were read are different rows of the table
abbrev pub OtherRow : {V : Type 0} → Hit V → Hit V → Type 0
OtherRow g h = g.row ≢ h.row

-- the first `count` results are the values of so many different rows with the key, the others are
-- as before
pub record Finds {V : Type 0} (t : Table) (key : ℕ) (Gives : List ℕ → V → Type 0) (old new : List V)
    (count : ℕ) : Type 0 where
  pub found : List (Hit V)
  pub number : length found ≡ count
  pub each : All (IsHit t key Gives) found
  pub distinct : AllPairs OtherRow found
  pub written : new ≡ map (λ hit. hit.value) found ++ drop count old

-- offsets and row numbers of the table fit `u64`
pub record FitsTable (t : Table) : Type 0 where
  pub countable : t.rows + 1 < 2 ^ 64
  pub placed : row_offset t t.rows < 2 ^ 64

-- offsets or row numbers of the table do not fit `u64`
abbrev pub TableExceedsU64 : Table → Type 0
TableExceedsU64 t = (2 ^ 64 ≤ t.rows + 1) ⊎ (2 ^ 64 ≤ row_offset t t.rows)

-- a search was refused: the numbers pass 64 bits, which is found before the first seek; the device
-- failed; or there are rows, and the bytes end before the table does
abbrev pub SearchRefused : Table → Source → Source → CoreError → Type 0
SearchRefused t old new e =
    (IsBareInvalidShard e × TableExceedsU64 t × (new ≡ old))
    ⊎ (FitsTable t
    × (DeviceFailure old new e
    ⊎ ((new.failures ≡ old.failures) × IsEndOfInput e × (0 < t.rows)
    × (length old.bytes < row_offset t t.rows))))

-- the seeks made and the bytes read are within the bounds for a sorted table
pub record SearchIsBounded (t : Table) (key : ℕ) (old new : Source) : Type 0 where
  pub made : ℕ
  pub seeks : new.seeks ≡ old.seeks + made
  pub few : made ≤ (t.rows + 1) / 128 + hits t key / 4 + 8
  pub read : new.read ≤ old.read + (257 + hits t key + made) * (8 + t.width)

-- n bytes were read
pub record ReadsCount (old new : Source) (n : ℕ) : Type 0 where
  pub within : 0 < n → old.at + n ≤ length old.bytes
  pub after : new ≡ after_read old n

-- a call acts on the source as filling a slice of `width` bytes does
abbrev pub ActsAsReadFull : {V : Type 0} → ℕ → Source → Result V Error → Source → Type 0
ActsAsReadFull width old (Ok v) new = ReadsCount old new width
ActsAsReadFull width old (Err e) new = FillFails old new width e

-- some call, at a source whose next bytes are these, answers the value
abbrev pub Answers : {R V : Type 0} → (R → Source) → (R → Result V Error → R → Type 0) → ℕ → List ℕ
    → V → Type 0
Answers {R} meaning post width bytes v =
    (s : R) × (t : R) × post s (Ok v) t × (next_bytes (meaning s) width ≡ bytes)
