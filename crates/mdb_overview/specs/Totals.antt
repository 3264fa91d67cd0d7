-- Sums over shards.
use Rattle.std.specs.Prelude.{◌≡◌, ℕ, ◌-◌, ◌^◌, List, length, sum_by, unwrap_or, is_some}
use Rattle.std.specs.Prelude.{Option, Some, None, if◌then◌else◌}
use Rattle.std.specs.List.{list_all}
use Rattle.std.specs.List.Sorted.{IsNonDecreasingBy}
use Rattle.mdb_report.specs.declared.brief.Brief.{Brief}
use Rattle.mdb_report.specs.declared.brief.Total.{Total}
use Rattle.mdb_overview.specs.Counts.{up_to_u64}

-- the sum of a number over shards
abbrev pub sum_over : (Brief → ℕ) → List Brief → ℕ
sum_over number shards = up_to_u64 (sum_by number shards)

-- the sum of a number that is known of each shard
abbrev pub known_sum : (Brief → Option ℕ) → List Brief → Option ℕ
known_sum number shards =
    if list_all (λ s. is_some (number s)) shards
    then Some (sum_over (λ s. unwrap_or (number s) 0) shards)
    else None

-- the sums over shards
pub record AreSums (shards : List Brief) (total : Total) : Type 0 where
  pub count : total.shards ≡ up_to_u64 (length shards)
  pub bytes : total.bytes ≡ sum_over (λ s. s.bytes) shards
  pub files : total.files ≡ known_sum (λ s. s.files) shards
  pub xorbs : total.xorbs ≡ known_sum (λ s. s.xorbs) shards
  pub chunks : total.chunks ≡ known_sum (λ s. s.chunks) shards
  pub stored : total.stored_bytes ≡ sum_over (λ s. s.stored_bytes) shards
  pub materialized : total.materialized_bytes ≡ sum_over (λ s. s.materialized_bytes) shards

-- how many bytes a shard has less than the greatest number
abbrev pub bytes_left : Brief → ℕ
bytes_left shard = 2 ^ 64 - 1 - shard.bytes

-- no shard has more bytes than one before it
abbrev pub DescendBySize : List Brief → Type 0
DescendBySize shards = IsNonDecreasingBy bytes_left shards
