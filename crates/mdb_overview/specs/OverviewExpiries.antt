-- When shards expire.
use Rattle.std.specs.Prelude.{◌≡◌, ℕ, ◌/◌, ◌==◌, Bool, false, List, count_by}
use Rattle.std.specs.Prelude.{Option, Some, None, is_none, if◌then◌else◌}
use Rattle.mdb_report.specs.ExpiryReport.{expiry_in, has_come}
use Rattle.mdb_report.specs.declared.brief.Brief.{Brief}
use Rattle.mdb_overview.specs.Counts.{up_to_u64, count_in, saturating_count}
use Rattle.mdb_overview.specs.declared.expiries.Expiries.{Expiries}

-- the expiry of a shard
abbrev pub shard_expiry : Brief → Option ℕ
shard_expiry shard = expiry_in shard.expires.seconds

-- whether an expiry is on a day, which has 86400 seconds
abbrev pub is_on : ℕ → Option ℕ → Bool
is_on day None = false
is_on day (Some expiry) = expiry / 86400 == day

-- whether the expiry of a shard has come by a time, if one is given
abbrev pub has_expired : Option ℕ → Brief → Bool
has_expired None shard = false
has_expired (Some now) shard = has_come (shard_expiry shard) now

-- how many of the shards expire on each day, how many never, and how many have by a time
pub record ExpireAs (shards : List Brief) (now : Option ℕ) (expiries : Expiries) : Type 0 where
  pub days : (day : ℕ) → count_in expiries.by_day day
      ≡ up_to_u64 (count_by (λ s. is_on day (shard_expiry s)) shards)
  pub without : expiries.without ≡ up_to_u64 (count_by (λ s. is_none (shard_expiry s)) shards)
  pub expired : expiries.expired ≡ up_to_u64 (count_by (has_expired now) shards)

-- a shard was counted
pub record AddsExpiry (shard : Brief) (now : Option ℕ) (old new : Expiries) : Type 0 where
  pub days : (day : ℕ) → count_in new.by_day day
      ≡ saturating_count (count_in old.by_day day) (if is_on day (shard_expiry shard) then 1 else 0)
  pub without : new.without ≡ saturating_count old.without (if is_none (shard_expiry shard) then 1 else 0)
  pub expired : new.expired ≡ saturating_count old.expired (if has_expired now shard then 1 else 0)
