-- Steps towards marks at the starts of files.
use Rattle.std.specs.Prelude.{◌≡◌, ◌↔◌, true, IsTrue, List, All}
use Rattle.std.specs.Ordering.{is_lt}
use Rattle.xet_shards.specs.declared.streaming_shard.file_start.FileStart.{FileStart}
use Rattle.xet_shards.specs.StreamingShard.MinimalShard.{start_cmp, has_start}

-- the starts of a list before some start
pub record AreStartsBefore (end : FileStart) (starts front : List FileStart) : Type 0 where
  pub before : All (λ s. is_lt (start_cmp s end) ≡ true) front
  pub are : (s : FileStart) → IsTrue (has_start front s)
      ↔ (IsTrue (has_start starts s) × (is_lt (start_cmp s end) ≡ true))
