-- How many rows and bytes a shard has.
use Rattle.std.specs.Prelude.{ℕ, ◌+◌, List, [], length, sum_by, slice_index_or}
use Rattle.std.specs.FinMap.{values}
use Rattle.xet_records.specs.FileRecord.{file_records}
use Rattle.xet_records.specs.XorbRecord.{xorb_records}
use Rattle.xet_shards.specs.Write.Section.{total_rows}
use Rattle.xet_shards.specs.Content.Shard.{Shard}

-- the rows of both sections of a shard, without their bookends
abbrev pub rows_of_shard : Shard → ℕ
rows_of_shard s = total_rows file_records (values s.files) + total_rows xorb_records (values s.xorbs)

-- the bytes of the inputs at these indices, an input that is named twice counted twice
abbrev pub bytes_at : List (List ℕ) → List ℕ → ℕ
bytes_at inputs indices = sum_by (λ i. length (slice_index_or inputs i [])) indices
