-- What is said briefly of a shard, and of some together.
use Rattle.std.specs.Prelude.{◌≡◌, ◌≢◌, ◌⊎◌, ◌↔◌, IsTrue, ℕ, ◌+◌, ◌-◌, ◌/◌, ◌^◌, ◌<◌, ◌≤◌, List, min}
use Rattle.std.specs.Prelude.{Option, Some, None}
use Rattle.xet_core_structures.specs.declared.shard_format.MDBShardInfo.{MDBShardInfo}
use Rattle.mdb_report.specs.declared.brief.Brief.{Brief}
use Rattle.mdb_report.specs.declared.brief.Total.{Total}
use Rattle.mdb_report.specs.declared.parts_bar.Parts.{Parts}
use Rattle.mdb_report.specs.PartsBar.{PartsAscend}
use Rattle.mdb_report.specs.Summary.{key_in, ArePartsOf}

-- a count is that of the rows of a table; it is not known if there are none, but a section of so many
-- bytes has room for a row of 48 bytes beside its bookend and so many other rows
abbrev pub IsCount : ℕ → ℕ → ℕ → Option ℕ → Type 0
IsCount rows bytes others None = (rows ≡ 0) × (others < bytes / 48 - 1)
IsCount rows bytes others (Some n) = (n ≡ rows) × ((rows ≢ 0) ⊎ (bytes / 48 - 1 ≤ others))

-- the brief report says what header and footer do, of the file with this name and this size
pub record SaysBriefly (info : MDBShardInfo) (file : List ℕ) (bytes : ℕ) (brief : Brief)
    : Type 0 where
  pub name : brief.shard.now ≡ file
  pub version : brief.version ≡ info.header.version
  pub size : brief.bytes ≡ bytes
  -- whether the parts that the footer says ascend within the bytes
  pub ascends : (parts : Parts) × ArePartsOf info bytes parts
      × (IsTrue brief.ascends ↔ PartsAscend parts)
  pub key : brief.key ≡ key_in info
  pub files : IsCount info.metadata.file_lookup_num_entry
      (info.metadata.xorb_info_offset - info.metadata.file_info_offset) 0 brief.files
  pub xorbs : IsCount info.metadata.xorb_lookup_num_entry
      (info.metadata.file_lookup_offset - info.metadata.xorb_info_offset) 0 brief.xorbs
  pub chunks : IsCount info.metadata.chunk_lookup_num_entry
      (info.metadata.file_lookup_offset - info.metadata.xorb_info_offset)
      info.metadata.xorb_lookup_num_entry brief.chunks
  pub expires : brief.expires.seconds ≡ info.metadata.shard_key_expiry
  pub stored : brief.stored_bytes ≡ info.metadata.stored_bytes
  pub materialized : brief.materialized_bytes ≡ info.metadata.materialized_bytes

-- a sum, as far as it is counted
abbrev pub saturating_sum : ℕ → ℕ → ℕ
saturating_sum one other = min (one + other) (2 ^ 64 - 1)

-- a sum that is known if both numbers are
abbrev pub sum_if_known : Option ℕ → Option ℕ → Option ℕ
sum_if_known (Some one) (Some other) = Some (saturating_sum one other)
sum_if_known (Some _) None = None
sum_if_known None _ = None

-- the shard was added to each sum
pub record AddsTo (brief : Brief) (old new : Total) : Type 0 where
  pub shards : new.shards ≡ saturating_sum old.shards 1
  pub bytes : new.bytes ≡ saturating_sum old.bytes brief.bytes
  pub files : new.files ≡ sum_if_known old.files brief.files
  pub xorbs : new.xorbs ≡ sum_if_known old.xorbs brief.xorbs
  pub chunks : new.chunks ≡ sum_if_known old.chunks brief.chunks
  pub stored : new.stored_bytes ≡ saturating_sum old.stored_bytes brief.stored_bytes
  pub materialized : new.materialized_bytes
      ≡ saturating_sum old.materialized_bytes brief.materialized_bytes
