-- The expiry of a shard's bytes.
use Rattle.std.specs.Prelude.{◌≡◌, ℕ, ◌-◌, List, ◌++◌, length, take}
use Rattle.xet_core_structures.specs.declared.shard_format.MDBShardInfo.{MDBShardInfo}
use Rattle.xet_core_structures.specs.Ends.{HasHeaderAndFooter}
use Rattle.xet_core_structures.specs.Layout.{shard_footer_bytes}

-- the bytes have a header and a footer, and of the others only the expiry in the footer is new
pub record HasNewExpiry (expiry : ℕ) (bytes changed : List ℕ) : Type 0 where
  pub info : MDBShardInfo
  pub ends : HasHeaderAndFooter bytes info
  pub changed_is : changed
      ≡ take (length bytes - 200) bytes
      ++ shard_footer_bytes (record info.metadata { shard_key_expiry = expiry })
