-- Shards with their chunk hashes under a key.
use Rattle.std.specs.Prelude.{List, map}
use Rattle.std.specs.FinMap.{entries, from_sorted}
use Rattle.xet_base.specs.declared.merklehash.DataHash.{DataHash}
use Rattle.xet_records.specs.declared.xorb_structs.MDBXorbInfo.{MDBXorbInfo}
use Rattle.xet_shards.specs.Content.Shard.{Shard}
use Rattle.xet_shards.specs.Export.KeyedExport.{keyed_xorb}

-- entries with the chunk hashes of each xorb under a key
abbrev pub keyed_entries : DataHash → List (DataHash × MDBXorbInfo) → List (DataHash × MDBXorbInfo)
keyed_entries key es = map (λ e. (e.0, keyed_xorb key e.1)) es

-- the same files, and the same xorbs with their chunk hashes under a key
abbrev pub keyed_shard : DataHash → Shard → Shard
keyed_shard key s = record s { xorbs = from_sorted (keyed_entries key (entries s.xorbs)) }
