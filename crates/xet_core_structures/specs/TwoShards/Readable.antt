-- Bytes of a shard in which lookups find its records as they are.
use Rattle.std.specs.Prelude.{◌≡◌, ℕ, List, All, Option}
use Rattle.std.specs.FinMap.{FinMap, entries, values}
use Rattle.std.specs.Io.KnownBytes.{Appends}
use Rattle.xet_base.specs.declared.merklehash.DataHash.{DataHash}
use Rattle.xet_base.specs.Hash.{hash_cmp}
use Rattle.xet_records.specs.RecordKind.{RecordKind}
use Rattle.xet_records.specs.FileRecord.{file_records}
use Rattle.xet_records.specs.XorbRecord.{xorb_records}
use Rattle.xet_shards.specs.declared.shard_format.ends.info.MDBShardInfo.{MDBShardInfo}
use Rattle.xet_shards.specs.Ends.Ends.{HasHeaderAndFooter}
use Rattle.xet_shards.specs.Write.WithOptions.{FitsSection, Ascends, IsBytesWithOptions}
use Rattle.xet_shards.specs.Content.Shard.{Shard}
use Rattle.xet_shards.specs.Write.Tables.{hash_in}
use Rattle.xet_core_structures.specs.TwoShards.ByteResults.{keyed_options, key_of, HaveResult}

-- the records of a map, each under its hash, may be written as a section, and reading it returns
-- them as they are
pub record AreReadable {H R : Type 0} (K : RecordKind H R) (m : FinMap hash_cmp R) : Type 0 where
  pub keyed : All (λ e. e.0 ≡ hash_in K e.1) (entries m)
  pub fits : FitsSection K (values m)
  pub unchanged : All (λ r. K.as_read r ≡ r) (values m)

-- the bytes of a shard under a key, with all tables, and the header and the footer in them
pub record IsBytesUnderKey (key : DataHash) (s : Shard) (bytes : List ℕ) (info : MDBShardInfo)
    : Type 0 where
  pub files : AreReadable file_records s.files
  pub xorbs : AreReadable xorb_records s.xorbs
  pub files_ascend : Ascends file_records (values s.files)
  pub xorbs_ascend : Ascends xorb_records (values s.xorbs)
  pub with_options : IsBytesWithOptions (values s.files) (values s.xorbs) (keyed_options key) bytes info.metadata
  pub ends : HasHeaderAndFooter bytes info

-- bytes of the result for two inputs were written, under their key and with all tables, and the
-- header and the footer in them returned
abbrev pub WritesReadable : (Shard → Shard → Shard → Type 0) → List ℕ → MDBShardInfo → List ℕ
    → MDBShardInfo → Option (List ℕ) → Option (List ℕ) → MDBShardInfo → Type 0
WritesReadable IsResult x i y j old new info =
    (c : Shard) × (bytes : List ℕ) × HaveResult IsResult x i y j c
    × IsBytesUnderKey (key_of i) c bytes info × Appends old new bytes
