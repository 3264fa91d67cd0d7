-- What bytes hold, to an operation that reads both sections of a shard at the offsets of a footer.
use Rattle.std.specs.Prelude.{◌≡◌, ◌⊎◌, ℕ, ◌+◌, ◌*◌, ◌≤◌, List, [], ◌∷◌, ◌++◌, map, drop, All}
use Rattle.std.specs.FinMap.{FinMap, entries, values}
use Rattle.xet_base.specs.declared.merklehash.DataHash.{DataHash}
use Rattle.xet_base.specs.Hash.{hash_cmp}
use Rattle.xet_base.specs.Source.{Source}
use Rattle.xet_records.specs.declared.file_structs.MDBFileInfo.{MDBFileInfo}
use Rattle.xet_records.specs.declared.xorb_structs.MDBXorbInfo.{MDBXorbInfo}
use Rattle.xet_records.specs.RecordKind.{RecordKind}
use Rattle.xet_records.specs.FileRecord.{file_records}
use Rattle.xet_records.specs.XorbRecord.{xorb_records}
use Rattle.xet_shards.specs.declared.shard_format.ends.info.MDBShardInfo.{MDBShardInfo}
use Rattle.xet_shards.specs.Ends.Ends.{HasHeaderAndFooter}
use Rattle.xet_shards.specs.Write.WithOptions.{Ascends}
use Rattle.xet_shards.specs.Write.Section.{total_rows}
use Rattle.xet_shards.specs.Content.Shard.{Shard, IsShard}
use Rattle.xet_shards.specs.Read.SectionReading.{files_of, HoldsRecords, IsSection, IsRefusedSection, IsTruncatedSection, BeginsRefused, EndsEarly, rows_left}
use Rattle.xet_records.specs.Limits.{MAX_ROWS}

module _ {H R : Type 0} (K : RecordKind H R) where
  -- a reader of a section finds at most one list of records in the bytes, and none if they are cut
  -- short or have a header that is refused; they are not both
  pub record IsReadInOneWay (bytes : List ℕ) : Type 0 where
    pub list : (xs ys : List R) → IsSection K bytes xs → IsSection K bytes ys → xs ≡ ys
    pub cut : (xs : List R) → IsSection K bytes xs → ¬ IsTruncatedSection K bytes
    pub passes : (xs : List R) → IsSection K bytes xs → ¬ IsRefusedSection K bytes
    pub either : IsTruncatedSection K bytes → ¬ IsRefusedSection K bytes

  -- the records may be written as a section whose hashes strictly ascend
  pub record AreWritable (rs : List R) : Type 0 where
    pub stored : All K.IsStored rs
    pub ascends : Ascends K rs
    pub rows : total_rows K rs ≤ MAX_ROWS

  -- the bytes begin with those of records whose hashes strictly ascend, and then come others
  pub record BeginsInOrder (bytes : List ℕ) (stored : List R) (rest : List ℕ) : Type 0 where
    pub records : HoldsRecords K bytes stored rest
    pub ascends : Ascends K stored

  -- the bytes begin with those of records whose hashes strictly ascend, and then come too few
  abbrev pub IsTruncatedInOrder : List ℕ → Type 0
  IsTruncatedInOrder bytes =
      (stored : List R) × (rest : List ℕ) × BeginsInOrder bytes stored rest
      × EndsEarly K (rows_left K stored) rest

  -- the bytes begin with those of records whose hashes strictly ascend, and then comes a header
  -- that is refused
  abbrev pub IsRefusedInOrder : List ℕ → Type 0
  IsRefusedInOrder bytes =
      (stored : List R) × (rest : List ℕ) × BeginsInOrder bytes stored rest
      × BeginsRefused K (rows_left K stored) rest

  -- the bytes begin with those of records whose hashes strictly ascend, and then comes a whole
  -- record whose hash is not greater
  pub record DescendsInOrder (bytes : List ℕ) : Type 0 where
    pub stored : List R
    pub last : R
    pub rest : List ℕ
    pub records : HoldsRecords K bytes (stored ++ last ∷ []) rest
    pub ascends : Ascends K stored
    pub falls : ¬ Ascends K (stored ++ last ∷ [])

  -- after records whose hashes strictly ascend, a header is refused, or a hash is not greater
  abbrev pub IsMalformedSection : List ℕ → Type 0
  IsMalformedSection bytes = IsRefusedInOrder bytes ⊎ DescendsInOrder bytes

-- the bytes are a section whose hashes strictly ascend: this is the map of its records, as reading
-- returns them
pub record IsSectionOf {H R : Type 0} (K : RecordKind H R) (bytes : List ℕ) (m : FinMap hash_cmp R)
    : Type 0 where
  pub stored : List R
  pub section : IsSection K bytes stored
  pub returned : map K.as_read stored ≡ values m
  pub keyed : All (λ e. e.0 ≡ K.hash_of (K.header_of e.1)) (entries m)

-- the bytes from the file section on
abbrev pub files_at : List ℕ → MDBShardInfo → List ℕ
files_at bytes info = drop info.metadata.file_info_offset bytes

-- the bytes from the xorb section on
abbrev pub xorbs_at : List ℕ → MDBShardInfo → List ℕ
xorbs_at bytes info = drop info.metadata.xorb_info_offset bytes

-- the bytes have both sections of this shard
pub record Holds (bytes : List ℕ) (info : MDBShardInfo) (s : Shard) : Type 0 where
  pub files : IsSectionOf (files_of info) (files_at bytes info) s.files
  pub xorbs : IsSectionOf xorb_records (xorbs_at bytes info) s.xorbs

-- the bytes hold this shard: they have a header and a footer, and the footer leads to both
-- sections; nothing is said of tables, timestamps and sums
pub record HasShard (s : Shard) (bytes : List ℕ) : Type 0 where
  pub info : MDBShardInfo
  pub ends : HasHeaderAndFooter bytes info
  pub holds : Holds bytes info s

-- the bytes hold this shard, which is well-formed, and their footer has this key
pub record HoldsShard (key : DataHash) (s : Shard) (bytes : List ℕ) : Type 0 where
  pub shard : IsShard s
  pub has : HasShard s bytes
  pub under : has.info.metadata.chunk_hash_hmac_key ≡ key

-- the file section is whole, and its hashes strictly ascend
abbrev pub HasFiles : List ℕ → MDBShardInfo → Type 0
HasFiles bytes info =
    (files : List MDBFileInfo) × IsSection (files_of info) (files_at bytes info) files
    × Ascends file_records files

-- of all that is wrong with the bytes, what reading meets first is that they end before the bookend
-- of a section
abbrev pub IsTruncated : List ℕ → MDBShardInfo → Type 0
IsTruncated bytes info =
    IsTruncatedInOrder (files_of info) (files_at bytes info)
    ⊎ (HasFiles bytes info × IsTruncatedInOrder xorb_records (xorbs_at bytes info))

-- of all that is wrong with the bytes, what reading meets first is a header that is refused, of a
-- record with too many rows or one that the version does not have, or a hash that is not greater
-- than the one before it
abbrev pub IsMalformed : List ℕ → MDBShardInfo → Type 0
IsMalformed bytes info =
    IsMalformedSection (files_of info) (files_at bytes info)
    ⊎ (HasFiles bytes info × IsMalformedSection xorb_records (xorbs_at bytes info))

-- the bytes have both sections, and of these no more bytes were read than they have, with at most
-- two seeks
pub record ReadsOnlySections (info : MDBShardInfo) (old new : Source) : Type 0 where
  pub files : List MDBFileInfo
  pub xorbs : List MDBXorbInfo
  pub are_files : IsSection (files_of info) (files_at old.bytes info) files
  pub are_xorbs : IsSection xorb_records (xorbs_at old.bytes info) xorbs
  pub seeks : new.seeks ≤ old.seeks + 2
  pub read : new.read
      ≤ old.read + 48 * (total_rows file_records files + 1)
      + 48 * (total_rows xorb_records xorbs + 1)
