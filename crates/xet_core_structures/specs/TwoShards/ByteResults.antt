-- What one union or one difference of bytes writes, and why it fails.
use Rattle.std.specs.Prelude.{◌≡◌, ◌≢◌, ◌⊎◌, ℕ, ◌<◌, ◌≤◌, List, map, Contains, Option, None, Some}
use Rattle.std.specs.FinMap.{FinMap, get, values}
use Rattle.std.specs.Io.KnownBytes.{Appends}
use Rattle.xet_base.specs.declared.error.CoreError.{CoreError}
use Rattle.xet_base.specs.declared.error.CoreError.TheVariants.{InvalidArguments, OutOfMemory}
use Rattle.xet_base.specs.declared.merklehash.DataHash.{DataHash}
use Rattle.xet_base.specs.Errors.{IsEndOfInput, IsInvalidShard, IsShardVersion}
use Rattle.xet_base.specs.Hash.{hash_cmp}
use Rattle.xet_base.specs.Source.{Source, DeviceFailure}
use Rattle.xet_records.specs.declared.record_reader.FormatVersion.{FormatVersion}
use Rattle.xet_records.specs.declared.record_reader.FormatVersion.TheVariants.{V3}
use Rattle.xet_records.specs.Version.{version_of}
use Rattle.xet_records.specs.RecordKind.{RecordKind, in_version}
use Rattle.xet_records.specs.FileRecord.{file_records}
use Rattle.xet_records.specs.XorbRecord.{xorb_records}
use Rattle.xet_shards.specs.declared.shard_format.ends.info.MDBShardInfo.{MDBShardInfo}
use Rattle.xet_shards.specs.Ends.Ends.{HasHeaderAndFooter, IsUnsupported, IsTooShort}
use Rattle.xet_shards.specs.declared.shard_format.ends.options.LayoutOptions.{LayoutOptions}
use Rattle.xet_shards.specs.Write.Layout.{plain_options, layout_of, info_of}
use Rattle.xet_shards.specs.Write.Section.{total_rows}
use Rattle.xet_shards.specs.Read.SectionReading.{HoldsRecords}
use Rattle.xet_shards.specs.Content.SetOperations.{RowsFitU32}
use Rattle.xet_shards.specs.Content.Shard.{Shard}
use Rattle.xet_core_structures.specs.Records.ByteUnion.{IsEitherFile, IsEitherXorb, IsByteUnion}
use Rattle.xet_core_structures.specs.Records.RecordPairs.{Combines}
use Rattle.xet_core_structures.specs.Records.ShardContents.{IsSectionOf, files_at, xorbs_at, Holds, IsTruncated, IsMalformed}
use Rattle.xet_records.specs.Limits.{MAX_ROWS}

-- the layout options with all tables, this key, creation 0 and no expiry
abbrev pub keyed_options : DataHash → LayoutOptions
keyed_options key = record (plain_options None) { key = key }

-- the bytes of a shard under a key, with all tables, creation 0 and no expiry
abbrev pub keyed_layout : Shard → DataHash → List ℕ
keyed_layout s key = layout_of (values s.files) (values s.xorbs) (keyed_options key)

-- the header and the footer in these bytes
abbrev pub keyed_info : Shard → DataHash → MDBShardInfo
keyed_info s key = info_of (values s.files) (values s.xorbs) (keyed_options key)

-- the key in a footer
abbrev pub key_of : MDBShardInfo → DataHash
key_of info = info.metadata.chunk_hash_hmac_key

-- both inputs hold shards, under one key, and this is the result for these, with rows that fit
-- `u32`
pub record HaveResult (IsResult : Shard → Shard → Shard → Type 0) (x : List ℕ) (i : MDBShardInfo)
    (y : List ℕ) (j : MDBShardInfo) (c : Shard) : Type 0 where
  -- the shard that the first input holds
  pub first : Shard
  -- the shard that the second input holds
  pub second : Shard
  pub holds_first : Holds x i first
  pub holds_second : Holds y j second
  pub same_key : key_of i ≡ key_of j
  pub result : IsResult first second c
  -- each section of the result has at most 4294967295 rows
  pub rows : RowsFitU32 c

-- the layout of the result was written, and the header and the footer in it returned
abbrev pub WritesResult : (Shard → Shard → Shard → Type 0) → List ℕ → MDBShardInfo → List ℕ
    → MDBShardInfo → Option (List ℕ) → Option (List ℕ) → MDBShardInfo → Type 0
WritesResult IsResult x i y j old new info =
    (c : Shard) × HaveResult IsResult x i y j c × (info ≡ keyed_info c (key_of i))
    × Appends old new (keyed_layout c (key_of i))

-- two sections, each in its version, have no union within the rows of a section: they begin with
-- records whose union has more rows, or one of each that have no union under one hash
pub record HaveNoUnionOf {H R : Type 0} (K : RecordKind H R) (version_1 version_2 : FormatVersion)
    (IsEither : Option R → Option R → Option R → Type 0) (x y : List ℕ) : Type 0 where
  -- records that the first section begins with
  pub firsts : List R
  -- records that the second section begins with
  pub seconds : List R
  pub after_firsts : List ℕ
  pub after_seconds : List ℕ
  pub first : HoldsRecords (in_version K version_1) x firsts after_firsts
  pub second : HoldsRecords (in_version K version_2) y seconds after_seconds
  -- what is made of them all has too many rows, or two of them with one hash have no union
  pub clash : ((made : List R)
      × Combines K IsEither (map K.as_read firsts) (map K.as_read seconds) made
      × (MAX_ROWS < total_rows K made))
      ⊎ ((r s : R) × Contains firsts r × Contains seconds s
      × (K.hash_of (K.header_of r) ≡ K.hash_of (K.header_of s))
      × ((t : Option R) → ¬ IsEither (Some (K.as_read r)) (Some (K.as_read s)) t))
  -- if both are whole sections, no union of them fits a section
  pub none : (a b c : FinMap hash_cmp R) → IsSectionOf (in_version K version_1) x a
      → IsSectionOf (in_version K version_2) y b
      → ((q : DataHash) → IsEither (get a q) (get b q) (get c q))
      → ¬ (total_rows K (values c) ≤ MAX_ROWS)

-- the files of both inputs have no union, or their xorbs have too many rows
abbrev pub HaveNoUnion : List ℕ → MDBShardInfo → List ℕ → MDBShardInfo → Type 0
HaveNoUnion x i y j =
    HaveNoUnionOf file_records (version_of i.header.version) (version_of j.header.version)
    IsEitherFile (files_at x i) (files_at y j)
    ⊎ HaveNoUnionOf xorb_records V3 V3 IsEitherXorb (xorbs_at x i) (xorbs_at y j)

-- why nothing can be made of two inputs under one key: an allocation failed, an input ends early or
-- is no valid shard
abbrev pub InputRefusal : List ℕ → MDBShardInfo → List ℕ → MDBShardInfo → CoreError → Type 0
InputRefusal x i y j e =
    (e ≡ OutOfMemory)
    ⊎ (IsEndOfInput e × (IsTruncated x i ⊎ IsTruncated y j))
    ⊎ (IsInvalidShard e × (IsMalformed x i ⊎ IsMalformed y j))

-- why an operation on two inputs is refused: their keys differ, or they do not, and there is
-- another cause
abbrev pub KeyRefusal : (CoreError → Type 0) → MDBShardInfo → MDBShardInfo → CoreError → Type 0
KeyRefusal Cause i j e =
    ((e ≡ InvalidArguments) × (key_of i ≢ key_of j)) ⊎ ((key_of i ≡ key_of j) × Cause e)

-- why two inputs have no union: their keys differ, an allocation failed, an input ends early or is
-- no valid shard, or their records have no union within the rows of a section
abbrev pub UnionRefusal : List ℕ → MDBShardInfo → List ℕ → MDBShardInfo → CoreError → Type 0
UnionRefusal x i y j =
    KeyRefusal (λ e. InputRefusal x i y j e ⊎ (IsInvalidShard e × HaveNoUnion x i y j)) i j

-- why two inputs have no difference: their keys differ, an allocation failed, or an input ends
-- early or is no valid shard
abbrev pub DifferenceRefusal : List ℕ → MDBShardInfo → List ℕ → MDBShardInfo → CoreError → Type 0
DifferenceRefusal x i y j = KeyRefusal (InputRefusal x i y j) i j

-- the bytes of the union of two byte strings, each with its own header and footer
abbrev pub UnitesBytes : List ℕ → List ℕ → List ℕ → Type 0
UnitesBytes x y out =
    (i j : MDBShardInfo) × (c : Shard) × HasHeaderAndFooter x i × HasHeaderAndFooter y j
    × HaveResult IsByteUnion x i y j c × (out ≡ keyed_layout c (key_of i))

-- why header and footer are not read
abbrev pub LoadRefusal : List ℕ → CoreError → Type 0
LoadRefusal x e = (IsShardVersion e × IsUnsupported x) ⊎ (IsEndOfInput e × IsTooShort x)

-- why two byte strings have no union: the ends of the first are not read, or they are and those of
-- the second are not, or both are and their shards have no union
abbrev pub BytesRefusal : List ℕ → List ℕ → CoreError → Type 0
BytesRefusal x y e =
    LoadRefusal x e ⊎ ((i : MDBShardInfo) × HasHeaderAndFooter x i × LoadRefusal y e)
    ⊎ ((i j : MDBShardInfo) × HasHeaderAndFooter x i × HasHeaderAndFooter y j × UnionRefusal x i y j e)

-- why an operation on two sources fails: the device of either did, or neither did and there is
-- another cause
abbrev pub InputsFail : (old_1 new_1 old_2 new_2 : Source) → (CoreError → Type 0) → CoreError
    → Type 0
InputsFail old_1 new_1 old_2 new_2 Refusal e =
    DeviceFailure old_1 new_1 e ⊎ DeviceFailure old_2 new_2 e
    ⊎ ((new_1.failures ≡ old_1.failures) × (new_2.failures ≡ old_2.failures) × Refusal e)
