-- The steps of reading a run.
use Rattle.std.specs.Prelude.{◌≡◌, ◌⊎◌, ℕ, ◌+◌, ◌*◌, ◌^◌, ◌<◌, ◌≤◌, List, length, take, drop, flat_map, All, Option}
use Rattle.xet_base.specs.declared.error.CoreError.{CoreError}
use Rattle.xet_base.specs.declared.merklehash.DataHash.{DataHash}
use Rattle.xet_base.specs.Errors.{IsEndOfInput, IsBareInvalidShard}
use Rattle.xet_base.specs.Source.{Source, DeviceFailure, ReadsBytes, bytes_left, after_seek, NoFailure}
use Rattle.xet_records.specs.declared.xorb_structs.XorbChunkSequenceEntry.{XorbChunkSequenceEntry}
use Rattle.xet_records.specs.declared.xorb_structs.XorbChunkSequenceHeader.{XorbChunkSequenceHeader}
use Rattle.xet_records.specs.XorbRow.{xorb_header_row, chunk_row, FitsXorbHeader, FitsChunk}
use Rattle.xet_records.specs.XorbRecord.{total_bytes}
use Rattle.xet_shards.specs.ShardInMemory.ChunkQuery.{Run, run_length}
use Rattle.xet_shards.specs.Lookup.Lookup.{row_at}
use Rattle.xet_shards.specs.Lookup.RunReading.{DetermineRun, RunExceeds, RunIsTruncated, QueryAt, chunk_offset, chunks_at, chunks_left, FoundRun}

-- the source went to a row of a section
pub record SeeksToRow (offset row : ℕ) (old new : Source) : Type 0 where
  pub within : row_at offset row < 2 ^ 64
  pub after : new ≡ after_seek old (row_at offset row)

-- the source did not go to a row of a section: the row's offset passes 64 bits, or the device
-- failed
pub record NotSought (offset row : ℕ) (old new : Source) (e : CoreError) : Type 0 where
  pub bytes : new.bytes ≡ old.bytes
  pub seeks : new.seeks ≤ old.seeks + 1
  pub no_fewer : old.seeks ≤ new.seeks
  pub read : new.read ≡ old.read
  pub cause : DeviceFailure old new e
      ⊎ ((new.failures ≡ old.failures) × IsBareInvalidShard e × (2 ^ 64 ≤ row_at offset row))

-- why the row at the source's position was not read: the device failed, or the bytes ended
abbrev pub RowFailure : Source → Source → CoreError → Type 0
RowFailure old new e =
    DeviceFailure old new e
    ⊎ ((new.failures ≡ old.failures) × IsEndOfInput e × (length old.bytes < old.at + 48))

-- the row at the source's position was not read
pub record RowNotRead (old new : Source) (e : CoreError) : Type 0 where
  pub bytes : new.bytes ≡ old.bytes
  pub seeks : new.seeks ≡ old.seeks
  pub read : new.read ≤ old.read + 48
  pub cause : RowFailure old new e

-- a xorb's header was read at a row of a section
pub record ReadsHeaderAt (offset row : ℕ) (old new : Source) (header : XorbChunkSequenceHeader)
    : Type 0 where
  pub fits : FitsXorbHeader header
  pub taken : ReadsBytes (after_seek old (row_at offset row)) new (xorb_header_row header)

-- a row of a section was not read
pub record RowFails (offset row : ℕ) (old new : Source) (e : CoreError) : Type 0 where
  pub bytes : new.bytes ≡ old.bytes
  pub seeks : new.seeks ≤ old.seeks + 1
  pub no_fewer : old.seeks ≤ new.seeks
  pub read : new.read ≤ old.read + 48
  pub cause : DeviceFailure old new e
      ⊎ ((new.failures ≡ old.failures) × IsBareInvalidShard e × (2 ^ 64 ≤ row_at offset row))
      ⊎ ((new.failures ≡ old.failures) × IsEndOfInput e × (row_at offset row < 2 ^ 64)
      × (length (drop (row_at offset row) old.bytes) < 48))

-- a run was read: how many chunks it has, and how many bytes these
pub record ReadsRun (key : DataHash) (qs : List DataHash) (left : ℕ) (old new : Source)
    (run : ℕ × ℕ) : Type 0 where
  -- the chunks that were read
  pub chunks : List XorbChunkSequenceEntry
  pub fit : All FitsChunk chunks
  -- they are no more than are left of the xorb
  pub few : length chunks ≤ left
  pub taken : ReadsBytes old new (flat_map chunk_row chunks)
  -- they decide how long the run is
  pub decide : DetermineRun key qs left chunks
  -- the number of chunks of the run
  pub count : run.0 ≡ run_length key qs chunks
  -- the number of bytes of these chunks
  pub bytes : run.1 ≡ total_bytes (take run.0 chunks)

-- why a run was not read: the device failed, its bytes pass 32 bits, or the source's bytes end
abbrev pub RunFailure : DataHash → List DataHash → ℕ → List ℕ → Source → Source → CoreError → Type 0
RunFailure key qs left bytes old new e =
    DeviceFailure old new e
    ⊎ ((new.failures ≡ old.failures) × IsBareInvalidShard e × RunExceeds key qs left bytes)
    ⊎ ((new.failures ≡ old.failures) × IsEndOfInput e × RunIsTruncated key qs left bytes)

-- a run was not read, without a seek and with no more bytes than those of the chunks that are left
-- of the xorb; the position is unspecified
pub record ReadRunFails (key : DataHash) (qs : List DataHash) (left : ℕ) (old new : Source)
    (e : CoreError) : Type 0 where
  pub bytes : new.bytes ≡ old.bytes
  pub seeks : new.seeks ≡ old.seeks
  pub read : new.read ≤ old.read + 48 * left
  pub cause : RunFailure key qs left (bytes_left old) old new e

-- the run of a query in a xorb with this header was read, by one seek
pub record ReadsRunAt (q : QueryAt) (header : XorbChunkSequenceHeader) (old new : Source)
    (answer : Option Run) : Type 0 where
  pub found : FoundRun q header old.bytes answer
  pub no_failure : NoFailure old new
  pub seeks : new.seeks ≡ old.seeks + 1
  pub read : new.read ≤ old.read + 48 * chunks_left q header

-- the run of a query in a xorb with this header was not read, by one seek at most
pub record RunFails (q : QueryAt) (header : XorbChunkSequenceHeader) (old new : Source)
    (e : CoreError) : Type 0 where
  pub bytes : new.bytes ≡ old.bytes
  pub seeks : new.seeks ≤ old.seeks + 1
  pub no_fewer : old.seeks ≤ new.seeks
  pub read : new.read ≤ old.read + 48 * chunks_left q header
  pub cause : ((chunk_offset q < 2 ^ 64)
      × RunFailure q.key q.hashes (chunks_left q header) (chunks_at q old.bytes) old new e)
      ⊎ DeviceFailure old new e
      ⊎ ((new.failures ≡ old.failures) × IsBareInvalidShard e × (2 ^ 64 ≤ chunk_offset q))

-- so many chunks were read, which have the first hashes, and their bytes were summed, in 32 bits
pub record HasReadRun (key : DataHash) (qs : List DataHash) (left : ℕ) (start now : Source)
    (length_now bytes : ℕ) : Type 0 where
  -- the chunks that were read
  pub chunks : List XorbChunkSequenceEntry
  pub fit : All FitsChunk chunks
  -- their number
  pub many : length chunks ≡ length_now
  -- they are no more than are left of the xorb
  pub few : length_now ≤ left
  pub taken : ReadsBytes start now (flat_map chunk_row chunks)
  -- all of them have the hashes, one by one
  pub same : run_length key qs chunks ≡ length chunks
  -- the number of their bytes
  pub sum : bytes ≡ total_bytes chunks
  -- it fits 32 bits
  pub narrow : bytes < 2 ^ 32
