-- The two rows of a xorb record: a hash and sixteen bytes each.
use Rattle.std.specs.Prelude.{◌⊎◌, ℕ, ◌+◌, ◌%◌, ◌^◌, ◌<◌, ◌==◌, Bool, IsTrue, List, ◌++◌, if◌then◌else◌}
use Rattle.std.specs.Int.{bit_at}
use Rattle.xet_base.specs.Bytes.{u32_bytes}
use Rattle.xet_base.specs.Hash.{hash_bytes, IsHash, IsEligible}
use Rattle.xet_records.specs.declared.xorb_structs.XorbChunkSequenceHeader.{XorbChunkSequenceHeader}
use Rattle.xet_records.specs.declared.xorb_structs.XorbChunkSequenceEntry.{XorbChunkSequenceEntry}

-- the header: the xorb's hash and flags, the number of chunks, the bytes of the chunks and those on
-- disk
unfoldable pub xorb_header_row : XorbChunkSequenceHeader → List ℕ
xorb_header_row h =
    (((hash_bytes h.xorb_hash ++ u32_bytes h.xorb_flags) ++ u32_bytes h.num_entries)
    ++ u32_bytes h.num_bytes_in_xorb)
    ++ u32_bytes h.num_bytes_on_disk

-- a chunk: its hash, where it starts in the xorb's bytes, how many bytes it has, its flags and a
-- reserved word
unfoldable pub chunk_row : XorbChunkSequenceEntry → List ℕ
chunk_row c =
    (((hash_bytes c.chunk_hash ++ u32_bytes c.chunk_byte_range_start)
    ++ u32_bytes c.unpacked_segment_bytes)
    ++ u32_bytes c.flags)
    ++ u32_bytes c._unused

-- the widths of a xorb header's numbers
pub record FitsXorbHeader (h : XorbChunkSequenceHeader) : Type 0 where
  pub xorb_hash : IsHash h.xorb_hash
  pub xorb_flags : h.xorb_flags < 2 ^ 32
  pub num_entries : h.num_entries < 2 ^ 32
  pub num_bytes_in_xorb : h.num_bytes_in_xorb < 2 ^ 32
  pub num_bytes_on_disk : h.num_bytes_on_disk < 2 ^ 32

-- the widths of the numbers of a chunk's row
pub record FitsChunk (c : XorbChunkSequenceEntry) : Type 0 where
  pub chunk_hash : IsHash c.chunk_hash
  pub chunk_byte_range_start : c.chunk_byte_range_start < 2 ^ 32
  pub unpacked_segment_bytes : c.unpacked_segment_bytes < 2 ^ 32
  pub flags : c.flags < 2 ^ 32
  pub unused : c._unused < 2 ^ 32

-- bit 31 of a chunk's flags marks it for the global index, whatever its hash
abbrev pub is_marked : ℕ → Bool
is_marked flags = bit_at flags 31 == 1

-- the flags of a chunk with the mark set or taken away, and the other 31 bits as they are
abbrev pub with_mark : Bool → ℕ → ℕ
with_mark marked flags = flags % 2 ^ 31 + (if marked then 2147483648 else 0)

-- the global index keeps a chunk that is marked, or whose hash is eligible
abbrev pub IsEligibleChunk : XorbChunkSequenceEntry → Type 0
IsEligibleChunk c = IsTrue (is_marked c.flags) ⊎ IsEligible c.chunk_hash
