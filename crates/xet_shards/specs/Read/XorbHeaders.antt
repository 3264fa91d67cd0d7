-- The headers of the xorb section, each with its offset in the source.
use Rattle.std.specs.Prelude.{ℕ, List}
use Rattle.xet_base.specs.Source.{Source, after_seek}
use Rattle.xet_records.specs.declared.xorb_structs.XorbChunkSequenceHeader.{XorbChunkSequenceHeader}
use Rattle.xet_records.specs.declared.xorb_structs.MDBXorbInfo.{MDBXorbInfo}
use Rattle.xet_records.specs.XorbRecord.{xorb_records}
use Rattle.xet_shards.specs.Read.SectionWalk.{kept_of, KeepsSection}

-- the header of a xorb that is at an offset
abbrev pub header_at : ℕ → MDBXorbInfo → XorbChunkSequenceHeader × ℕ
header_at offset xorb = (xorb.metadata, offset)

-- the headers of xorbs whose section is at an offset, each with its own offset
abbrev pub xorb_headers : ℕ → List MDBXorbInfo → List (XorbChunkSequenceHeader × ℕ)
xorb_headers at xorbs = kept_of xorb_records header_at at xorbs

-- the section at an offset was read through, and these are its headers
abbrev pub ReadsXorbHeaders : Source → Source → ℕ → List (XorbChunkSequenceHeader × ℕ) → Type 0
ReadsXorbHeaders old new at found = KeepsSection xorb_records header_at (after_seek old at) new found
