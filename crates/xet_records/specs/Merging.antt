-- Two records of one file: which has more parts, and the record that has the parts of both.
use Rattle.xet_base.specs.declared.merklehash.DataHash.{DataHash}
use Rattle.xet_records.specs.declared.file_structs.rows.FileDataSequenceEntry.{FileDataSequenceEntry}
use Rattle.xet_records.specs.declared.file_structs.rows.HashRow.{HashRow}
use Rattle.std.specs.Option.{unwrap_or}
use Rattle.std.specs.Prelude.{List, [], length, Option, None, Some, is_some, ◌≡◌, ℕ, ◌+◌, ◌<◌, Bool, not, ◌&&◌, ◌||◌, IsTrue, if◌then◌else◌}
use Rattle.std.specs.Int.{bit_at}
use Rattle.xet_records.specs.declared.file_structs.header.FileDataSequenceHeader.{FileDataSequenceHeader}
use Rattle.xet_records.specs.declared.file_structs.MDBFileInfo.{MDBFileInfo}
use Rattle.xet_records.specs.declared.file_structs.header.SupersetResult.{SupersetResult}
use Rattle.xet_records.specs.declared.file_structs.header.SupersetResult.TheVariants.{SuperA, SuperB, Neither, Equal}
use Rattle.xet_records.specs.declared.file_structs.part.OptionalPart.{OptionalPart}
use Rattle.xet_records.specs.Part.{announces, flags_of, rows_of, with_parts}

-- each of the 32 bits that is set in `b` is set in `a`
abbrev pub IncludesBits : ℕ → ℕ → Type 0
IncludesBits a b = (i : ℕ) → i < 32 → bit_at b i ≡ 1 → bit_at a i ≡ 1

-- how two sets of bits compare
abbrev pub Compares : ℕ → ℕ → SupersetResult → Type 0
Compares a b Equal = IncludesBits a b × IncludesBits b a
Compares a b SuperA = IncludesBits a b × (¬ IncludesBits b a)
Compares a b SuperB = (¬ IncludesBits a b) × IncludesBits b a
Compares a b Neither = (¬ IncludesBits a b) × (¬ IncludesBits b a)

-- the header of a mix of two records: the flags of the parts that either announces, no others, and
-- a zero reserved word
abbrev pub mixed_header : FileDataSequenceHeader → FileDataSequenceHeader → FileDataSequenceHeader
mixed_header g h =
    record g {
      file_flags = flags_of (λ part. announces g.file_flags part || announces h.file_flags part);
      _unused = 0;
    }

-- headers of one file: equal hash and count
pub record IsSameFile (a b : FileDataSequenceHeader) : Type 0 where
  pub file_hash : a.file_hash ≡ b.file_hash
  pub num_entries : a.num_entries ≡ b.num_entries

-- whether a record's header announces a part
abbrev pub has_part : MDBFileInfo → OptionalPart → Bool
has_part r part = announces r.metadata.file_flags part

-- `a` with each optional part that `b` alone has, and the flag of it
abbrev pub merged_file : MDBFileInfo → MDBFileInfo → MDBFileInfo
merged_file a b =
    let takes = λ (part : OptionalPart). has_part b part && not (has_part a part) in
    with_parts
    (record a.metadata { file_flags = a.metadata.file_flags + flags_of takes })
    a.segments
    (λ part. if takes part then rows_of part b else rows_of part a)

-- two records agree: equal segments, and an equal optional part wherever both have it
pub record Agree (a b : MDBFileInfo) : Type 0 where
  pub segments : a.segments ≡ b.segments
  pub parts : (part : OptionalPart) → IsTrue (has_part a part) → IsTrue (has_part b part)
      → rows_of part a ≡ rows_of part b

-- the record that has each part that `a` or `b` has; its flags announce these parts and nothing
-- else
abbrev pub joined_file : MDBFileInfo → MDBFileInfo → MDBFileInfo
joined_file a b =
    with_parts
    (record a.metadata { file_flags = flags_of (λ part. has_part a part || has_part b part) })
    a.segments
    (λ part. if has_part a part then rows_of part a else rows_of part b)

-- a part that a record has
abbrev pub part_in : OptionalPart → MDBFileInfo → Option (List HashRow)
part_in part r = if has_part r part then Some (rows_of part r) else None

-- the file with these parts: its flags say which optional parts are present
abbrev pub file_with : DataHash → List FileDataSequenceEntry
    → (OptionalPart → Option (List HashRow)) → MDBFileInfo
file_with q segments part =
    with_parts
    (record { file_hash = q; file_flags = flags_of (λ p. is_some (part p)); num_entries = length segments; _unused = 0 })
    segments
    (λ p. unwrap_or (part p) [])
