-- What is wrong with bytes, and how it is shown.
use Rattle.std.specs.Prelude.{◌≡◌, ◌↔◌, ℕ, List, [], map, All, Contains}
use Rattle.shard_bytes.specs.declared.check.Finding.{Finding}
use Rattle.shard_bytes.specs.declared.check.Finding.TheVariants.{Unsupported, TooShort, Cut, Refused, OutOfOrder, Malformed, Differs, Reordered, Size}
use Rattle.shard_bytes.specs.declared.check.Part.{Part}
use Rattle.shard_bytes.specs.declared.check.Part.TheVariants.{Header, FileSection, XorbSection, FileTable, XorbTable, ChunkTable, Footer}
use Rattle.shard_bytes.specs.declared.check.Section.{Section}
use Rattle.shard_bytes.specs.declared.check.Section.TheVariants.{Files, Xorbs}
use Rattle.shard_bytes.specs.declared.format.Format.TheVariants.{NoTag, OtherVersion, NoFooter}
use Rattle.shard_bytes.specs.Checking.{IsWhole, IsIntact, IsFinding, IsNote, HoldsSomeShard}
use Rattle.xet_c.specs.declared.check.XetFinding.{XetFinding}

-- the number of a section, equal to that of the part which it is
abbrev pub c_section : Section → ℕ
c_section Files = 2
c_section Xorbs = 3

-- the number of a part, in the order of the bytes
abbrev pub c_part : Part → ℕ
c_part Header = 1
c_part FileSection = 2
c_part XorbSection = 3
c_part FileTable = 4
c_part XorbTable = 5
c_part ChunkTable = 6
c_part Footer = 7

-- a finding by its kind, the number of the part that it is about, or 0, and the version, the index
-- or the size in bytes that it names, or 0
abbrev pub c_finding : Finding → XetFinding
c_finding (Unsupported NoTag) = record { kind = 1; part = 1; number = 0 }
c_finding (Unsupported (OtherVersion version)) = record { kind = 2; part = 1; number = version }
c_finding (Unsupported NoFooter) = record { kind = 3; part = 7; number = 0 }
c_finding TooShort = record { kind = 4; part = 0; number = 0 }
c_finding (Cut section) = record { kind = 5; part = c_section section; number = 0 }
c_finding (Refused section) = record { kind = 6; part = c_section section; number = 0 }
c_finding (OutOfOrder section index) = record { kind = 7; part = c_section section; number = index }
c_finding (Differs part) = record { kind = 8; part = c_part part; number = 0 }
c_finding (Size size) = record { kind = 9; part = 0; number = size }
c_finding (Malformed section index) = record { kind = 10; part = c_section section; number = index }
c_finding Reordered = record { kind = 11; part = 6; number = 0 }

-- these are the findings that are true of the bytes, each of them; there is none exactly if the
-- bytes are whole, and nothing but notes exactly if they are intact, and then they hold a well-formed
-- shard
pub record ShowsFindings (bytes : List ℕ) (shown : List XetFinding) : Type 0 where
  pub findings : List Finding
  pub each : All (IsFinding bytes) findings
  pub all : (f : Finding) → IsFinding bytes f → Contains findings f
  pub whole : (findings ≡ []) ↔ IsWhole bytes
  pub intact : All IsNote findings ↔ IsIntact bytes
  pub shard : All IsNote findings → HoldsSomeShard bytes
  pub shown_are : shown ≡ map c_finding findings
