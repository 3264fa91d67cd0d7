-- The versions of the format, and the numbers that headers of shards have for them.
use Rattle.std.specs.Prelude.{◌≡◌, ℕ, ◌==◌, if◌then◌else◌}
use Rattle.xet_records.specs.declared.record_reader.FormatVersion.{FormatVersion}
use Rattle.xet_records.specs.declared.record_reader.FormatVersion.TheVariants.{V2, V3}

-- the number that the header of a shard has for a version
abbrev pub number_of : FormatVersion → ℕ
number_of V2 = 2
number_of V3 = 3

-- the number of a version that is read
abbrev pub IsVersion : ℕ → Type 0
IsVersion n = (version : FormatVersion) × (n ≡ number_of version)

-- the version in which sections are read under a header with this number; other numbers than 2 and
-- 3 are those of headers made by hand, since none is read
abbrev pub version_of : ℕ → FormatVersion
version_of n = if n == 2 then V2 else V3
