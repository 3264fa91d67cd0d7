-- Why a shard is not written in a version of the format.
use Rattle.std.specs.Prelude.{IsTrue}
use Rattle.xet_core_structures.specs.Shard.{Shard, has_aux_rows}
use Rattle.xet_core_structures.specs.declared.record_reader.FormatVersion.{FormatVersion}
use Rattle.xet_core_structures.specs.declared.record_reader.FormatVersion.TheVariants.{V2, V3}

-- a version has no layout of a shard: version 2 has no auxiliary rows
abbrev pub HasNoLayout : FormatVersion → Shard → Type 0
HasNoLayout V2 s = IsTrue (has_aux_rows s)
HasNoLayout V3 s = ⊥
