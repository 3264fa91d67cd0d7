-- What the answer to an inquiry says.
use Rattle.std.specs.Prelude.{◌≡◌, ◌⊎◌, ⊤, Bool, IsTrue, true, false, ℕ, List, length}
use Rattle.xet_core_structures.specs.declared.shard_format.MDBShardInfo.{MDBShardInfo}
use Rattle.xet_core_structures.specs.Ends.{HasHeaderAndFooter}
use Rattle.shard_bytes.specs.Checking.{IsIntact, IsWhole}
use Rattle.mdb_report.specs.declared.inquiry.Checks.{Checks}
use Rattle.mdb_report.specs.declared.inquiry.Inquiry.{Inquiry}
use Rattle.mdb_report.specs.declared.inquiry.Inquiry.TheVariants.{Summary, Brief, Check, Find, FindXorbs, Query}
use Rattle.mdb_report.specs.declared.parts_bar.Parts.{Parts}
use Rattle.mdb_report.specs.PartsBar.{PartsAscend}
use Rattle.mdb_report.specs.Summary.{ArePartsOf}
use Rattle.mdb_report.specs.GarbageReport.{IsFit}

-- the inquiry may have findings: a summary, also in a line, or a check
abbrev pub IsCheck : Inquiry → Type 0
IsCheck Summary = ⊤
IsCheck Brief = ⊤
IsCheck (Check checks) = ⊤
IsCheck _ = ⊥

-- the inquiry looks something up: files or xorbs by their hashes, or a run of chunks
abbrev pub LooksUp : Inquiry → Type 0
LooksUp (Find hashes costs) = ⊤
LooksUp (FindXorbs hashes) = ⊤
LooksUp (Query hashes) = ⊤
LooksUp _ = ⊥

-- nothing is to be said once all shards were asked, with their names or without: neither a total
-- nor what was found in none
abbrev pub SaysNoMore : Inquiry → Bool → Type 0
SaysNoMore Brief named = ⊥
SaysNoMore (Find hashes costs) named = (costs ≡ true) ⊎ (named ≡ false)
SaysNoMore (FindXorbs hashes) named = named ≡ false
SaysNoMore (Query hashes) named = named ≡ false
SaysNoMore _ named = ⊤

-- the parts that the footer of the bytes says ascend within them
abbrev pub HasAscendingParts : List ℕ → Type 0
HasAscendingParts bytes =
    (info : MDBShardInfo) × HasHeaderAndFooter bytes info
    × ((parts : Parts) × ArePartsOf info (length bytes) parts × PartsAscend parts)

-- what a check says of the bytes if it finds nothing: they are intact, or whole if it is strict, and
-- the records fit together if it is deep
pub record IsSound (checks : Checks) (bytes : List ℕ) : Type 0 where
  pub intact : IsIntact bytes
  pub whole : IsTrue checks.strict → IsWhole bytes
  pub fit : IsTrue checks.deep → IsFit bytes

-- what an inquiry that may have findings says of the bytes if it has none
abbrev pub IsClean : Inquiry → List ℕ → Type 0
IsClean Summary bytes = HasAscendingParts bytes
IsClean Brief bytes = HasAscendingParts bytes
IsClean (Check checks) bytes = IsSound checks bytes
IsClean _ bytes = ⊤
