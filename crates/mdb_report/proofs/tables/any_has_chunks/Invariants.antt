use Rattle.std.proofs.Common.{All, take}
use Rattle.mdb_report.specs.LookupTables.{HasNoChunks}
use Rattle.mdb_report.proofs.tables.any_has_chunks.Given as goal

-- none of those so far has chunks
abbrev pub invariant-loop-header : goal.invariant-loop-header
invariant-loop-header l = All HasNoChunks (take l.header-index l.xorbs)
