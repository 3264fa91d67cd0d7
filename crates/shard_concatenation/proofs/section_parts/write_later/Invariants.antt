use Rattle.std.proofs.Common.{◌≡◌, ℕ, List, All, length, flat_map}
use Rattle.xet_shards.specs.Read.TableReading.{FitsStart}
use Rattle.xet_shards.specs.Write.Tables.{start_row}
use Rattle.shard_concatenation.proofs.SectionParts.{HasWrittenStarts}
use Rattle.shard_concatenation.proofs.section_parts.write_later.Given as goal

abbrev pub invariant-loop-rest : goal.invariant-loop-rest
invariant-loop-rest g l = (rows : List (ℕ × ℕ)) → l.table ≡ flat_map start_row rows → All FitsStart rows
    → HasWrittenStarts l.first rows l.rest (g.W.Write.contents l.initial.writer) (g.W.Write.contents l.writer)

abbrev pub decreases-loop-rest : goal.decreases-loop-rest
decreases-loop-rest g l = length l.rest
