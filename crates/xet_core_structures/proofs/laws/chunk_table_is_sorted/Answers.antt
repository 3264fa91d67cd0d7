use Rattle.xet_shards.proofs.Write.TableOrder.{chunk_table-sorted, in_table_rows, in_table}
use Rattle.xet_core_structures.proofs.laws.chunk_table_is_sorted.Goals as goal

pub returns-clause-sorted : goal.returns-clause-sorted
returns-clause-sorted c = chunk_table-sorted

pub returns-clause-rows : goal.returns-clause-rows
returns-clause-rows c = λ xorbs p. (in_table_rows xorbs p, in_table xorbs p)
