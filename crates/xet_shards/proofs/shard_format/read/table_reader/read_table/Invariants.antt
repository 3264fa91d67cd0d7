use Rattle.xet_base.specs.Source.{after_seek}
use Rattle.xet_shards.proofs.Read.TableReading.{HasReadRows}
use Rattle.xet_shards.proofs.shard_format.read.table_reader.read_table.Given as goal

abbrev pub invariant-loop-row : goal.invariant-loop-row
invariant-loop-row g l =
    HasReadRows g.T.TableRow.row_bytes g.T.TableRow.Fits g.T.TableRow.row_size (after_seek (g.S.ShardSource.meaning l.fn.source) l.offset) (g.S.ShardSource.meaning l.source) l._row l.found.items
