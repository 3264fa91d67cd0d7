use Rattle.xet_core_structures.specs.FileRecord.{file_records}
use Rattle.xet_core_structures.specs.XorbRecord.{xorb_records}
use Rattle.shard_bytes.proofs.TableParts.{between_rows, whole_table}
use Rattle.shard_bytes.proofs.WrittenParts.{start_is, tables_sorted}
use Rattle.shard_bytes.proofs.part_lookups.parts_have_rows.Goals as goal

pub returns-clause-whole : goal.returns-clause-whole
returns-clause-whole c = λ t part word starts cut. whole_table t part word starts cut

pub returns-clause-around : goal.returns-clause-around
returns-clause-around c = λ t part word sorted around. between_rows t part word sorted around

pub returns-clause-sorted : goal.returns-clause-sorted
returns-clause-sorted c = λ s shard info is. tables_sorted is

pub returns-clause-starts : goal.returns-clause-starts
returns-clause-starts c = λ files word row among. start_is file_records files word row among

pub returns-clause-xorb_starts : goal.returns-clause-xorb_starts
returns-clause-xorb_starts c = λ xorbs word row among. start_is xorb_records xorbs word row among
