use Rattle.std.proofs.Common.{rules}
use Rattle.xet_records.specs.FileRecord.{file_records}
use Rattle.xet_records.specs.XorbRecord.{xorb_records}
use Rattle.xet_shards.proofs.Write.Layouts.{length-file_section, length-xorb_section}
use Rattle.xet_shards.proofs.Write.Tables.{length-starts, length-table_bytes}
use Rattle.xet_shards.proofs.Write.XorbLayouts.{length-chunk_table, length-chunk_table_bytes, xorb_rows-chunks}
use Rattle.shard_concatenation.proofs.ordered_parts.footer_of_parts.Goals as goal

pub returns-clause-value : goal.returns-clause-value
returns-clause-value c = λ files xorbs fit totals sum.
    let plain = c.default.ensures in
    search (
      rules,
      plain,
      totals,
      sum,
      length-file_section files fit,
      length-xorb_section xorbs,
      length-starts file_records files,
      length-table_bytes file_records files,
      length-starts xorb_records xorbs,
      length-table_bytes xorb_records xorbs,
      xorb_rows-chunks xorbs,
      length-chunk_table xorbs,
      length-chunk_table_bytes xorbs,
    )
