use Rattle.std.proofs.Common.{◌-◌, ◌∙◌, sym, arith, rules}
use Rattle.xet_records.specs.FileRecord.{file_records}
use Rattle.xet_records.specs.XorbRecord.{xorb_records}
use Rattle.xet_shards.specs.Write.Tables.{starts, chunk_table}
use Rattle.xet_shards.proofs.Write.Layouts.{length-file_section, length-xorb_section}
use Rattle.xet_shards.proofs.Write.Tables.{length-starts}
use Rattle.xet_shards.proofs.Write.Written.{rows_of_table, bytes_of_table}
use Rattle.xet_shards.proofs.Write.XorbLayouts.{length-chunk_table, length-chunks_in, xorb_rows-chunks}
use Rattle.xet_shards.proofs.shard_format.write.shard_end.footer_of.Goals as goal

pub returns-clause-value : goal.returns-clause-value
returns-clause-value c = λ rs xs fit files xorbs.
    let plain = c.default.ensures in
    let options = c.args.options.now in
    search (
      rules,
      plain,
      length-file_section rs fit,
      length-xorb_section xs,
      files,
      xorbs,
      rows_of_table options.file_table (starts file_records rs) _ (files.table.records ∙ sym (length-starts file_records rs)),
      bytes_of_table file_records options.file_table rs,
      rows_of_table options.xorb_table (starts xorb_records xs) _ (xorbs.table.records ∙ sym (length-starts xorb_records xs)),
      bytes_of_table xorb_records options.xorb_table xs,
      rows_of_table options.chunk_table (chunk_table xs) (c.args.xorbs.now.table.rows - c.args.xorbs.now.table.records)
          (omega (arith, xorbs.table.records, xorbs.table.rows, xorb_rows-chunks xs, length-chunk_table xs)),
      length-chunks_in options.chunk_table xs,
    )
