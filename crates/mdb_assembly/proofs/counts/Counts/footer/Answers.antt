use Rattle.std.proofs.Common.{rules}
use Rattle.xet_records.specs.FileRecord.{file_records}
use Rattle.xet_records.specs.XorbRecord.{xorb_records}
use Rattle.xet_shards.proofs.Write.Layouts.{length-file_section, length-xorb_section}
use Rattle.xet_shards.proofs.Write.Tables.{length-starts, length-table_bytes}
use Rattle.xet_shards.proofs.Write.XorbLayouts.{length-chunk_table, length-chunk_table_bytes, length-chunk_table_rows}
use Rattle.mdb_assembly.proofs.counts.Counts.footer.Goals as goal

pub returns : goal.returns
returns c = λ files xorbs fit counts.
    let plain = c.default.ensures in
    search (
      rules,
      plain,
      counts,
      length-file_section files fit,
      length-xorb_section xorbs,
      length-starts file_records files,
      length-table_bytes file_records files,
      length-starts xorb_records xorbs,
      length-table_bytes xorb_records xorbs,
      length-chunk_table_rows xorbs,
      length-chunk_table xorbs,
      length-chunk_table_bytes xorbs,
    )
