use Rattle.std.proofs.Common.{sym, subst}
use Rattle.std.proofs.lemmas.Result.{err_from_is_err_and}
use Rattle.xet_records.specs.FileRecord.{file_records, file_records_in}
use Rattle.xet_shards.proofs.Write.Sections.{fits_ever}
use Rattle.xet_shards.specs.StreamingShard.MinimalReading.SectionsNotRead.{no_xorbs}
use Rattle.xet_shards.specs.Write.WithOptions.{FitsSection}
use Rattle.xet_shards.proofs.StreamingShard.MinimalReading.{reads_fit, kept_fit}
use Rattle.xet_shards.proofs.streaming_shard.minimal_reader.read_sections.Goals as goal

pub of_views-requires-clause-files : goal.of_views-requires-clause-files
of_views-requires-clause-files g c =
    let read = c.in_ok-files.ensures in
    subst (FitsSection file_records) (sym read.2) (kept_fit file_records c.args.with_files read.0 (fits_ever file_records c.args.version read.0 (reads_fit (file_records_in c.args.version) g.I.ByteInput.reads _ _ read.0 read.1)))

pub of_views-requires-2-clause-files : goal.of_views-requires-2-clause-files
of_views-requires-2-clause-files g c =
    let read = c.in_ok-files.ensures in
    subst (FitsSection file_records) (sym read.2) (kept_fit file_records c.args.with_files read.0 (fits_ever file_records c.args.version read.0 (reads_fit (file_records_in c.args.version) g.I.ByteInput.reads _ _ read.0 read.1)))

pub returns-in_err-xorbs : goal.returns-in_err-xorbs
returns-in_err-xorbs g c =
    let read = c.in_ok-files.ensures in
    let p = err_from_is_err_and c.from_residual-in_err-xorbs.result c.from_residual-in_err-xorbs.ensures.1 in
    rw (p.1, p.2) (no_xorbs c.if-not-with_xorbs.false c.read_views.new.input read.0 read.1 c.in_err-xorbs.ensures)
