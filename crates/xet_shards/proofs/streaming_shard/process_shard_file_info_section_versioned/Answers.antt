use Rattle.std.proofs.Common.{sym, ap, ◌∙◌}
use Rattle.xet_records.specs.FileRecord.{file_records_in}
use Rattle.xet_records.specs.Version.{version_of}
use Rattle.xet_records.proofs.Processing.{processes_reader}
use Rattle.xet_records.proofs.RecordKinds.{version_known}
use Rattle.xet_shards.proofs.streaming_shard.process_shard_file_info_section_versioned.Goals as goal

pub returns-in-Some-clause-calls : goal.returns-in-Some-clause-calls
returns-in-Some-clause-calls g c = λ known.
    let same = ap version_of c.in-Some.ensures ∙ version_known c.in-Some.known in
    processes_reader (file_records_in (version_of c.args.version)) g.R.Read.remaining _ _ _ _ _ _ (rw (sym same) at c.process_section.ensures.calls)
