use Rattle.std.proofs.lemmas.Result.{MatchResult-from_both, IfOk-weaker, IfErr-weaker}
use Rattle.xet_records.specs.Version.{version_of}
use Rattle.xet_shards.specs.Read.SectionReading.{files_of}
use Rattle.xet_shards.proofs.Write.Sections.{files_laws}
use Rattle.xet_shards.specs.Lookup.Lookup.{file_table}
use Rattle.xet_shards.proofs.Lookup.Lookups.{record_found, record_not_found}
use Rattle.xet_shards.proofs.shard_format.lookup.file_lookup.look_up.Goals as goal

pub returns-clause-read : goal.returns-clause-read
returns-clause-read g c =
    let old = g.S.ShardSource.meaning c.args.source.now in
    let mid = g.S.ShardSource.meaning c.get_file_info_index_by_hash.new.source in
    let new = g.S.ShardSource.meaning c.first_with_hash.new.source in
    let t = file_table c.args.info.now.metadata old in
    let offset = c.args.info.now.metadata.file_info_offset in
    let hash = c.args.hash.now in
    let found = c.in_ok-found.ensures.looks in
    let visits = c.first_with_hash.ensures.visits in
    MatchResult-from_both c.first_with_hash.result _ _
    (IfOk-weaker c.first_with_hash.result _ _ (record_found (files_of c.args.info.now) (files_laws (version_of c.args.info.now.header.version)) t offset c.in_ok-found.found hash old mid new _ _ found.found found.no_failure found.bounds visits) c.first_with_hash.ensures.answer)
    (IfErr-weaker c.first_with_hash.result _ _ (record_not_found (files_of c.args.info.now) (files_laws (version_of c.args.info.now.header.version)) t offset c.in_ok-found.found hash old mid new _ _ found.found found.no_failure found.bounds visits) c.first_with_hash.ensures.refused)
