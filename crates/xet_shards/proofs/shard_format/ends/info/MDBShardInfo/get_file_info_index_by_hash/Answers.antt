use Rattle.std.proofs.Common.{subst}
use Rattle.std.specs.FinMap.{values}
use Rattle.xet_records.specs.FileRecord.{file_records_in}
use Rattle.xet_shards.proofs.Write.Sections.{files_laws}
use Rattle.xet_shards.specs.Write.Layout.{plain_options_in}
use Rattle.xet_shards.specs.Lookup.Lookup.{file_table, LooksUpIndex}
use Rattle.xet_shards.proofs.Write.WithOptions.{no_file, files_in, files_of_shard}
use Rattle.xet_shards.proofs.Lookup.TableLookups.{index_written, index_bounded}
use Rattle.xet_shards.proofs.shard_format.ends.info.MDBShardInfo.get_file_info_index_by_hash.Goals as goal

pub returns-clause-looks : goal.returns-clause-looks
returns-clause-looks g c =
    let old = g.S.ShardSource.meaning c.args.source.now in
    let new = g.S.ShardSource.meaning c.find_rows.new.source in
    subst (λ w. LooksUpIndex (file_table c.args.self.now.metadata old) w c.args.dest.now c.find_rows.new.dest old new c.find_rows.result) c.truncate_hash.ensures c.find_rows.ensures

pub returns-clause-with_options : goal.returns-clause-with_options
returns-clause-with_options g c files xorbs options is =
    let old = g.S.ShardSource.meaning c.args.source.now in
    let footer = c.args.self.now.metadata in
    let looked =
    files_in files xorbs options old footer is.with_options is.ascends is.table in
    record {
      answer = index_written (file_records_in options.version) (files_laws options.version) no_file files footer.file_info_offset footer.file_lookup_offset footer.file_lookup_num_entry old
          looked _ _ _ _ c.find_rows.result (returns-clause-looks g c);
      costs = index_bounded (file_records_in options.version) (files_laws options.version) no_file files footer.file_info_offset footer.file_lookup_offset footer.file_lookup_num_entry old
          looked _ _ _ _ c.find_rows.result (returns-clause-looks g c);
    }

pub returns-clause-written : goal.returns-clause-written
returns-clause-written g c s is =
    returns-clause-with_options g c (values s.files) (values s.xorbs) (plain_options_in is.is_bytes.version is.is_bytes.expiry) (files_of_shard is)
