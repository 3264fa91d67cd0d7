use Rattle.std.proofs.Common.{refl, subst}
use Rattle.std.specs.FinMap.{values}
use Rattle.xet_records.specs.XorbRecord.{xorb_records}
use Rattle.xet_records.proofs.RecordKinds.{xorb_laws}
use Rattle.xet_shards.specs.Write.Layout.{plain_options_in}
use Rattle.xet_shards.specs.Lookup.Lookup.{xorb_table, LooksUpIndex}
use Rattle.xet_shards.proofs.Write.WithOptions.{no_xorb, xorbs_in, shard_with_options, xorbs_ascend}
use Rattle.xet_shards.proofs.Lookup.TableLookups.{index_written, index_bounded}
use Rattle.xet_shards.proofs.shard_format.ends.info.MDBShardInfo.get_xorb_info_index_by_hash.Goals as goal

pub returns-clause-looks : goal.returns-clause-looks
returns-clause-looks g c =
    let old = g.S.ShardSource.meaning c.args.source.now in
    let new = g.S.ShardSource.meaning c.find_rows.new.source in
    subst (λ w. LooksUpIndex (xorb_table c.args.self.now.metadata old) w c.args.dest.now c.find_rows.new.dest old new c.find_rows.result) c.truncate_hash.ensures c.find_rows.ensures

pub returns-clause-with_options : goal.returns-clause-with_options
returns-clause-with_options g c files xorbs options is ascends with_table =
    let old = g.S.ShardSource.meaning c.args.source.now in
    let footer = c.args.self.now.metadata in
    let looked = xorbs_in files xorbs options old footer is ascends with_table in
    record {
      answer = index_written xorb_records xorb_laws no_xorb xorbs footer.xorb_info_offset footer.xorb_lookup_offset footer.xorb_lookup_num_entry old
          looked _ _ _ _ c.find_rows.result (returns-clause-looks g c);
      costs = index_bounded xorb_records xorb_laws no_xorb xorbs footer.xorb_info_offset footer.xorb_lookup_offset footer.xorb_lookup_num_entry old
          looked _ _ _ _ c.find_rows.result (returns-clause-looks g c);
    }

pub returns-clause-written : goal.returns-clause-written
returns-clause-written g c s is =
    returns-clause-with_options g c (values s.files) (values s.xorbs) (plain_options_in is.is_bytes.version is.is_bytes.expiry)
    (shard_with_options is) (xorbs_ascend s is.is_bytes.shard) refl
