use Rattle.std.proofs.Common.{◌≡◌, List, sym, subst}
use Rattle.std.specs.Prelude.{IfErr}
use Rattle.std.specs.FinMap.{values}
use Rattle.xet_records.specs.declared.file_structs.MDBFileInfo.{MDBFileInfo}
use Rattle.xet_records.specs.declared.xorb_structs.MDBXorbInfo.{MDBXorbInfo}
use Rattle.xet_records.specs.FileRecord.{file_records, file_records_in}
use Rattle.xet_records.specs.Version.{version_of}
use Rattle.xet_base.specs.declared.error.CoreError.TheVariants.{TruncatedHashCollision}
use Rattle.xet_shards.specs.Lookup.Lookup.{WithinBounds, SearchWithinBounds}
use Rattle.xet_shards.specs.Read.SectionReading.{files_of}
use Rattle.xet_shards.proofs.Write.Sections.{files_laws}
use Rattle.xet_shards.specs.Write.Layout.{LayoutOptions, plain_options_in}
use Rattle.xet_shards.specs.Write.WithOptions.{IsBytesWithFileTable}
use Rattle.xet_shards.proofs.Write.WithOptions.{no_file, files_in, files_of_shard}
use Rattle.xet_shards.proofs.Lookup.ShardLookups.{lookup_with_options, lookup_written, lookup_fits, bounds_ever}
use Rattle.xet_shards.proofs.Lookup.TableLookups.{IsLookedUp, lookup_bounded, collision_bounded}
use Rattle.xet_shards.proofs.shard_format.ends.info.MDBShardInfo.get_file_reconstruction_info.Goals as goal

-- files with layout options with their table are looked up
read_in_table : (g : _) (c : goal.After-look_up g) (files : List MDBFileInfo) (xorbs : List MDBXorbInfo) (options : LayoutOptions)
    → IsBytesWithFileTable files xorbs options (g.S.ShardSource.meaning c.args.source.now).bytes c.args.self.now
    → let footer = c.args.self.now.metadata in
    IsLookedUp (files_of c.args.self.now) no_file files footer.file_info_offset footer.file_lookup_offset footer.file_lookup_num_entry (g.S.ShardSource.meaning c.args.source.now)
read_in_table g c files xorbs options is =
    let footer = c.args.self.now.metadata in
    let source = g.S.ShardSource.meaning c.args.source.now in
    subst (λ v. IsLookedUp (file_records_in v) no_file files footer.file_info_offset footer.file_lookup_offset footer.file_lookup_num_entry source) (sym is.version)
    (files_in files xorbs options source footer is.with_options is.ascends is.table)

pub returns-clause-looks : goal.returns-clause-looks
returns-clause-looks g c = record { read = c.look_up.ensures.read; no_failure = c.look_up.ensures.no_failure; kept = c.look_up.ensures.kept }

pub returns-clause-fits : goal.returns-clause-fits
returns-clause-fits g c =
    lookup_fits (version_of c.args.self.now.header.version) _ _ c.args.hash.now (g.S.ShardSource.meaning c.args.source.now) (g.S.ShardSource.meaning c.look_up.new.source) c.look_up.result (returns-clause-looks g c)

-- what the lookup costs, and what it does where eight files share the first word
costs_with_options : (g : _) (c : goal.After-look_up g) (files : List MDBFileInfo) (xorbs : List MDBXorbInfo) (options : LayoutOptions)
    → IsBytesWithFileTable files xorbs options (g.S.ShardSource.meaning c.args.source.now).bytes c.args.self.now
    → WithinBounds file_records files c.args.hash.now.word0 (g.S.ShardSource.meaning c.args.source.now) (g.S.ShardSource.meaning c.look_up.new.source)
costs_with_options g c files xorbs options is =
    bounds_ever file_records (version_of c.args.self.now.header.version) files _ _ _
    (lookup_bounded (files_of c.args.self.now) (files_laws (version_of c.args.self.now.header.version)) no_file files _ _ _ (g.S.ShardSource.meaning c.args.source.now) (read_in_table g c files xorbs options is) (g.S.ShardSource.meaning c.look_up.new.source) c.args.hash.now c.look_up.result (returns-clause-looks g c))

collision_with_options : (g : _) (c : goal.After-look_up g) (files : List MDBFileInfo) (xorbs : List MDBXorbInfo) (options : LayoutOptions)
    → IsBytesWithFileTable files xorbs options (g.S.ShardSource.meaning c.args.source.now).bytes c.args.self.now
    → IfErr c.look_up.result (λ e. e ≡ TruncatedHashCollision c.args.hash.now.word0
    → SearchWithinBounds file_records files c.args.hash.now.word0 (g.S.ShardSource.meaning c.args.source.now) (g.S.ShardSource.meaning c.look_up.new.source))
collision_with_options g c files xorbs options is =
    collision_bounded (files_of c.args.self.now) (files_laws (version_of c.args.self.now.header.version)) no_file files _ _ _ (g.S.ShardSource.meaning c.args.source.now) (read_in_table g c files xorbs options is) (g.S.ShardSource.meaning c.look_up.new.source) c.args.hash.now c.look_up.result (returns-clause-looks g c)

pub returns-clause-with_options : goal.returns-clause-with_options
returns-clause-with_options g c files xorbs options is = record {
  answer = lookup_with_options (files_of c.args.self.now) (files_laws (version_of c.args.self.now.header.version)) no_file files _ _ _ (g.S.ShardSource.meaning c.args.source.now) (read_in_table g c files xorbs options is) (g.S.ShardSource.meaning c.look_up.new.source) c.args.hash.now c.look_up.result (returns-clause-looks g c);
  costs = costs_with_options g c files xorbs options is;
  collision = collision_with_options g c files xorbs options is;
}

pub returns-clause-written : goal.returns-clause-written
returns-clause-written g c s is =
    let options = plain_options_in is.is_bytes.version is.is_bytes.expiry in
    let has_table = files_of_shard is in
    record {
      answer = lookup_written s is.is_bytes.shard (version_of c.args.self.now.header.version) _ _ _ (g.S.ShardSource.meaning c.args.source.now) (read_in_table g c (values s.files) (values s.xorbs) options has_table)
          (g.S.ShardSource.meaning c.look_up.new.source) c.args.hash.now c.look_up.result (returns-clause-looks g c);
      costs = costs_with_options g c (values s.files) (values s.xorbs) options has_table;
      collision = collision_with_options g c (values s.files) (values s.xorbs) options has_table;
    }
