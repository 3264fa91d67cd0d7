use Rattle.std.proofs.Common.{◌≡◌, ◌^◌, ◌<◌, ap, ◌∙◌, subst, arith, rules}
use Rattle.xet_records.specs.RecordKind.{in_version}
use Rattle.xet_records.proofs.RecordKinds.{laws_in}
use Rattle.xet_base.specs.declared.error.CoreError.{CoreError}
use Rattle.xet_base.specs.Source.{after_seek}
use Rattle.xet_shards.specs.Steps.SectionReadingSteps.{ReadsOne}
use Rattle.xet_shards.proofs.Read.SectionReading.{record_fails}
use Rattle.xet_shards.specs.Lookup.Lookup.{row_at}
use Rattle.xet_shards.proofs.Lookup.Lookups.{info_no_seek, info_read, info_bookend, info_fails}
use Rattle.xet_shards.proofs.shard_format.read.section_reader.read_record_at.Goals as goal

pub returns-in_err-seek_to : goal.returns-in_err-seek_to
returns-in_err-seek_to g c =
    let fits : row_at c.args.offset c.args.row < 2 ^ 64 = omega (arith, c.in-Some.ensures, c.from.ensures) in
    search (rules, λ (e : CoreError). info_no_seek (in_version g.R.SectionRecord.kind c.args.version) (laws_in g.R.SectionRecord.kind c.laws.ensures c.args.version) c.args.offset c.args.row _ _ _ e fits c.in_err-seek_to.ensures)

pub returns-in_err-found : goal.returns-in_err-found
returns-in_err-found g c =
    let offset = c.args.offset in
    let mid = g.S.ShardSource.meaning c.seek_to.new.self in
    let row_offset_is : c.in-Some.row_offset ≡ row_at offset c.args.row = omega (arith, c.in-Some.ensures, c.from.ensures) in
    search (
      rules,
      info_fails (in_version g.R.SectionRecord.kind c.args.version) (laws_in g.R.SectionRecord.kind c.laws.ensures c.args.version) offset c.args.row (g.S.ShardSource.meaning c.args.source.now) mid (g.S.ShardSource.meaning c.read_record.new.input) (omega (arith, row_offset_is)) (c.in_ok-seek_to.ensures ∙ ap (after_seek (g.S.ShardSource.meaning c.args.source.now)) row_offset_is) c.in_err-found.field-0.0
          (record_fails (in_version g.R.SectionRecord.kind c.args.version) (laws_in g.R.SectionRecord.kind c.laws.ensures c.args.version) g.S.ShardSource.meaning 4294967296 c.seek_to.new.self _ _ c.in_err-found.ensures),
    )

pub returns-in-Some-2 : goal.returns-in-Some-2
returns-in-Some-2 g c =
    let offset = c.args.offset in
    let mid = g.S.ShardSource.meaning c.seek_to.new.self in
    let row_offset_is : c.in-Some.row_offset ≡ row_at offset c.args.row = omega (arith, c.in-Some.ensures, c.from.ensures) in
    info_read (in_version g.R.SectionRecord.kind c.args.version) (laws_in g.R.SectionRecord.kind c.laws.ensures c.args.version) offset c.args.row _ mid _ (omega (arith, row_offset_is)) (c.in_ok-seek_to.ensures ∙ ap (after_seek (g.S.ShardSource.meaning c.args.source.now)) row_offset_is)
    4294967296 c.read_record.new.rows_left c.in-Some-2.found
    (subst (ReadsOne (in_version g.R.SectionRecord.kind c.args.version) mid (g.S.ShardSource.meaning c.read_record.new.input) 4294967296 c.read_record.new.rows_left) c.in-Some-2.is c.in_ok-found.ensures)

pub returns-in-None : goal.returns-in-None
returns-in-None g c =
    let offset = c.args.offset in
    let mid = g.S.ShardSource.meaning c.seek_to.new.self in
    let row_offset_is : c.in-Some.row_offset ≡ row_at offset c.args.row = omega (arith, c.in-Some.ensures, c.from.ensures) in
    info_bookend (in_version g.R.SectionRecord.kind c.args.version) (laws_in g.R.SectionRecord.kind c.laws.ensures c.args.version) offset c.args.row _ mid _ (omega (arith, row_offset_is)) (c.in_ok-seek_to.ensures ∙ ap (after_seek (g.S.ShardSource.meaning c.args.source.now)) row_offset_is) _ c.new-in-None.ensures.bytes
    (subst (ReadsOne (in_version g.R.SectionRecord.kind c.args.version) mid (g.S.ShardSource.meaning c.read_record.new.input) 4294967296 c.read_record.new.rows_left) c.in-None.is c.in_ok-found.ensures).bookend
