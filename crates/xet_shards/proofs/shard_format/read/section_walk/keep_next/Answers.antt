use Rattle.std.proofs.Common.{◌≡◌, sym, ap, ◌∙◌, subst, rules}
use Rattle.xet_records.specs.RecordKind.{in_version}
use Rattle.xet_records.proofs.RecordKinds.{laws_in}
use Rattle.xet_base.specs.declared.error.CoreError.{CoreError}
use Rattle.xet_base.specs.Source.{ReadsBytes}
use Rattle.xet_base.specs.InputLaws.{ReadsBytes-trans}
use Rattle.xet_records.specs.Reading.{ReadsNextHeader}
use Rattle.xet_records.specs.Reading.NextRecordNotRead.{no_rows}
use Rattle.xet_records.proofs.SectionRecords.{rows_after_header}
use Rattle.xet_shards.specs.Steps.SectionReadingSteps.{ReadsNext}
use Rattle.xet_shards.proofs.Read.SectionReading.{record_fails, no_offset_after}
use Rattle.xet_shards.proofs.shard_format.read.section_walk.keep_next.Goals as goal

pub returns-in_err-header : goal.returns-in_err-header
returns-in_err-header g c =
    let K = in_version g.R.SectionRecord.kind c.args.version in
    let laws = laws_in g.R.SectionRecord.kind c.laws.ensures c.args.version in
    let meaning = g.S.ShardSource.meaning in
    search (rules, sym c.in_ok-offset.ensures.1, record_fails K laws meaning _ _ _ _ c.in_err-header.ensures)

pub returns-in_err-rest : goal.returns-in_err-rest
returns-in_err-rest g c =
    let K = in_version g.R.SectionRecord.kind c.args.version in
    let laws = laws_in g.R.SectionRecord.kind c.laws.ensures c.args.version in
    let meaning = g.S.ShardSource.meaning in
    let start = meaning c.position.new.self in
    let mid = meaning c.read_header.new.input in
    let begun = subst (ReadsNextHeader K (ReadsBytes start mid) c.args.rows_left.now c.read_header.new.rows_left) c.in-Some.is c.in_ok-header.ensures in
    search (
      rules,
      sym c.in_ok-offset.ensures.1,
      (record_fails K laws meaning _ c.position.new.self _ _ (no_rows c.in-Some.header c.read_header.new.input _ begun c.in_err-rest.ensures)),
    )

pub returns-in_err-position : goal.returns-in_err-position
returns-in_err-position g c =
    let K = in_version g.R.SectionRecord.kind c.args.version in
    let laws = laws_in g.R.SectionRecord.kind c.laws.ensures c.args.version in
    let meaning = g.S.ShardSource.meaning in
    let start = meaning c.position.new.self in
    let mid = meaning c.read_header.new.input in
    let now = meaning c.skip_rows_after.new.input in
    let begun = subst (ReadsNextHeader K (ReadsBytes start mid) c.args.rows_left.now c.read_header.new.rows_left) c.in-Some.is c.in_ok-header.ensures in
    let skipped = c.in_ok-rest.ensures in
    let next = rows_after_header g.R.SectionRecord.kind c.laws.ensures c.args.version _ _ _ _ _ c.in-Some.header skipped.0 (ReadsBytes-trans start mid now) begun c.requires skipped.2 in
    search (rules, sym c.in_ok-offset.ensures.1, λ (e : CoreError). no_offset_after K laws _ _ start now _ skipped.0 _ e next c.in_err-position.ensures)

pub returns : goal.returns
returns g c =
    let K = in_version g.R.SectionRecord.kind c.args.version in
    let laws = laws_in g.R.SectionRecord.kind c.laws.ensures c.args.version in
    let meaning = g.S.ShardSource.meaning in
    let start = meaning c.position.new.self in
    let mid = meaning c.read_header.new.input in
    let now = meaning c.skip_rows_after.new.input in
    let begun = subst (ReadsNextHeader K (ReadsBytes start mid) c.args.rows_left.now c.read_header.new.rows_left) c.in-Some.is c.in_ok-header.ensures in
    let skipped = c.in_ok-rest.ensures in
    let r = skipped.0 in
    let read = skipped.2 in
    let next = rows_after_header g.R.SectionRecord.kind c.laws.ensures c.args.version _ _ _ _ _ c.in-Some.header r (ReadsBytes-trans start mid now) begun c.requires read in
    let same : K.header_of r ≡ c.in-Some.header = ap K.header_of (sym read.returned) ∙ c.laws.ensures.same_header read.stored ∙ read.same_header in (
      r,
      c.of_record.ensures r same skipped.1 ∙ ap (λ n. g.T.WalkItem.keep n r) c.in_ok-offset.ensures.0,
      subst (λ s. ReadsNext K (meaning c.args.source.now) s c.args.rows_left.now c.read_header.new.rows_left r) (sym c.in_ok-position.ensures.1)
          (subst (λ s. ReadsNext K s now c.args.rows_left.now c.read_header.new.rows_left r) c.in_ok-offset.ensures.1 next),
    )
