use Rattle.std.proofs.Common.{subst, sym, ◌∙◌, true≢false}
use Rattle.std.proofs.lemmas.Result.{err_from_is_err_and}
use Rattle.xet_base.specs.InputLaws.{ReadsBytes-trans}
use Rattle.xet_base.specs.Source.{ReadsBytes}
use Rattle.xet_records.specs.RecordKind.{in_version}
use Rattle.xet_records.specs.Reading.{ReadsNextHeader}
use Rattle.xet_records.specs.Reading.NextRecordNotRead.{no_rows}
use Rattle.xet_records.proofs.RecordKinds.{laws_in}
use Rattle.xet_records.proofs.SectionRecords.{rows_after_header}
use Rattle.xet_shards.proofs.Read.SectionReading.{record_fails}
use Rattle.xet_core_structures.specs.Steps.MergeJoin.{Follows}
use Rattle.xet_core_structures.specs.Steps.MergeJoin.FollowingFails.{not_read, falls}
use Rattle.xet_core_structures.proofs.TwoShards.OneSection.{header_of_found}
use Rattle.xet_core_structures.proofs.set_operations.two_shards.sections.next_header.Goals as goal

pub returns-in_err-header : goal.returns-in_err-header
returns-in_err-header g c =
    let p = err_from_is_err_and c.from_residual.result c.from_residual.ensures.1 in
    rw (p.1, p.2) (not_read (record_fails (in_version g.R.SectionRecord.kind c.args.version) (laws_in g.R.SectionRecord.kind c.laws.ensures c.args.version) g.S.ShardSource.meaning _ c.args.source.now c.read_header.new.input _ c.in_err-header.ensures))

pub returns-in_err-skip_rows_after : goal.returns-in_err-skip_rows_after
returns-in_err-skip_rows_after g c =
    let K = g.R.SectionRecord.kind in
    let begun = subst (ReadsNextHeader (in_version K c.args.version) (ReadsBytes (g.S.ShardSource.meaning c.args.source.now) (g.S.ShardSource.meaning c.read_header.new.input)) c.args.rows_left.now c.read_header.new.rows_left) c.in-Some.is c.in_ok-header.ensures in
    let p = err_from_is_err_and c.from_residual-in_err-skip_rows_after.result c.from_residual-in_err-skip_rows_after.ensures.1 in
    rw (p.1, p.2) (not_read (record_fails (in_version K c.args.version) (laws_in K c.laws.ensures c.args.version) g.S.ShardSource.meaning _ c.args.source.now c.skip_rows_after.new.input _
    (no_rows c.in-Some.header c.read_header.new.input _ begun c.in_err-skip_rows_after.ensures)))

pub returns-then-not-follows : goal.returns-then-not-follows
returns-then-not-follows g c =
    let K = g.R.SectionRecord.kind in
    let old = g.S.ShardSource.meaning c.args.source.now in
    let mid = g.S.ShardSource.meaning c.read_header.new.input in
    let new = g.S.ShardSource.meaning c.skip_rows_after.new.input in
    let begun = subst (ReadsNextHeader (in_version K c.args.version) (ReadsBytes old mid) c.args.rows_left.now c.read_header.new.rows_left) c.in-Some.is c.in_ok-header.ensures in
    let skipped = c.in_ok-skip_rows_after.ensures in
    let read = rows_after_header K c.laws.ensures c.args.version (ReadsBytes old mid) (ReadsBytes mid new) (ReadsBytes old new) _ _ c.in-Some.header skipped.0 (ReadsBytes-trans old mid new) begun c.requires skipped.2 in
    falls tt c.read_header.new.rows_left skipped.0 read
    (λ follows. absurd (true≢false (sym (c.follows.ensures.1 (subst (Follows K c.args.before) (header_of_found K c.laws.ensures _ c.in-Some.header skipped.0 skipped.2) follows)) ∙ c.if-not-follows.true)))
