use Rattle.std.proofs.Common.{subst, rules}
use Rattle.xet_records.specs.RecordKind.{in_version}
use Rattle.xet_records.proofs.RecordKinds.{laws_in}
use Rattle.xet_shards.specs.Read.SectionWalk.{KeepsNext}
use Rattle.xet_shards.proofs.Read.SectionReading.{section_fails}
use Rattle.xet_shards.proofs.Read.SectionWalks.{nothing_kept, more_kept, all_kept}
use Rattle.xet_shards.proofs.shard_format.read.section_walk.walk_section.Goals as goal

pub loop-found-init : goal.loop-found-init
loop-found-init g c = rw c.new-found.ensures.items (nothing_kept (in_version g.R.SectionRecord.kind c.args.version) (laws_in g.R.SectionRecord.kind c.laws.ensures c.args.version) g.T.WalkItem.keep _)

pub loop-found-preserved : goal.loop-found-preserved
loop-found-preserved g c =
    let now = g.S.ShardSource.meaning c.loop-found.source in
    let new = g.S.ShardSource.meaning c.keep_next.new.source in
    rw c.in_ok-push.ensures.items (more_kept (in_version g.R.SectionRecord.kind c.args.version) (laws_in g.R.SectionRecord.kind c.laws.ensures c.args.version) g.T.WalkItem.keep _ now new _ _ _ c.in-Some.kept c.loop-found.invariant
    (subst (KeepsNext (in_version g.R.SectionRecord.kind c.args.version) g.T.WalkItem.keep now new c.loop-found.rows_left c.keep_next.new.rows_left) c.in-Some.is c.in_ok-kept.ensures))

pub returns-in_err-kept : goal.returns-in_err-kept
returns-in_err-kept g c =
    let now = g.S.ShardSource.meaning c.loop-found.source in
    search (rules, section_fails (in_version g.R.SectionRecord.kind c.args.version) (laws_in g.R.SectionRecord.kind c.laws.ensures c.args.version) _ now _ _ c.loop-found.invariant.read (g.S.ShardSource.meaning c.keep_next.new.source) c.in_err-kept.field-0.0 c.in_err-kept.ensures)

pub returns : goal.returns
returns g c =
    let now = g.S.ShardSource.meaning c.loop-found.source in
    all_kept (in_version g.R.SectionRecord.kind c.args.version) (laws_in g.R.SectionRecord.kind c.laws.ensures c.args.version) g.T.WalkItem.keep _ now _ _ _ c.loop-found.invariant (search rules)
