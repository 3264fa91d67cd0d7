use Rattle.std.proofs.Common.{subst}
use Rattle.std.proofs.lemmas.Result.{err_from_is_err_and}
use Rattle.xet_core_structures.specs.Steps.MergeJoin.{CombinesSections}
use Rattle.xet_core_structures.specs.TwoShards.Streams.{streams}
use Rattle.xet_core_structures.proofs.TwoShards.SetOperationSteps.{first_not_moved, second_not_moved}
use Rattle.xet_core_structures.proofs.set_operations.two_shards.results.combine_at.Goals as goal

pub returns-in_err-seek : goal.returns-in_err-seek
returns-in_err-seek g c =
    let one = g.S.ShardSource.meaning in
    let p = err_from_is_err_and c.from_residual.result c.from_residual.ensures.1 in
    rw (p.1, p.2) (first_not_moved g.Sec.Record.SectionRecord.kind c.args.at_1.version c.args.at_2.version g.Op.RecordOperation.makes (one c.args.r1.now) (g.T.ShardSource.meaning c.args.r2.now) (one c.seek.new.source) c.args.at_1.offset c.args.at_2.offset _
    c.in_err-seek.ensures.bytes c.in_err-seek.ensures.causes)

pub returns-in_err-seek-2 : goal.returns-in_err-seek-2
returns-in_err-seek-2 g c =
    let one = g.S.ShardSource.meaning in
    let two = g.T.ShardSource.meaning in
    let p = err_from_is_err_and c.from_residual-in_err-seek-2.result c.from_residual-in_err-seek-2.ensures.1 in
    rw (p.1, p.2) (second_not_moved g.Sec.Record.SectionRecord.kind c.args.at_1.version c.args.at_2.version g.Op.RecordOperation.makes (one c.args.r1.now) (two c.args.r2.now) (two c.seek-2.new.source) c.args.at_1.offset c.args.at_2.offset _ (one c.seek.new.source)
    c.in_ok-seek.ensures.moved c.in_err-seek-2.ensures.bytes c.in_err-seek-2.ensures.causes)

pub returns : goal.returns
returns g c =
    let new = streams (g.S.ShardSource.meaning c.combine_sections.new.r1) (g.T.ShardSource.meaning c.combine_sections.new.r2) (g.W.Write.contents c.combine_sections.new.out) in
    subst (λ p. p) (λ i. CombinesSections g.Sec.Record.SectionRecord.kind c.args.at_1.version c.args.at_2.version g.Op.RecordOperation.makes
    (streams (c.in_ok-seek.ensures.moved i) (c.in_ok-seek-2.ensures.moved i) (g.W.Write.contents c.args.out.now)) new g.Sec.WrittenSection.has_written c.combine_sections.result) c.combine_sections.ensures
