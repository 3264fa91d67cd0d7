use Rattle.std.proofs.Common.{refl}
use Rattle.std.proofs.lemmas.Result.{err_from_is_err_and}
use Rattle.xet_core_structures.specs.Steps.MergeJoin.SectionsFail.{first_fails, second_fails}
use Rattle.xet_core_structures.proofs.TwoShards.OneSection.{serves_same, pending_start, pending_serves, no_first}
use Rattle.xet_core_structures.proofs.TwoShards.MergeJoin.{pair_of, merging_start, merging_on, fewer_left, sections_combined, pair_failed, first_not_next, second_not_next, served_on, no_bookend, none_left}
use Rattle.xet_core_structures.proofs.set_operations.two_shards.sections.combine_sections.Goals as goal

pub returns-in_err-first : goal.returns-in_err-first
returns-in_err-first g c =
    let K = g.Sec.Record.SectionRecord.kind in
    let one = g.S.ShardSource.meaning in
    let p = err_from_is_err_and c.from_residual.result c.from_residual.ensures.1 in
    rw (p.1, p.2) (first_fails _ refl (no_first K c.laws.ensures c.args.version_1 (one c.args.r1.now) (one c.next_header.new.source) _ c.in_err-first.ensures) (serves_same _ _ refl))

pub returns-in_err-second : goal.returns-in_err-second
returns-in_err-second g c =
    let K = g.Sec.Record.SectionRecord.kind in
    let one = g.S.ShardSource.meaning in
    let two = g.T.ShardSource.meaning in
    let p = err_from_is_err_and c.from_residual-in_err-second.result c.from_residual-in_err-second.ensures.1 in
    rw (p.1, p.2) (second_fails _ refl (no_first K c.laws.ensures c.args.version_2 (two c.args.r2.now) (two c.next_header-2.new.source) _ c.in_err-second.ensures)
    (pending_serves K c.laws.ensures c.args.version_1 (one c.args.r1.now) (one c.next_header.new.source) _ _ _ (pending_start K c.laws.ensures c.args.version_1 (one c.args.r1.now) (one c.next_header.new.source) _ _ c.in_ok-first.ensures)))

pub loop-alloc-init : goal.loop-alloc-init
loop-alloc-init g c =
    let K = g.Sec.Record.SectionRecord.kind in
    let one = g.S.ShardSource.meaning in
    let two = g.T.ShardSource.meaning in
    merging_start K c.laws.ensures c.args.version_1 c.args.version_2 g.Op.RecordOperation.makes g.Op.RecordOperation.makes_nothing _ _ _ _ _ _ _ _ _ _
    c.in_ok-first.ensures c.in_ok-second.ensures c.new-written.ensures

pub returns-in_err-write : goal.returns-in_err-write
returns-in_err-write g c =
    let K = g.Sec.Record.SectionRecord.kind in
    let pair = pair_of K c.laws.ensures c.loop-alloc.first c.loop-alloc.second _ _ c.next_pair.ensures (c.goes_on.ensures.0 c.loop-alloc-test.true) in
    let p = err_from_is_err_and c.from_residual-in_err-write.result c.from_residual-in_err-write.ensures.1 in
    rw (p.1, p.2) (pair_failed K c.laws.ensures c.args.version_1 c.args.version_2 g.Op.RecordOperation.makes _ _ _ _ _ _ _ _ _ _ _ c.loop-alloc.invariant _ _ pair.0 pair.1 _ _ _ _
    (g.met.Sec.WrittenSection.counts_rows _ _ c.loop-alloc.invariant.written) c.in_err-write.ensures)

pub returns-in_err-first-2 : goal.returns-in_err-first-2
returns-in_err-first-2 g c =
    let K = g.Sec.Record.SectionRecord.kind in
    let pair = pair_of K c.laws.ensures c.loop-alloc.first c.loop-alloc.second _ _ c.next_pair.ensures (c.goes_on.ensures.0 c.loop-alloc-test.true) in
    let wrote = c.in_ok-write.ensures in
    let p = err_from_is_err_and c.from_residual-in_err-first-2.result c.from_residual-in_err-first-2.ensures.1 in
    rw (p.1, p.2) (first_not_next K c.laws.ensures c.args.version_1 c.args.version_2 g.Op.RecordOperation.makes _ _ _ _ _ _ _ _ _ _ _ c.loop-alloc.invariant _ _ pair.0 pair.1 _ _ _ wrote.one wrote.other _
    wrote.reads_first wrote.reads_second c.in_err-first-2.ensures)

pub returns-in_err-second-2 : goal.returns-in_err-second-2
returns-in_err-second-2 g c =
    let K = g.Sec.Record.SectionRecord.kind in
    let pair = pair_of K c.laws.ensures c.loop-alloc.first c.loop-alloc.second _ _ c.next_pair.ensures (c.goes_on.ensures.0 c.loop-alloc-test.true) in
    let wrote = c.in_ok-write.ensures in
    let p = err_from_is_err_and c.from_residual-in_err-second-2.result c.from_residual-in_err-second-2.ensures.1 in
    rw (p.1, p.2) (second_not_next K c.laws.ensures c.args.version_1 c.args.version_2 g.Op.RecordOperation.makes _ _ _ _ _ _ _ _ _ _ _ c.loop-alloc.invariant _ _ pair.0 pair.1 _ _ _ wrote.other _
    (served_on K c.laws.ensures c.args.version_1 c.args.version_2 g.Op.RecordOperation.makes _ _ _ _ _ _ _ _ _ _ _ c.loop-alloc.invariant _ _ pair.0 pair.1 _ _ _ wrote.one _ wrote.reads_first c.in_ok-first-2.ensures)
    wrote.reads_second c.in_err-second-2.ensures)

pub loop-alloc-smaller : goal.loop-alloc-smaller
loop-alloc-smaller g c =
    let K = g.Sec.Record.SectionRecord.kind in
    let pair = pair_of K c.laws.ensures c.loop-alloc.first c.loop-alloc.second _ _ c.next_pair.ensures (c.goes_on.ensures.0 c.loop-alloc-test.true) in
    fewer_left K c.laws.ensures c.args.version_1 c.args.version_2 _ _ _ _ _ _ pair.0 _ _ _ _ _ _ _ _ pair.1 c.in_ok-first-2.ensures c.in_ok-second-2.ensures

pub loop-alloc-preserved : goal.loop-alloc-preserved
loop-alloc-preserved g c =
    let K = g.Sec.Record.SectionRecord.kind in
    let pair = pair_of K c.laws.ensures c.loop-alloc.first c.loop-alloc.second _ _ c.next_pair.ensures (c.goes_on.ensures.0 c.loop-alloc-test.true) in
    merging_on K c.laws.ensures c.args.version_1 c.args.version_2 g.Op.RecordOperation.makes _ _ _ _ _ _ _ _ _ _ _ c.loop-alloc.invariant _ _ pair.0 pair.1 _ _ _ _ _ _ _ _ _ _ _
    (g.met.Sec.WrittenSection.counts_rows _ _ c.loop-alloc.invariant.written) c.in_ok-write.ensures c.in_ok-first-2.ensures c.in_ok-second-2.ensures

pub returns-in_err-write_bookend : goal.returns-in_err-write_bookend
returns-in_err-write_bookend g c =
    let K = g.Sec.Record.SectionRecord.kind in
    let merging = c.loop-alloc.invariant in
    let p = err_from_is_err_and c.from_residual-in_err-write_bookend.result c.from_residual-in_err-write_bookend.ensures.1 in
    rw (p.1, p.2) (no_bookend K c.laws.ensures c.args.version_1 c.args.version_2 g.Op.RecordOperation.makes _ _ _ _ _ (pending_serves K c.laws.ensures c.args.version_1 _ _ _ _ _ merging.first) (pending_serves K c.laws.ensures c.args.version_2 _ _ _ _ _ merging.second)
    c.in_err-write_bookend.ensures.causes)

pub returns : goal.returns
returns g c =
    let K = g.Sec.Record.SectionRecord.kind in
    let none = none_left K c.laws.ensures c.loop-alloc.first c.loop-alloc.second _ c.goes_on.ensures.1 c.loop-alloc-test.false in
    sections_combined K c.laws.ensures c.args.version_1 c.args.version_2 g.Op.RecordOperation.makes _ _ _ _ _ _ _ _ _ _ _ c.loop-alloc.invariant _ none.0 none.1 c.in_ok-write_bookend.ensures.appended
