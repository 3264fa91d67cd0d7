use Rattle.std.proofs.Common.{◌≡◌, rules, subst}
use Rattle.std.specs.Prelude.{IfOk}
use Rattle.std.proofs.lemmas.Result.{err_from_is_err_and}
use Rattle.xet_core_structures.specs.TwoShards.ByteResults.{key_of}
use Rattle.xet_core_structures.specs.Steps.ByteResultsSteps.{WritesEnd}
use Rattle.xet_core_structures.proofs.TwoShards.SetOperationSteps.{files_failed, xorbs_failed, tables_written}
use Rattle.xet_core_structures.proofs.set_operations.two_shards.results.operate.Goals as goal

pub returns-in_err-files-clause-outcome : goal.returns-in_err-files-clause-outcome
returns-in_err-files-clause-outcome g c =
    let same : key_of c.args.s1.now ≡ key_of c.args.s2.now = search (rules, c.if-ne.false, c.if-ne.ensures, c.ne.ensures) in
    let p = err_from_is_err_and c.from_residual-in_err-files.result c.from_residual-in_err-files.ensures.1 in
    rw (p.1, p.2) (files_failed (g.S.ShardSource.meaning c.args.r1.now) (g.T.ShardSource.meaning c.args.r2.now) c.args.s1.now c.args.s2.now same _ _ _ _ c.laws.ensures _ _ _ _ _ (rw (c.of_files-files_1.ensures, c.of_files-files_2.ensures) at c.in_err-files.ensures))

pub returns-in_err-xorbs-clause-outcome : goal.returns-in_err-xorbs-clause-outcome
returns-in_err-xorbs-clause-outcome g c =
    let same : key_of c.args.s1.now ≡ key_of c.args.s2.now = search (rules, c.if-ne.false, c.if-ne.ensures, c.ne.ensures) in
    let p = err_from_is_err_and c.from_residual-in_err-xorbs.result c.from_residual-in_err-xorbs.ensures.1 in
    rw (p.1, p.2) (xorbs_failed (g.S.ShardSource.meaning c.args.r1.now) (g.T.ShardSource.meaning c.args.r2.now) c.args.s1.now c.args.s2.now same _ _ _ _ c.laws.ensures
    (g.S.ShardSource.meaning c.combine_at.new.r1) (g.T.ShardSource.meaning c.combine_at.new.r2) c.in_ok-files.files _ _ (rw (c.of_files-files_1.ensures, c.of_files-files_2.ensures) at c.in_ok-files.ensures) _ _ _ _ _
    (rw (c.of_xorbs-xorbs_1.ensures, c.of_xorbs-xorbs_2.ensures) at c.in_err-xorbs.ensures))

pub returns-clause-outcome : goal.returns-clause-outcome
returns-clause-outcome g c =
    let same : key_of c.args.s1.now ≡ key_of c.args.s2.now = search (rules, c.if-ne.false, c.if-ne.ensures, c.ne.ensures) in
    let sections = g.W.Write.contents c.combine_at-2.new.out in
    let end = g.W.Write.contents c.write_tables.new.out in
    tables_written (g.S.ShardSource.meaning c.args.r1.now) (g.T.ShardSource.meaning c.args.r2.now) c.args.s1.now c.args.s2.now same _ _ _ _ c.laws.ensures
    (g.S.ShardSource.meaning c.combine_at.new.r1) (g.T.ShardSource.meaning c.combine_at.new.r2) c.in_ok-files.files (g.W.Write.contents c.write_header.new.out) _ (rw (c.of_files-files_1.ensures, c.of_files-files_2.ensures) at c.in_ok-files.ensures) _ _ c.in_ok-xorbs.xorbs _
    (rw (c.of_xorbs-xorbs_1.ensures, c.of_xorbs-xorbs_2.ensures) at c.in_ok-xorbs.ensures) (g.W.Write.contents c.args.out.now) end c.write_tables.result c.in_ok-write_header.ensures.appended
    (subst (λ f. IfOk c.write_tables.result (WritesEnd c.in_ok-files.files c.in_ok-xorbs.xorbs (record f { key = key_of c.args.s1.now }) sections end)) c.plain.ensures c.write_tables.ensures.written)
    c.write_tables.ensures.widths c.write_tables.ensures.causes
