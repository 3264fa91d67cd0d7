use Rattle.std.proofs.Common.{refl, ◌≡◌, ◌≤◌, sym, arith, rules}
use Rattle.xet_base.specs.declared.error.CoreError.TheVariants.{OutOfMemory}
use Rattle.xet_shards.proofs.Read.TableReading.{more_rows_read, table_read, no_memory_for_row, row_fails}
use Rattle.xet_shards.proofs.shard_format.read.table_reader.read_table.Goals as goal

pub returns-in_err-read : goal.returns-in_err-read
returns-in_err-read g c =
    let few : c.args.rows ≤ 4294967295 = omega (arith, c.if-rows-gt-ROW_LIMIT.false) in
    search (rules, row_fails _ _ _ (g.S.ShardSource.meaning c.args.source.now) (g.S.ShardSource.meaning c.loop-row.source) c.args.offset _ _ c.loop-row.invariant _ _ _ g.met.T.TableRow.has_bytes c.loop-row-test.true few c.in_err-read.ensures.refused)

pub returns-in_err-push : goal.returns-in_err-push
returns-in_err-push g c =
    let few : c.args.rows ≤ 4294967295 = omega (arith, c.if-rows-gt-ROW_LIMIT.false) in
    let next = more_rows_read _ _ _ _ (g.S.ShardSource.meaning c.loop-row.source) _ _ _ _ c.loop-row.invariant c.in_ok-read.ensures.value in
    search (rules, no_memory_for_row _ _ _ (g.S.ShardSource.meaning c.args.source.now) (g.S.ShardSource.meaning c.read.new.source) c.args.offset _ _ next c.args.rows OutOfMemory (omega (arith, c.loop-row-test.true)) few refl)

pub loop-row-preserved : goal.loop-row-preserved
loop-row-preserved g c =
    rw c.in_ok-push.ensures.items (more_rows_read _ _ _ _ (g.S.ShardSource.meaning c.loop-row.source) _ _ _ _ c.loop-row.invariant c.in_ok-read.ensures.value)

pub returns : goal.returns
returns g c =
    let few : c.args.rows ≤ 4294967295 = omega (arith, c.if-rows-gt-ROW_LIMIT.false) in
    let all : c.loop-row._row ≡ c.args.rows = omega (arith, c.loop-row-test.false, c.loop-row.auto._row-end) in
    rw (sym all) (table_read _ _ _ _ _ _ _ _ c.loop-row.invariant (omega (arith, few, all)))
