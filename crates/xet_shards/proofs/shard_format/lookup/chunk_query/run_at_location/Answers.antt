use Rattle.std.proofs.Common.{refl, arith}
use Rattle.std.proofs.lemmas.Result.{err_from_is_err_and}
use Rattle.xet_shards.specs.Lookup.RunReading.{query_at}
use Rattle.xet_shards.proofs.Lookup.QueriesAt.{header_fails, absent_fails, run_read}
use Rattle.xet_shards.proofs.shard_format.lookup.chunk_query.run_at_location.Goals as goal

pub returns-in_err-header : goal.returns-in_err-header
returns-in_err-header g c =
    let q = query_at c.args.info.now.metadata c.args.query_hashes.now (c.args.xorb_row, c.args.chunk_index) in
    let p = err_from_is_err_and c.from_residual.result c.from_residual.ensures.1 in
    rw (p.1, p.2) (header_fails q c.if-is_empty.ensures c.in_err-header.ensures)

pub returns-then-is_bookend : goal.returns-then-is_bookend
returns-then-is_bookend g c =
    let q = query_at c.args.info.now.metadata c.args.query_hashes.now (c.args.xorb_row, c.args.chunk_index) in
    absent_fails q c.if-is_empty.ensures c.in_ok-header.ensures c.is_bookend.ensures c.then-is_bookend.either refl

pub returns : goal.returns
returns g c =
    let q = query_at c.args.info.now.metadata c.args.query_hashes.now (c.args.xorb_row, c.args.chunk_index) in
    run_read q c.if-is_empty.ensures c.in_ok-header.ensures c.is_bookend.ensures c.if-is_bookend.false (omega (arith, c.if-chunk_index-header.false)) c.read_run_at.result c.read_run_at.ensures
