use Rattle.std.proofs.Common.{◌+◌, refl, ap, arith, rules}
use Rattle.xet_shards.proofs.Lookup.Runs.{no_run, run_goes_on, run_stops, run_passes, run_fails}
use Rattle.xet_shards.proofs.shard_format.lookup.run_reader.read_run.Goals as goal

pub loop-query_hash-init : goal.loop-query_hash-init
loop-query_hash-init g c = (no_run, refl)

pub returns-in_err-chunk : goal.returns-in_err-chunk
returns-in_err-chunk g c =
    let now = c.loop-query_hash.invariant in
    search (rules, run_fails now.0 now.1 c.loop-query_hash-test.true c.if-length-left.false c.in_err-chunk.ensures)

pub returns-then-ne : goal.returns-then-ne
returns-then-ne g c =
    let now = c.loop-query_hash.invariant in
    run_stops now.0 now.1 c.loop-query_hash-test.true c.if-length-left.false c.in_ok-chunk.ensures _ c.keyed_chunk_hash.ensures c.if-ne.ensures

pub returns-in_default : goal.returns-in_default
returns-in_default g c =
    let now = c.loop-query_hash.invariant in
    run_passes now.0 now.1 c.loop-query_hash-test.true c.if-length-left.false c.in_ok-chunk.ensures _ c.keyed_chunk_hash.ensures c.if-ne.ensures c.new.ensures.bytes (omega (arith, c.in_default.ensures))

pub loop-query_hash-preserved : goal.loop-query_hash-preserved
loop-query_hash-preserved g c =
    let now = c.loop-query_hash.invariant in (
      run_goes_on now.0 now.1 c.loop-query_hash-test.true c.if-length-left.false c.in_ok-chunk.ensures _ c.keyed_chunk_hash.ensures c.if-ne.ensures c.in-Some.ensures.1 (omega (arith, c.in-Some.ensures)),
      ap (λ n. n + 1) now.1,
    )
