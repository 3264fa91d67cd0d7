use Rattle.std.proofs.Common.{◌+◌, arith}
use Rattle.xet_shards.specs.Lookup.RunReading.{query_at}
use Rattle.xet_shards.proofs.Lookup.RunsAt.{run_few, none_read, some_read}
use Rattle.xet_shards.proofs.shard_format.lookup.run_reader.read_run_at.Goals as goal

pub returns-then-length-eq0 : goal.returns-then-length-eq0
returns-then-length-eq0 g c =
    let q = query_at c.args.info.now.metadata c.args.query_hashes.now (c.args.row, c.args.index) in
    none_read q c.args.header.now (λ i. c.from.ensures i + 1 + c.from-2.ensures i) c.in_ok-seek_to_row.ensures c.in_ok-length.ensures c.requires c.if-length-eq0.true

pub overflow_add-segment : goal.overflow_add-segment
overflow_add-segment g c = omega (arith, run_few c.in_ok-length.ensures, c.requires)

pub returns : goal.returns
returns g c =
    let q = query_at c.args.info.now.metadata c.args.query_hashes.now (c.args.row, c.args.index) in
    some_read q c.args.header.now (λ i. c.from.ensures i + 1 + c.from-2.ensures i) c.in_ok-seek_to_row.ensures c.in_ok-length.ensures c.requires c.if-length-eq0.false
