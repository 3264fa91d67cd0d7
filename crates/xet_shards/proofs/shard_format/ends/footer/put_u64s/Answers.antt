use Rattle.std.proofs.Common.{get_or, flat_map, subst, arith}
use Rattle.std.proofs.lemmas.List.{take_all}
use Rattle.xet_base.specs.Bytes.{u64_bytes}
use Rattle.xet_base.proofs.Bytes.{length-u64_bytes}
use Rattle.xet_shards.specs.Write.Puts.{Puts}
use Rattle.xet_shards.proofs.Write.Puts.{puts_more}
use Rattle.xet_shards.proofs.shard_format.ends.footer.put_u64s.Goals as goal

pub loop-value-preserved : goal.loop-value-preserved
loop-value-preserved c =
    let loop = c.loop-value in
    let put = c.put_u64-end in
    let value = get_or c.args.values.now loop.value-index 0 in
    record {
      size = omega (arith, loop.invariant.size, put.ensures.end);
      puts = puts_more u64_bytes c.args.values.now loop.value-index 0 c.loop-value-test.true c.args.out.now loop.out put.new.row c.args.at loop.end put.result loop.invariant.puts
          (record { end_is = omega (arith, put.ensures.end, length-u64_bytes value); front = put.ensures.front; rest = put.ensures.rest });
    }

pub returns-clause-front : goal.returns-clause-front
returns-clause-front c =
    let loop = c.loop-value in
    let puts : Puts c.args.out.now loop.out c.args.at loop.end (flat_map u64_bytes c.args.values.now) = subst (λ values. Puts c.args.out.now loop.out c.args.at loop.end (flat_map u64_bytes values)) (take_all loop.value-index c.args.values.now c.loop-value-test.false) loop.invariant.puts in
    puts.front

pub returns-clause-rest : goal.returns-clause-rest
returns-clause-rest c = c.loop-value.invariant.puts.rest
