use Rattle.std.proofs.Common.{◌≡◌, length, flat_map, subst, arith, rules}
use Rattle.std.proofs.lemmas.List.{take_all}
use Rattle.xet_shards.specs.Write.Puts.{Puts}
use Rattle.xet_shards.specs.Write.Tables.{chunk_table_row_bytes}
use Rattle.xet_shards.proofs.Write.Puts.{puts_as, puts_more}
use Rattle.xet_shards.proofs.shard_format.write.shard_end.put_rows.Goals as goal

pub loop-row-preserved : goal.loop-row-preserved
loop-row-preserved c =
    let loop = c.loop-row in
    let put = c.put-end in
    let row_size : length c.to_bytes.result ≡ 16 = search rules in
    record {
      size = omega (arith, loop.invariant.size, put.ensures.end, row_size);
      puts = puts_more chunk_table_row_bytes c.args.rows.now loop.row-index (record { word = 0; row = 0; index = 0 }) c.loop-row-test.true c.args.out.now loop.out put.new.row c.args.at loop.end put.result loop.invariant.puts
          (puts_as loop.out put.new.row loop.end put.result c.to_bytes.result _ c.to_bytes.ensures put.ensures.end put.ensures.front put.ensures.rest);
    }

pub returns-clause-bytes : goal.returns-clause-bytes
returns-clause-bytes c =
    let loop = c.loop-row in
    subst (λ rows. Puts c.args.out.now loop.out c.args.at loop.end (flat_map chunk_table_row_bytes rows)) (take_all loop.row-index c.args.rows.now c.loop-row-test.false) loop.invariant.puts
