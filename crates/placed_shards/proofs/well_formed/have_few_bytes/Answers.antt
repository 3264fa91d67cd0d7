use Rattle.std.proofs.Common.{◌≡◌, ◌+◌, IsTrue, false, rules, arith, sym, subst}
use Rattle.xet_records.specs.XorbRecord.{total_bytes}
use Rattle.placed_shards.proofs.ChunkSums.{SumSoFar, sum_at_first, sum_at_last, more_bytes}
use Rattle.placed_shards.proofs.well_formed.have_few_bytes.Goals as goal

pub loop-rest-init : goal.loop-rest-init
loop-rest-init c = record { few = omega arith; sum = λ chunks fit are. sum_at_first chunks c.args.rows.now fit are }

pub loop-rest-preserved : goal.loop-rest-preserved
loop-rest-preserved c =
    let size : c.row-chunk.result.unpacked_segment_bytes ≡ c.from-bytes.result = search rules in
    record {
      few = omega (arith, c.if-bytes-gt-MAX_XORB_BYTES.false);
      sum = λ chunks fit are. subst (λ n. SumSoFar chunks (c.loop-rest.bytes + n) c.split_at.result.1.now) size (subst (SumSoFar chunks (c.loop-rest.bytes + c.row-chunk.result.unpacked_segment_bytes)) (sym c.split_at.ensures.back)
          (more_bytes chunks c.loop-rest.bytes c.loop-rest.rest.now (c.loop-rest.invariant.sum chunks fit are) c.row-chunk.result c.row-chunk.ensures));
    }

pub returns : goal.returns
returns c = λ chunks fit are.
    let sum : total_bytes chunks ≡ c.loop-rest.bytes = sum_at_last chunks c.loop-rest.bytes c.loop-rest.rest.now (c.loop-rest.invariant.sum chunks fit are) (omega (arith, c.loop-rest-test.false)) in
    (λ yes. omega (arith, sum, c.loop-rest.invariant.few), λ few. search rules)

pub returns-then-bytes-gt-MAX_XORB_BYTES : goal.returns-then-bytes-gt-MAX_XORB_BYTES
returns-then-bytes-gt-MAX_XORB_BYTES c = λ chunks fit are.
    let none : ¬ IsTrue false = search rules in
    let size : c.row-chunk.result.unpacked_segment_bytes ≡ c.from-bytes.result = search rules in
    let more = more_bytes chunks c.loop-rest.bytes c.loop-rest.rest.now (c.loop-rest.invariant.sum chunks fit are) c.row-chunk.result c.row-chunk.ensures in
    (λ yes. absurd (none yes), λ few. absurd (omega (arith, more.sum, few, size, c.if-bytes-gt-MAX_XORB_BYTES.true)))
