use Rattle.std.proofs.Common.{arith}
use Rattle.xet_c.proofs.Outcomes.{outcome_of_span}
use Rattle.xet_c.proofs.concatenate.xet_concatenate_span.Goals as goal

pub returns : goal.returns
returns c =
    let r = c.concatenate_span_into-filled.result in
    let e = c.concatenate_span_into-filled.ensures in
    record {
      causes = outcome_of_span _ _ _ _ _ _ _ _ r (omega arith) e.causes c.answer_span.ensures;
      parts = λ key parts fit are. outcome_of_span _ _ _ _ _ _ _ _ r (omega arith) (e.parts key parts fit are) c.answer_span.ensures;
      order = λ key parts fit are each. outcome_of_span _ _ _ _ _ _ _ _ r (omega arith) (e.order key parts fit are each) c.answer_span.ensures;
      succeeds = λ key parts row are. outcome_of_span _ _ _ _ _ _ _ _ r (omega arith) (e.succeeds key parts row are) c.answer_span.ensures;
      shard = λ shards is. outcome_of_span _ _ _ _ _ _ _ _ r (omega arith) (e.shard shards is) c.answer_span.ensures;
      shard_succeeds = λ shards all shard row is some. outcome_of_span _ _ _ _ _ _ _ _ r (omega arith) (e.shard_succeeds shards all shard row is some) c.answer_span.ensures;
      ranges = λ version key cuts join parts shard are_cuts are_parts are. outcome_of_span _ _ _ _ _ _ _ _ r (omega arith) (e.ranges version key cuts join parts shard are_cuts are_parts are) c.answer_span.ensures;
    }
