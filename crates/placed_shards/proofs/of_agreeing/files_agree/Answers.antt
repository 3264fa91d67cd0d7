use Rattle.std.proofs.Common.{◌↔◌, subst, rules}
use Rattle.std.specs.Prelude.{IsTrue}
use Rattle.xet_records.specs.Merging.{Agree}
use Rattle.placed_shards.proofs.Agreeing.{both_agree, no_segments}
use Rattle.placed_shards.proofs.of_agreeing.files_agree.Goals as goal
use Rattle.placed_shards.proofs.of_agreeing.files_agree.Goals.{then-same_segments, else-same_segments}

pub returns : goal.returns
returns c =
    let x = c.in_ok-one.one in
    let y = c.in_ok-other.other in
    subst (λ p. p) (λ i. IsTrue c.if-same_segments.result ↔ Agree (c.in_ok-one.ensures i) (c.in_ok-other.ensures i))
    (elim c.if-same_segments.branch [
      | then-same_segments w ↦ subst (λ b. IsTrue b ↔ Agree x y) (search rules) (both_agree x y w.agree_on_parts.result (c.same_segments.ensures.0 (search rules)) w.agree_on_parts.ensures)
      | else-same_segments w ↦ subst (λ b. IsTrue b ↔ Agree x y) (search rules) (no_segments x y c.same_segments.result (search rules) c.same_segments.ensures)
    ])
