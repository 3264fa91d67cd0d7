use Rattle.std.proofs.Common.{◌≡◌, ◌-◌, ◌<◌, List, ℕ, length, take, drop, refl, arith, rules}
use Rattle.std.specs.Prelude.{min}
use Rattle.shard_concatenation.proofs.WithinSpan.{more_put, rest_is}
use Rattle.shard_concatenation.proofs.spans.put_within.Goals as goal

pub returns-then-count-gt0 : goal.returns-then-count-gt0
returns-then-count-gt0 c = λ before at_is holds.
    let bytes = c.args.bytes.now in
    let skip = c.min.result in
    let rest : List ℕ = take (length bytes - skip) (drop skip bytes) in
    let skip_is : skip ≡ min (c.args.from - c.args.at) (length bytes) = search rules in
    let place_is : c.saturating_sub-place.result ≡ c.args.at - c.args.from = search rules in
    let count_is : c.min-count.result ≡ min (length c.args.out.now - c.saturating_sub-place.result) (length rest) = search rules in
    let some : 0 < c.min-count.result = search rules in
    more_put c.args.from c.args.at c.saturating_sub-place.result skip c.min-count.result c.put.result before bytes rest (take c.min-count.result rest) c.args.out.now c.put.new.row at_is place_is skip_is (rest_is skip bytes) count_is some refl
    c.put.ensures.end c.put.ensures.front (omega (arith, c.put.auto.row)) holds
