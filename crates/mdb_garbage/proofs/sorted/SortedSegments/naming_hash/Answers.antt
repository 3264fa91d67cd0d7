use Rattle.std.proofs.Common.{◌≡◌, ◌≤◌, ◌↔◌, Contains, take, drop, ◌-◌, subst, rules, arith}
use Rattle.mdb_garbage.proofs.Runs.{start_first, run_has}
use Rattle.mdb_garbage.proofs.sorted.SortedSegments.naming_hash.Goals as goal

pub prove-unreachable-requires : goal.prove-unreachable-requires
prove-unreachable-requires c =
    let ordered = start_first c.as_slice-segments.result.now c.args.hash c.start_of-start.result c.end_of-end.result c.start_of-start.ensures.point c.end_of-end.ensures.point c.end_of-end.ensures.bound c.start_of-start.ensures.bound in
    omega (arith, ordered)

pub returns : goal.returns
returns c = λ s.
    let ordered : c.start_of-start.result ≤ c.end_of-end.result = search rules in
    subst (λ l. Contains (take (c.end_of-end.result - c.start_of-start.result) (drop c.start_of-start.result c.as_slice-segments.result.now)) s ↔ (Contains l s × (s.xorb ≡ c.args.hash))) c.as_slice-segments.ensures.value
    (run_has c.as_slice-segments.result.now c.args.hash c.start_of-start.result c.end_of-end.result c.start_of-start.ensures.point c.end_of-end.ensures.point c.end_of-end.ensures.bound ordered s)
