use Rattle.std.proofs.Common.{inl, inr}
use Rattle.std.proofs.lemmas.Result.{err_from_is_err_and}
use Rattle.placed_shards.specs.Content.{content}
use Rattle.placed_shards.proofs.Opening.{opened_ascend}
use Rattle.shard_bytes.specs.declared.combine.Operation.TheVariants.{Union, Difference}
use Rattle.shard_bytes.proofs.Combining.{combined_to}
use Rattle.shard_bytes.proofs.combine.combined.Goals as goal

pub returns-in_err-one : goal.returns-in_err-one
returns-in_err-one c =
    let p = err_from_is_err_and c.from_residual.result c.from_residual.ensures.1 in
    rw (p.1, p.2) (inr (inl c.in_err-one.ensures))

pub returns-in_err-other : goal.returns-in_err-other
returns-in_err-other c =
    let p = err_from_is_err_and c.from_residual-in_err-other.result c.from_residual-in_err-other.ensures.1 in
    rw (p.1, p.2) (inr (inr (inl (content c.in_ok-one.one, c.in_ok-one.ensures.1, c.in_err-other.ensures))))

pub union-requires-clause-ascend : goal.union-requires-clause-ascend
union-requires-clause-ascend c = (opened_ascend c.args.first.now _ c.in_ok-one.ensures.1, opened_ascend c.args.second.now _ c.in_ok-other.ensures.1)

pub difference-requires-clause-ascend : goal.difference-requires-clause-ascend
difference-requires-clause-ascend c = (opened_ascend c.args.first.now _ c.in_ok-one.ensures.1, opened_ascend c.args.second.now _ c.in_ok-other.ensures.1)

pub returns-in-Union : goal.returns-in-Union
returns-in-Union c =
    rw c.in-Union.is (combined_to Union c.args.first.now c.args.second.now (content c.in_ok-one.one) (content c.in_ok-other.other) c.in_ok-one.ensures.1 c.in_ok-other.ensures.1 c.union.result c.union.ensures)

pub returns : goal.returns
returns c =
    rw c.in-Difference.is
    (combined_to Difference c.args.first.now c.args.second.now (content c.in_ok-one.one) (content c.in_ok-other.other) c.in_ok-one.ensures.1 c.in_ok-other.ensures.1 c.difference.result c.difference.ensures)
