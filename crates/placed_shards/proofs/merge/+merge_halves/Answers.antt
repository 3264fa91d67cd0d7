use Rattle.std.proofs.Common.{◌<◌, length, refl, rules}
use Rattle.std.proofs.lemmas.Result.{err_from_is_err_and}
use Rattle.placed_shards.specs.MergedLists.MergeRefusal.{of_none}
use Rattle.placed_shards.proofs.Merges.{bytes_of, no_bytes, only_bytes, halves_of}
use Rattle.placed_shards.proofs.StrictMerges.{alone, together, together_strictly, not_first, not_second}
use Rattle.placed_shards.proofs.merge.+merge_halves.Goals as goal

pub returns-then-is_empty : goal.returns-then-is_empty
returns-then-is_empty t c = λ agreeing. of_none (no_bytes c.args.inputs.now (search rules)) refl

pub returns-then-inputs-eq1 : goal.returns-then-inputs-eq1
returns-then-inputs-eq1 t c =
    alone c.args.selection (bytes_of c.args.inputs.now) _ (only_bytes c.args.inputs.now _ (search rules)) c.args.strict c.open_alone.result c.open_alone.ensures

pub returns-in_err-one : goal.returns-in_err-one
returns-in_err-one t c =
    let some : 1 < length c.args.inputs.now = search rules in
    let firsts = c.split_at.result.0.now in
    let seconds = c.split_at.result.1.now in
    let halves = halves_of c.args.inputs.now firsts seconds some c.split_at.ensures.front c.split_at.ensures.back in
    let p = err_from_is_err_and c.from_residual.result c.from_residual.ensures.1 in
    rw (p.1, p.2) (not_first c.args.selection (bytes_of c.args.inputs.now) (bytes_of firsts) (bytes_of seconds) halves c.args.strict _ c.in_err-one.ensures)

pub returns-in_err-other : goal.returns-in_err-other
returns-in_err-other t c =
    let some : 1 < length c.args.inputs.now = search rules in
    let firsts = c.split_at.result.0.now in
    let seconds = c.split_at.result.1.now in
    let halves = halves_of c.args.inputs.now firsts seconds some c.split_at.ensures.front c.split_at.ensures.back in
    let p = err_from_is_err_and c.from_residual-in_err-other.result c.from_residual-in_err-other.ensures.1 in
    rw (p.1, p.2)
    (not_second c.args.selection (bytes_of c.args.inputs.now) (bytes_of firsts) (bytes_of seconds) halves c.args.strict _ c.in_ok-one.one c.in_ok-one.ensures c.in_err-other.ensures)

pub returns-then-strict : goal.returns-then-strict
returns-then-strict t c =
    let some : 1 < length c.args.inputs.now = search rules in
    let firsts = c.split_at.result.0.now in
    let seconds = c.split_at.result.1.now in
    let halves = halves_of c.args.inputs.now firsts seconds some c.split_at.ensures.front c.split_at.ensures.back in
    together_strictly c.args.selection (bytes_of c.args.inputs.now) (bytes_of firsts) (bytes_of seconds) halves c.in_ok-one.one c.in_ok-other.other c.args.strict (search rules)
    c.in_ok-one.ensures c.in_ok-other.ensures c.unite_shards.result c.unite_shards.ensures

pub returns : goal.returns
returns t c =
    let some : 1 < length c.args.inputs.now = search rules in
    let firsts = c.split_at.result.0.now in
    let seconds = c.split_at.result.1.now in
    let halves = halves_of c.args.inputs.now firsts seconds some c.split_at.ensures.front c.split_at.ensures.back in
    together c.args.selection (bytes_of c.args.inputs.now) (bytes_of firsts) (bytes_of seconds) halves c.in_ok-one.one c.in_ok-other.other c.args.strict (search rules)
    c.in_ok-one.ensures c.in_ok-other.ensures c.union.result c.union.ensures
