use Rattle.std.proofs.Common.{inl, ◌≡◌, ◌-◌, ◌*◌, length, take, drop, ap, subst, arith}
use Rattle.std.proofs.lemmas.List.{length-drop, length-take}
use Rattle.std.proofs.lemmas.Result.{err_from_is_err_and}
use Rattle.xet_records.proofs.view_reader.append_rows.Goals as goal

pub returns-in_err-fill : goal.returns-in_err-fill
returns-in_err-fill g c =
    let start = c.len-start.result in
    let all = c.as_mut_slice.result.now in
    let rest = length all - start in
    let size : length (take rest (drop start all)) ≡ 48 * c.args.rows =
    omega (arith, length-take rest (drop start all), length-drop start all, ap length c.as_mut_slice.ensures.value, c.advance_mut.ensures.len, ap length c.reserve.ensures.items) in
    let p = err_from_is_err_and c.from_residual-in_err-fill.result c.from_residual-in_err-fill.ensures.1 in
    rw p.1 (inl (g.met.I.ByteInput.fails_once _ _ (48 * c.args.rows) _ _
    (subst (λ n. g.I.ByteInput.fill_fails c.args.input.now c.fill.new.self n c.in_err-fill.field-0.0) size c.in_err-fill.ensures) p.2))
