use Rattle.std.proofs.Common.{◌≡◌, ◌∙◌, length, get_or, false, ap, sym, arith}
use Rattle.std.proofs.lemmas.Grind.{common_steps}
use Rattle.std.proofs.lemmas.Result.{err_from_is_err_and}
use Rattle.script_lines.proofs.Flags.{flags_word-at, flags_word-from, flags_word-more, length-flags_word}
use Rattle.script_lines.proofs.words.parse_flags.Goals as goal

pub returns-then-characters-clause-none : goal.returns-then-characters-clause-none
returns-then-characters-clause-none g c = λ flags long same.
    let letters : length c.args.letters.now ≡ g.row.N = search (arith, c.told-letters) in
    let whole = length-flags_word c.args.letters.now flags (long ∙ sym letters) in
    grind (arith, common_steps, whole, letters, ap length same)

pub returns-in_err-flags-clause-none : goal.returns-in_err-flags-clause-none
returns-in_err-flags-clause-none g c =
    let p = err_from_is_err_and c.from_residual.result c.from_residual.ensures.1 in
    rw p.1 (λ flags long same.
    let letters : length c.args.letters.now ≡ g.row.N = search (arith, c.told-letters) in
    let i = c.loop-i.i in
    c.in_err-flags.ensures.none (get_or flags i false)
    (ap (λ w. get_or w i 0) (c.as_bytes-characters.ensures.value ∙ same) ∙ flags_word-at c.args.letters.now flags i (long ∙ sym letters) (omega arith)))

pub loop-i-preserved : goal.loop-i-preserved
loop-i-preserved g c = record {
  long = grind (arith, common_steps, c.loop-i.invariant.long);
  at = flags_word-more c.args.word.now c.args.letters.now c.loop-i.flags c.loop-i.i c.in_ok-flags.field-0 c.loop-i.invariant.at (omega (arith, c.loop-i.invariant.long, c.loop-i-test.true))
      (ap (λ w. get_or w c.loop-i.i 0) (sym c.as_bytes-characters.ensures.value) ∙ c.in_ok-flags.ensures.found);
}

pub returns-clause-found : goal.returns-clause-found
returns-clause-found g c =
    let letters : length c.args.letters.now ≡ g.row.N = search (arith, c.told-letters) in
    let same = ap length c.as_bytes-characters.ensures.value in
    flags_word-from c.args.word.now c.args.letters.now c.loop-i.flags (omega (arith, letters, same, c.if-characters.false)) (omega (arith, letters, c.loop-i.invariant.long))
    (λ k in'. c.loop-i.invariant.at k (omega (arith, letters, c.loop-i-test.false)))
