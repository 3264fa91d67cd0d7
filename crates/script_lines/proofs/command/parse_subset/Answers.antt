use Rattle.std.proofs.Common.{rules, [], drop, get_or, refl, sym, subst, arith}
use Rattle.script_lines.specs.Commands.{texts, SpellsNumber, SpellsNumberOrDash, SpellKept}
use Rattle.script_lines.proofs.Commands.{front_4, rest_is, text_at}
use Rattle.script_lines.proofs.command.parse_subset.Goals as goal

pub returns-clause-found : goal.returns-clause-found
returns-clause-found c =
    let words = c.args.arguments.now in (
      refl,
      (
        get_or (texts words) 2 [],
        get_or (texts words) 3 [],
        texts (drop 4 words),
        front_4 words _ _ _ _ c.in-len4-up.len_at_least c.in_ok-from.ensures.name c.in_ok-buffer.ensures.name,
        search rules,
        search rules,
        subst (λ w. SpellsNumber w c.in_ok-now.now) (sym (text_at words 2 _ (omega arith))) c.in_ok-now.ensures.value,
        subst (λ w. SpellsNumberOrDash w c.in_ok-expiry.expiry) (sym (text_at words 3 _ (omega arith))) c.in_ok-expiry.ensures.found,
        subst (λ ws. SpellKept (texts ws) c.in_ok-kept.kept) (rest_is words 4) c.in_ok-kept.ensures.found,
      ),
    )
