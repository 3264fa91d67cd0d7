use Rattle.std.proofs.Common.{rules, drop, refl, subst}
use Rattle.script_lines.specs.Commands.{texts, SpellRange}
use Rattle.script_lines.proofs.Commands.{front_1, rest_is}
use Rattle.script_lines.proofs.command.parse_hex.Goals as goal

pub returns-clause-found : goal.returns-clause-found
returns-clause-found c =
    let words = c.args.arguments.now in (
      refl,
      (
        texts (drop 1 words),
        front_1 words _ _ c.in-len1-up.len_at_least c.in_ok-buffer.ensures.name,
        search rules,
        subst (λ ws. SpellRange (texts ws) c.in_ok-range.range) (rest_is words 1) c.in_ok-range.ensures.found,
      ),
    )
