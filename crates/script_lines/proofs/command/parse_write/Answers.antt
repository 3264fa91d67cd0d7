use Rattle.std.proofs.Common.{rules, drop, refl, subst}
use Rattle.script_lines.specs.Commands.{texts, SpellNumber}
use Rattle.script_lines.proofs.Commands.{front_2, rest_is}
use Rattle.script_lines.proofs.command.parse_write.Goals as goal

pub returns-clause-found : goal.returns-clause-found
returns-clause-found c =
    let words = c.args.arguments.now in (
      refl,
      (
        texts (drop 2 words),
        front_2 words _ _ _ _ c.in-len2-up.len_at_least c.in_ok-parse_name.ensures.name c.in_ok-parse_name-2.ensures.name,
        search rules,
        search rules,
        subst (λ ws. SpellNumber (texts ws) c.in_ok-parse_optional_u64.field-0) (rest_is words 2) c.in_ok-parse_optional_u64.ensures.found,
      ),
    )
