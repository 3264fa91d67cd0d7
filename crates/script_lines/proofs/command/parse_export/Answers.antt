use Rattle.std.proofs.Common.{rules, [], ◌∙◌, get_or, ap, sym, subst, arith, if◌then◌else◌}
use Rattle.script_lines.specs.Commands.{texts, SpellsKey, SpellsNumber}
use Rattle.script_lines.proofs.Commands.{six_texts, export_words, text_at}
use Rattle.script_lines.specs.declared.verb.Verb.TheVariants.{Export, Drop}
use Rattle.script_lines.proofs.command.parse_export.Goals as goal

pub returns-in_err-parse_key-clause-every : goal.returns-in_err-parse_key-clause-every
returns-in_err-parse_key-clause-every c = λ command verb args.
    let words = c.args.arguments.now in
    let e = export_words (texts words) c.args.aux_ext command verb args in
    absurd (c.in_err-parse_key.ensures.none e.export.key (subst (λ w. SpellsKey w e.export.key) (sym e.key_at ∙ text_at words 2 _ (omega arith)) e.key_is))

pub returns-in_err-parse_parts-clause-every : goal.returns-in_err-parse_parts-clause-every
returns-in_err-parse_parts-clause-every c = λ command verb args.
    let words = c.args.arguments.now in
    let e = export_words (texts words) c.args.aux_ext command verb args in
    absurd (c.in_err-parse_parts.ensures.none e.export.parts (sym (text_at words 5 _ (omega arith)) ∙ e.parts_at))

pub returns-clause-found : goal.returns-clause-found
returns-clause-found c =
    let words = c.args.arguments.now in (
      ap (λ b. if b then Export else Drop) c.in_ok-parse_parts.ensures.found.0,
      (
        get_or (texts words) 2 [],
        get_or (texts words) 3 [],
        get_or (texts words) 4 [],
        six_texts words _ _ _ _ _ _ c.in-len6.len_at_least c.in-len6.len_below c.in_ok-from.ensures.name c.in_ok-buffer.ensures.name c.in_ok-parse_parts.ensures.found.1,
        search rules,
        search rules,
        subst (λ w. SpellsKey w c.in_ok-parse_key.field-0) (sym (text_at words 2 _ (omega arith))) c.in_ok-parse_key.ensures.found,
        subst (λ w. SpellsNumber w c.in_ok-parse_u64.field-0) (sym (text_at words 3 _ (omega arith))) c.in_ok-parse_u64.ensures.value,
        subst (λ w. SpellsNumber w c.in_ok-parse_u64-2.field-0) (sym (text_at words 4 _ (omega arith))) c.in_ok-parse_u64-2.ensures.value,
      ),
    )
