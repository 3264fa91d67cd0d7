use Rattle.std.proofs.Common.{ℕ, List, ◌∷◌, ◌∙◌, ap, sym}
use Rattle.std.proofs.lemmas.Result.{err_from_is_err_and}
use Rattle.script_lines.specs.Commands.{texts, word_of}
use Rattle.script_lines.proofs.command.parse_words.Goals as goal

pub returns-in_err-parse_arguments-in-Some-parse_verb-clause-verb :
    goal.returns-in_err-parse_arguments-in-Some-parse_verb-clause-verb
returns-in_err-parse_arguments-in-Some-parse_verb-clause-verb c =
    let p = err_from_is_err_and c.from_residual.result c.from_residual.ensures.1 in
    rw p.1 (
      c.in-Some-parse_verb.verb,
      texts c.in-Some.arguments.now,
      ap texts c.in-Some.ensures.cases.0 ∙ ap (λ (word : List ℕ). word ∷ texts c.in-Some.arguments.now) c.in-Some-parse_verb.ensures,
    )

pub returns-in_ok-parse_arguments-in-Some-parse_verb-clause-found :
    goal.returns-in_ok-parse_arguments-in-Some-parse_verb-clause-found
returns-in_ok-parse_arguments-in-Some-parse_verb-clause-found c =
    let found = c.in_ok-parse_arguments-in-Some-parse_verb.ensures.found in (
      texts c.in-Some.arguments.now,
      ap texts c.in-Some.ensures.cases.0
          ∙ ap (λ (word : List ℕ). word ∷ texts c.in-Some.arguments.now) (c.in-Some-parse_verb.ensures ∙ ap word_of (sym found.0)),
      found.1,
    )
