use Rattle.std.proofs.Common.{◌∷◌, ◌++◌, [], None, inr, refl, ap, ◌∙◌, arith}
use Rattle.std.proofs.lemmas.Str.Pattern.{strip_suffix_char}
use Rattle.script_lines.proofs.lines.split_parenthesis.Goals as goal

-- a part that ends in a separator would have lost it
pub returns-in_default-strip_suffix-2-clause-none : goal.returns-in_default-strip_suffix-2-clause-none
returns-in_default-strip_suffix-2-clause-none c =
    let part = c.args.part.now in
    inr (
      refl,
      (λ last. last.3 (
        (λ e. strip_suffix_char 32 part None c.in_default-strip_suffix-2.ensures.cases (omega arith) last.0 (last.2 ∙ ap (λ b. last.0 ++ b ∷ []) e)),
        (λ e. strip_suffix_char 40 part None c.in_default.ensures.cases (omega arith) last.0 (last.2 ∙ ap (λ b. last.0 ++ b ∷ []) e)),
        (λ e. strip_suffix_char 41 part None c.in_default-strip_suffix.ensures.cases (omega arith) last.0 (last.2 ∙ ap (λ b. last.0 ++ b ∷ []) e)),
      )),
    )
