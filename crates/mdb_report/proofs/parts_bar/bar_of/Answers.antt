use Rattle.std.proofs.Common.{ℕ, ◌*◌, ◌/◌, [], ◌∷◌, ◌++◌, string_bytes, sym, ap, ◌∙◌, arith}
use Rattle.std.proofs.lemmas.List.FromFn.{map-range_with_len_more}
use Rattle.mdb_report.specs.PartsBar.{letter_of}
use Rattle.mdb_report.proofs.parts_bar.bar_of.Goals as goal

pub loop-column-preserved : goal.loop-column-preserved
loop-column-preserved c =
    let column = c.loop-column.column in
    let letter_at : ℕ → ℕ = λ k. letter_of c.args.parts.now (k * c.args.bytes / 60) in
    c.in_ok-push.ensures.bytes
    ∙ ap (λ s. string_bytes c.loop-column.bar ++ s)
    (c.in_ok-push.ensures.ascii c.letter_at.ensures.ascii
    ∙ ap (λ d. d ∷ []) (c.letter_at.ensures.letter ∙ ap (λ at. letter_of c.args.parts.now at) c.byte_at.ensures))
    ∙ ap (λ s. s ++ letter_at column ∷ []) c.loop-column.invariant
    ∙ sym (map-range_with_len_more letter_at 0 column column (omega arith))
