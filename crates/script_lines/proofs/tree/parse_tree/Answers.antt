use Rattle.std.proofs.Common.{rules, [], sym, ◌∙◌}
use Rattle.std.proofs.lemmas.List.{append-nil}
use Rattle.std.proofs.lemmas.Result.{err_from_is_err_and}
use Rattle.script_lines.specs.TreeWords.{words_of_line}
use Rattle.script_lines.proofs.Trees.{none_if_no_words}
use Rattle.script_lines.proofs.tree.parse_tree.Goals as goal

pub returns-in_err-tree-clause-every : goal.returns-in_err-tree-clause-every
returns-in_err-tree-clause-every c = λ tree is same.
    let p = err_from_is_err_and c.from_residual.result c.from_residual.ensures.1 in
    rw (p.1, p.2) (c.in_err-tree.ensures.every tree [] is (sym same ∙ sym (append-nil (words_of_line tree))))

pub returns-then-not-is_empty-clause-every : goal.returns-then-not-is_empty-clause-every
returns-then-not-is_empty-clause-every c = λ tree is same.
    let empty = none_if_no_words c.in_ok-tree.rest.now (c.in_ok-tree.ensures.every tree [] is (sym same ∙ sym (append-nil (words_of_line tree)))) in
    absurd (search (rules, empty, c.is_empty.ensures, c.if-not-is_empty.true))
