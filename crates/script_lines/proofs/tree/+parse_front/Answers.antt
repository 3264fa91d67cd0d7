use Rattle.std.proofs.Common.{rules, ◌≡◌, ◌∷◌, ◌++◌, ℕ, List, map, Bor, sym, ap, ◌∙◌, arith}
use Rattle.std.proofs.lemmas.Result.{err_from_is_err_and}
use Rattle.script_lines.specs.TreeWords.{words_of_line}
use Rattle.script_lines.proofs.Trees.{open_parenthesis, close_parenthesis, pair_after, name_before, some_words, pair_found}
use Rattle.script_lines.proofs.tree.+parse_front.Goals as goal

pub returns-in_default-clause-every : goal.returns-in_default-clause-every
returns-in_default-clause-every t c = λ tree rest is same. absurd (some_words c.args.words.now tree rest c.in_default.ensures.cases same)

pub returns-in_err-parse_name-clause-every : goal.returns-in_err-parse_name-clause-every
returns-in_err-parse_name-clause-every t c = λ tree rest is same.
    let words = ap (λ (ws : List (Bor (List ℕ))). map (λ w. w.now) ws) c.in-Some.ensures.cases.0 in
    let name = name_before tree c.args.depth c.in-Some.first.now.now (map (λ w. w.now) c.in-Some.rest.now) rest is (sym words ∙ same) (search (rules, c.if-ne.true, c.if-ne.ensures)) in
    let no = c.in_err-parse_name.ensures.accepted.1 name.0 in
    absurd (search (rules, no))

pub returns-then-ne-clause-every : goal.returns-then-ne-clause-every
returns-then-ne-clause-every t c = λ tree rest is same.
    let words = ap (λ (ws : List (Bor (List ℕ))). map (λ w. w.now) ws) c.in-Some.ensures.cases.0 in
    (name_before tree c.args.depth c.in-Some.first.now.now (map (λ w. w.now) c.in-Some.rest.now) rest is (sym words ∙ same) (search (rules, c.if-ne.true, c.if-ne.ensures))).1

pub returns-then-depth-eq0-clause-every : goal.returns-then-depth-eq0-clause-every
returns-then-depth-eq0-clause-every t c = λ tree rest is same.
    let words = ap (λ (ws : List (Bor (List ℕ))). map (λ w. w.now) ws) c.in-Some.ensures.cases.0 in
    let others = map (λ w. w.now) c.in-Some.rest.now in
    let first : c.in-Some.first.now.now ≡ open_parenthesis = search (rules, c.if-ne.false, c.if-ne.ensures) in
    let pair = pair_after tree c.args.depth others rest is (sym (ap (λ (w : List ℕ). w ∷ others) first) ∙ sym words ∙ same) in
    absurd (omega (arith, pair.positive, c.if-depth-eq0.true))

pub returns-in_err-left-clause-every : goal.returns-in_err-left-clause-every
returns-in_err-left-clause-every t c = λ tree rest is same.
    let words = ap (λ (ws : List (Bor (List ℕ))). map (λ w. w.now) ws) c.in-Some.ensures.cases.0 in
    let others = map (λ w. w.now) c.in-Some.rest.now in
    let first : c.in-Some.first.now.now ≡ open_parenthesis = search (rules, c.if-ne.false, c.if-ne.ensures) in
    let pair = pair_after tree c.args.depth others rest is (sym (ap (λ (w : List ℕ). w ∷ others) first) ∙ sym words ∙ same) in
    let p = err_from_is_err_and c.from_residual-in_err-left.result c.from_residual-in_err-left.ensures.1 in
    rw (p.1, p.2) (c.in_err-left.ensures.every pair.left (words_of_line pair.right ++ (close_parenthesis ∷ rest)) pair.left_is pair.are)

pub returns-in_err-right-clause-every : goal.returns-in_err-right-clause-every
returns-in_err-right-clause-every t c = λ tree rest is same.
    let words = ap (λ (ws : List (Bor (List ℕ))). map (λ w. w.now) ws) c.in-Some.ensures.cases.0 in
    let others = map (λ w. w.now) c.in-Some.rest.now in
    let first : c.in-Some.first.now.now ≡ open_parenthesis = search (rules, c.if-ne.false, c.if-ne.ensures) in
    let pair = pair_after tree c.args.depth others rest is (sym (ap (λ (w : List ℕ). w ∷ others) first) ∙ sym words ∙ same) in
    let left = c.in_ok-left.ensures.every pair.left (words_of_line pair.right ++ (close_parenthesis ∷ rest)) pair.left_is pair.are in
    let p = err_from_is_err_and c.from_residual-in_err-right.result c.from_residual-in_err-right.ensures.1 in
    rw (p.1, p.2) (c.in_err-right.ensures.every pair.right (close_parenthesis ∷ rest) pair.right_is left)

pub returns-in_err-rest-clause-every : goal.returns-in_err-rest-clause-every
returns-in_err-rest-clause-every t c = λ tree rest is same.
    let words = ap (λ (ws : List (Bor (List ℕ))). map (λ w. w.now) ws) c.in-Some.ensures.cases.0 in
    let others = map (λ w. w.now) c.in-Some.rest.now in
    let first : c.in-Some.first.now.now ≡ open_parenthesis = search (rules, c.if-ne.false, c.if-ne.ensures) in
    let pair = pair_after tree c.args.depth others rest is (sym (ap (λ (w : List ℕ). w ∷ others) first) ∙ sym words ∙ same) in
    let left = c.in_ok-left.ensures.every pair.left (words_of_line pair.right ++ (close_parenthesis ∷ rest)) pair.left_is pair.are in
    let right = c.in_ok-right.ensures.every pair.right (close_parenthesis ∷ rest) pair.right_is left in
    absurd (c.in_err-rest.ensures.every rest right)

pub returns-clause-every : goal.returns-clause-every
returns-clause-every t c = λ tree rest is same.
    let words = ap (λ (ws : List (Bor (List ℕ))). map (λ w. w.now) ws) c.in-Some.ensures.cases.0 in
    let others = map (λ w. w.now) c.in-Some.rest.now in
    let first : c.in-Some.first.now.now ≡ open_parenthesis = search (rules, c.if-ne.false, c.if-ne.ensures) in
    let pair = pair_after tree c.args.depth others rest is (sym (ap (λ (w : List ℕ). w ∷ others) first) ∙ sym words ∙ same) in
    let left = c.in_ok-left.ensures.every pair.left (words_of_line pair.right ++ (close_parenthesis ∷ rest)) pair.left_is pair.are in
    let right = c.in_ok-right.ensures.every pair.right (close_parenthesis ∷ rest) pair.right_is left in
    c.in_ok-rest.ensures.every rest right

pub returns-clause-found : goal.returns-clause-found
returns-clause-found t c =
    let words = ap (λ (ws : List (Bor (List ℕ))). map (λ w. w.now) ws) c.in-Some.ensures.cases.0 in
    let others = map (λ w. w.now) c.in-Some.rest.now in
    let first : c.in-Some.first.now.now ≡ open_parenthesis = search (rules, c.if-ne.false, c.if-ne.ensures) in
    let found = pair_found c.args.depth c.in_ok-left.left c.in_ok-right.right c.in_ok-new.field-0.value c.in_ok-new-2.field-0.value
    others (map (λ w. w.now) c.in_ok-left.rest.now) (map (λ w. w.now) c.in_ok-right.rest.now) (map (λ w. w.now) c.in_ok-rest.rest.now)
    c.in_ok-new.ensures.ok c.in_ok-new-2.ensures.ok (omega (arith, c.if-depth-eq0.false)) c.in_ok-left.ensures.found c.in_ok-right.ensures.found c.in_ok-rest.ensures.found in
    (found.0, words ∙ ap (λ (w : List ℕ). w ∷ others) first ∙ found.1)
