use Rattle.std.proofs.Common.{◌≡◌, [], map, inl, inr, sym, ap, ◌∙◌, subst, append-nil, arith}
use Rattle.std.proofs.lemmas.Bool.Decides.{nat_tests}
use Rattle.std.proofs.lemmas.List.{nil_from_length}
use Rattle.std.proofs.lemmas.List.Elements.{All-nil}
use Rattle.std.specs.Str.Iter.{split_inclusive_text, split_inclusive_pattern}
use Rattle.script_lines.specs.Words.{AreWordsOf}
use Rattle.script_lines.proofs.Splitting.{cuts_after, end_pushed, no_end, part_added, part_of_cut, word_pushed}
use Rattle.script_lines.proofs.lines.split_words.Goals as goal
use Rattle.script_lines.proofs.lines.split_words.Goals.{then-not-is_empty+in_ok-push, else-not-is_empty}

pub loop-part-preserved-in-Continue-branch-2 : goal.loop-part-preserved-in-Continue-branch-2
loop-part-preserved-in-Continue-branch-2 c =
    let steps = c.in-Some.ensures.steps in
    let cut = part_of_cut (split_inclusive_pattern c.loop-part.part-iterator) (split_inclusive_text c.loop-part.part-iterator) c.in-Some.part.now (split_inclusive_text c.next.new.self) c.loop-part.invariant.0 steps.1.0 steps.1.1 in
    let first = word_pushed c.loop-part.words.items c.if-not-is_empty.words.items c.split_parenthesis.result.0
    (elim c.if-not-is_empty.branch [
      | then-not-is_empty+in_ok-push w ↦ inl (grind (arith, nat_tests), ap (λ v. v.items) w.words-is ∙ w.in_ok-push.ensures.items)
      | else-not-is_empty w ↦ inr (grind (arith, nat_tests), ap (λ v. v.items) w.words-is)
    ]) in (
      steps.0 cuts_after c.loop-part.invariant.0,
      part_added c.args.text.now (split_inclusive_text c.loop-part.part-iterator) c.in-Some.part.now (split_inclusive_text c.next.new.self) c.split_parenthesis.result.0.now c.split_parenthesis.result.1
          c.loop-part.words.items c.if-not-is_empty.words.items c.push-in-Some-parenthesis.new.self.items steps.1.0 cut c.split_parenthesis.ensures.parenthesis c.split_parenthesis.ensures.none first
          (end_pushed c.if-not-is_empty.words.items c.push-in-Some-parenthesis.new.self.items c.split_parenthesis.result.1 c.in-Some-parenthesis.parenthesis c.in-Some-parenthesis.is c.in_ok-push-2.ensures.items) c.loop-part.invariant.1,
    )

pub loop-part-preserved : goal.loop-part-preserved
loop-part-preserved c =
    let steps = c.in-Some.ensures.steps in
    let cut = part_of_cut (split_inclusive_pattern c.loop-part.part-iterator) (split_inclusive_text c.loop-part.part-iterator) c.in-Some.part.now (split_inclusive_text c.next.new.self) c.loop-part.invariant.0 steps.1.0 steps.1.1 in
    let first = word_pushed c.loop-part.words.items c.if-not-is_empty.words.items c.split_parenthesis.result.0
    (elim c.if-not-is_empty.branch [
      | then-not-is_empty+in_ok-push w ↦ inl (grind (arith, nat_tests), ap (λ v. v.items) w.words-is ∙ w.in_ok-push.ensures.items)
      | else-not-is_empty w ↦ inr (grind (arith, nat_tests), ap (λ v. v.items) w.words-is)
    ]) in (
      steps.0 cuts_after c.loop-part.invariant.0,
      part_added c.args.text.now (split_inclusive_text c.loop-part.part-iterator) c.in-Some.part.now (split_inclusive_text c.next.new.self) c.split_parenthesis.result.0.now c.split_parenthesis.result.1
          c.loop-part.words.items c.if-not-is_empty.words.items c.if-not-is_empty.words.items steps.1.0 cut c.split_parenthesis.ensures.parenthesis c.split_parenthesis.ensures.none first
          (no_end c.if-not-is_empty.words.items c.split_parenthesis.result.1 c.in_default.is) c.loop-part.invariant.1,
    )

pub returns : goal.returns
returns c =
    let left = nil_from_length (split_inclusive_text c.loop-part.part-iterator) c.in-None.ensures.steps.1.0 in
    subst (AreWordsOf c.args.text.now) (append-nil (map (λ word. word.now) c.loop-part.words.items))
    (c.loop-part.invariant.1 [] (subst (λ text. AreWordsOf text []) (sym left) (All-nil (λ byte. byte ≡ 32))))
