-- Words that begin with those of a tree.
use Rattle.std.proofs.Common.{◌≡◌, inl, inr, ℕ, ◌-◌, ◌<◌, List, [], ◌∷◌, ◌++◌, length, map, drop, get_or, refl, sym, ap, ◌∙◌, subst, arith}
use Rattle.std.specs.Borrow.{Bor}
use Rattle.std.proofs.lemmas.List.{append_assoc}
use Rattle.script_lines.specs.Words.{IsName, IsNameByte}
use Rattle.script_lines.specs.declared.tree.NameTree.{NameTree}
use Rattle.script_lines.specs.declared.tree.NameTree.TheVariants.{Name, Both'}
use Rattle.script_lines.specs.TreeWords.{words_of_line, IsTree}

abbrev pub open_parenthesis : List ℕ
open_parenthesis = 40 ∷ []

abbrev pub close_parenthesis : List ℕ
close_parenthesis = 41 ∷ []

no_name_byte : IsNameByte 40 → ⊥
no_name_byte (inl range) = omega (arith, range.0)
no_name_byte (inr (inl range)) = omega (arith, range.0)
no_name_byte (inr (inr (inl range))) = omega (arith, range.0)
no_name_byte (inr (inr (inr is))) = omega (arith, is)

no_name : IsName open_parenthesis → ⊥
no_name name = no_name_byte (name.2 0 0 (omega arith))

pair_words : (l r rest : List (List ℕ)) → (l ++ (r ++ (close_parenthesis ∷ []))) ++ rest ≡ l ++ (r ++ (close_parenthesis ∷ rest))
pair_words l r rest = append_assoc l (r ++ (close_parenthesis ∷ [])) rest ∙ ap (λ zs. l ++ zs) (append_assoc r (close_parenthesis ∷ []) rest)

-- what words after an opening parenthesis begin with
pub record IsPair (most : ℕ) (words rest : List (List ℕ)) : Type 0 where
  pub left : NameTree
  pub right : NameTree
  pub positive : 0 < most
  pub left_is : IsTree left (most - 1)
  pub right_is : IsTree right (most - 1)
  pub are : words ≡ words_of_line left ++ (words_of_line right ++ (close_parenthesis ∷ rest))

pub pair_after : (tree : NameTree) (most : ℕ) (others rest : List (List ℕ)) → IsTree tree most → open_parenthesis ∷ others ≡ words_of_line tree ++ rest → IsPair most others rest
pair_after (Name name) most others rest is same = absurd (no_name (subst IsName (sym (ap (λ words. get_or words 0 []) same)) is))
pair_after (Both' p left q right) most others rest (positive, left_is, right_is) same = record {
  left = left;
  right = right;
  positive = positive;
  left_is = left_is;
  right_is = right_is;
  are = ap (λ words. drop 1 words) same ∙ pair_words (words_of_line left) (words_of_line right) rest;
}

pub name_before : (tree : NameTree) (most : ℕ) (first : List ℕ) (others rest : List (List ℕ)) → IsTree tree most → first ∷ others ≡ words_of_line tree ++ rest → (first ≡ open_parenthesis → ⊥)
    → IsName first × (others ≡ rest)
name_before (Name name) most first others rest is same other = (subst IsName (sym (ap (λ words. get_or words 0 []) same)) is, ap (λ words. drop 1 words) same)
name_before (Both' p left q right) most first others rest is same other = absurd (other (ap (λ words. get_or words 0 []) same))

pub some_words : (words : List (Bor (List ℕ))) (tree : NameTree) (rest : List (List ℕ)) → length words ≡ 0 → map (λ word. word.now) words ≡ words_of_line tree ++ rest → ⊥
some_words [] (Name name) rest none same = omega (arith, ap (λ (words : List (List ℕ)). length words) same)
some_words [] (Both' p left q right) rest none same = omega (arith, ap (λ (words : List (List ℕ)). length words) same)
some_words (word ∷ words) tree rest none same = omega (arith, none)

words_of_pair : (left right : NameTree) (words after_left after_right rest : List (List ℕ)) → words ≡ words_of_line left ++ after_left → after_left ≡ words_of_line right ++ after_right → after_right ≡ close_parenthesis ∷ rest
    → open_parenthesis ∷ words ≡ open_parenthesis ∷ ((words_of_line left ++ (words_of_line right ++ (close_parenthesis ∷ []))) ++ rest)
words_of_pair left right words after_left after_right rest first second end =
    ap (λ (zs : List (List ℕ)). open_parenthesis ∷ zs) (first ∙ ap (λ zs. words_of_line left ++ zs) (second ∙ ap (λ zs. words_of_line right ++ zs) end) ∙ sym (pair_words (words_of_line left) (words_of_line right) rest))

-- two trees in parentheses, in boxes
pub pair_found : (depth : ℕ) (left right l r : NameTree) (words after_left after_right rest : List (List ℕ)) → l ≡ left → r ≡ right → 0 < depth
    → IsTree left (depth - 1) × (words ≡ words_of_line left ++ after_left) → IsTree right (depth - 1) × (after_left ≡ words_of_line right ++ after_right) → after_right ≡ close_parenthesis ∷ rest
    → (0 < depth × IsTree l (depth - 1) × IsTree r (depth - 1)) × (open_parenthesis ∷ words ≡ open_parenthesis ∷ ((words_of_line l ++ (words_of_line r ++ (close_parenthesis ∷ []))) ++ rest))
pair_found depth left right l r words after_left after_right rest l_is r_is positive first second end = (
  (positive, subst (λ t. IsTree t (depth - 1)) (sym l_is) first.0, subst (λ t. IsTree t (depth - 1)) (sym r_is) second.0),
  subst (λ (t : NameTree). open_parenthesis ∷ words ≡ open_parenthesis ∷ ((words_of_line t ++ (words_of_line r ++ (close_parenthesis ∷ []))) ++ rest)) (sym l_is)
      (subst (λ (t : NameTree). open_parenthesis ∷ words ≡ open_parenthesis ∷ ((words_of_line left ++ (words_of_line t ++ (close_parenthesis ∷ []))) ++ rest)) (sym r_is)
      (words_of_pair left right words after_left after_right rest first.1 second.1 end)),
)

pub none_if_no_words : (words : List (Bor (List ℕ))) → map (λ word. word.now) words ≡ [] → length words ≡ 0
none_if_no_words [] same = refl
none_if_no_words (word ∷ words) same = omega (arith, ap (λ (words : List (List ℕ)). length words) same)
