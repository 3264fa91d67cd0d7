-- The words of trees of names.
use Rattle.std.specs.Prelude.{ℕ, ◌-◌, ◌<◌, List, [], ◌∷◌, ◌++◌}
use Rattle.script_lines.specs.Words.{IsName}
use Rattle.script_lines.specs.declared.tree.NameTree.{NameTree}
use Rattle.script_lines.specs.declared.tree.NameTree.TheVariants.{Name, Both'}

-- a name, or the words of two trees in parentheses
abbrev pub words_of_line : NameTree → List (List ℕ)
words_of_line (Name name) = name.now ∷ []
words_of_line (Both' p left q right) =
    (40 ∷ []) ∷ (words_of_line left ++ (words_of_line right ++ ((41 ∷ []) ∷ [])))

-- the leaves of a tree are names, and at most so many pairs of parentheses are in one another
abbrev pub IsTree : NameTree → ℕ → Type 0
IsTree (Name name) most = IsName name.now
IsTree (Both' p left q right) most = (0 < most) × IsTree left (most - 1) × IsTree right (most - 1)
