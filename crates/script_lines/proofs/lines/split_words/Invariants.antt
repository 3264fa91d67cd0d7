-- The words so far, before those of the rest of the text, are the words of the text.
use Rattle.std.proofs.Common.{◌≡◌, ℕ, List, [], ◌∷◌, ◌++◌, map}
use Rattle.std.specs.Char.{char_set_contains}
use Rattle.std.specs.Str.Iter.{split_inclusive_text, split_inclusive_pattern}
use Rattle.script_lines.specs.Words.{AreWordsOf}
use Rattle.script_lines.proofs.lines.split_words.Given as goal

abbrev pub invariant-loop-part : goal.invariant-loop-part
invariant-loop-part l =
    ((byte : ℕ) → char_set_contains (split_inclusive_pattern l.part-iterator) byte ≡ char_set_contains (32 ∷ 40 ∷ 41 ∷ []) byte)
    × ((words : List (List ℕ)) → AreWordsOf (split_inclusive_text l.part-iterator) words
    → AreWordsOf l.text (map (λ word. word.now) l.words.items ++ words))
