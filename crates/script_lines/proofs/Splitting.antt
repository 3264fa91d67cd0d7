-- The parts that a line is cut into, each after a space or a parenthesis, and the words in them.
use Rattle.std.proofs.Common.{◌≡◌, ◌⊎◌, inl, inr, ℕ, suc, ◌+◌, ◌<◌, Bool, true, false, Option, Some, None, List, [], ◌∷◌, ◌++◌, length, take, get_or, map, refl, sym, ap, ◌∙◌, subst, arith, append_assoc, append-nil, All, Bor, IfSome, IfNone}
use Rattle.std.proofs.lemmas.Bool.Decides.{nat_tests}
use Rattle.std.proofs.lemmas.List.{same_from_push, nil_from_length, take_more, length-append, length-drop, map-append}
use Rattle.std.proofs.Math.Seq.{take-append_seam}
use Rattle.std.proofs.lemmas.List.Elements.{All-cons, All-from_get_or, All-same, All-take}
use Rattle.std.proofs.lemmas.Str.{NoCharPasses-byte, len_utf8_ascii}
use Rattle.std.proofs.lemmas.Str.Pattern.{drop_at_char}
use Rattle.std.specs.Char.{char_set_contains}
use Rattle.std.specs.Str.{NoCharPasses}
use Rattle.std.specs.Option.{MatchOption}
use Rattle.std.specs.Str.Pattern.{FindsBy, EndsAtFirstMatch}
use Rattle.script_lines.specs.Words.{AreWordsOf, EndsInSeparator, EndsWord, IsParenthesis, IsWordByte}

abbrev IsSeparator : ℕ → Type 0
IsSeparator byte = (byte ≡ 32) ⊎ ((byte ≡ 40) ⊎ (byte ≡ 41))

abbrev pub cuts_after : ℕ → Bool
cuts_after byte = char_set_contains (32 ∷ 40 ∷ 41 ∷ []) byte

-- a part before what is left of the line: word bytes and a separator, or all that was left
abbrev pub IsPart : List ℕ → List ℕ → Type 0
IsPart part rest =
    ((front : List ℕ) × (byte : ℕ) × All IsWordByte front × IsSeparator byte × (part ≡ front ++ byte ∷ []))
    ⊎ (All IsWordByte part × (rest ≡ []))

separator_is_cut : (byte : ℕ) → cuts_after byte ≡ true → IsSeparator byte
separator_is_cut byte cut = grind (arith, nat_tests)

low_separator : (byte : ℕ) → IsSeparator byte → byte < 128
low_separator byte (inl e) = omega arith
low_separator byte (inr (inl e)) = omega arith
low_separator byte (inr (inr e)) = omega arith

no_word_byte : (byte : ℕ) → IsSeparator byte → ¬ (IsWordByte byte)
no_word_byte byte (inl e) word = word.0 e
no_word_byte byte (inr (inl e)) word = word.1 e
no_word_byte byte (inr (inr e)) word = word.2 e

word_byte : (byte : ℕ) → (byte < 128 → cuts_after byte ≡ false) → IsWordByte byte
word_byte byte uncut = (
  (λ e. let cut = uncut (omega arith) in grind (arith, nat_tests)),
  (λ e. let cut = uncut (omega arith) in grind (arith, nat_tests)),
  (λ e. let cut = uncut (omega arith) in grind (arith, nat_tests)),
)

word_bytes : (bytes : List ℕ) → NoCharPasses cuts_after bytes → All IsWordByte bytes
word_bytes bytes uncut =
    All-from_get_or IsWordByte bytes 0 (λ i h. word_byte (get_or bytes i 0) (λ low. NoCharPasses-byte cuts_after bytes i uncut h low))

-- where the text is cut
found_part : (left part rest : List ℕ) (o : Option (ℕ × ℕ)) → left ≡ part ++ rest → FindsBy cuts_after left o
    → MatchOption o ((part ≡ left) × (0 < length left)) (λ q. 0 < q.1 → part ≡ take q.1 left) → IsPart part rest
found_part left part rest None whole uncut ends =
    let long : length left ≡ length part + length rest = ap length whole ∙ length-append part rest in
    let same : length part ≡ length left = ap length ends.0 in
    inr (All-same IsWordByte part left ends.0 (word_bytes left uncut), nil_from_length rest (omega arith))
found_part left part rest (Some q) whole found ends =
    let byte = found.1.0 in
    let separator = separator_is_cut byte found.1.1 in
    let low = low_separator byte separator in
    let at = found.1.2 in
    let next : q.1 ≡ q.0 + 1 = at.ends ∙ ap (λ n. q.0 + n) (len_utf8_ascii byte low) in
    let tail = ap length (drop_at_char byte left q.0 q.1 at low) in
    let inside : q.0 < length left = omega (arith, tail, length-drop q.0 left) in
    let is : take q.1 left ≡ take q.0 left ++ byte ∷ [] =
    ap (λ n. take n left) next ∙ take_more left q.0 0 inside ∙ ap (λ b. take q.0 left ++ b ∷ []) (at.byte low) in
    inl (take q.0 left, byte, word_bytes (take q.0 left) found.0, separator, ends (omega arith) ∙ is)

pub part_of_cut : (pattern left part rest : List ℕ) → ((byte : ℕ) → char_set_contains pattern byte ≡ cuts_after byte) → left ≡ part ++ rest
    → EndsAtFirstMatch (λ s r. (k : ℕ → Bool) → ((c : ℕ) → char_set_contains pattern c ≡ k c) → FindsBy k s r) left part → IsPart part rest
part_of_cut pattern left part rest agrees whole cut = found_part left part rest cut.0 whole (cut.1 cuts_after agrees) cut.2

-- ---- words

-- the word of a part, unless it is empty
abbrev word_in : List ℕ → List (List ℕ)
word_in [] = []
word_in (byte ∷ bytes) = (byte ∷ bytes) ∷ []

-- the parenthesis that ends a part, if there is one
abbrev end_in : Option (Bor (List ℕ)) → List (List ℕ)
end_in None = []
end_in (Some end) = end.now ∷ []

some_word : (word : List ℕ) → 0 < length word → word_in word ≡ word ∷ []
some_word [] some = absurd (omega arith)
some_word (byte ∷ bytes) some = refl

after_space : (rest : List ℕ) (words : List (List ℕ)) → AreWordsOf rest words → AreWordsOf (32 ∷ rest) words
after_space rest [] spaces = All-cons (λ byte. byte ≡ 32) 32 rest refl spaces
after_space rest (word ∷ words) h = (suc h.0, h.1, ap (λ line. 32 ∷ line) h.2, h.3, h.4)

after_word : (word rest : List ℕ) (words : List (List ℕ)) → All IsWordByte word → EndsWord rest → AreWordsOf rest words
    → AreWordsOf (word ++ rest) (word_in word ++ words)
after_word [] rest words plain ends h = h
after_word (byte ∷ bytes) rest words plain ends h = (0, rest, refl, inr (omega arith, plain, ends), h)

ends_at_parenthesis : (end rest : List ℕ) → IsParenthesis end → EndsWord (end ++ rest)
ends_at_parenthesis end rest (inl e) = subst (λ xs. EndsWord (xs ++ rest)) (sym e) (no_word_byte 40 (inr (inl refl)))
ends_at_parenthesis end rest (inr e) = subst (λ xs. EndsWord (xs ++ rest)) (sym e) (no_word_byte 41 (inr (inr refl)))

-- a word before its end
word_of_part : (part rest word : List ℕ) (byte : ℕ) → IsPart part rest → part ≡ word ++ byte ∷ [] → All IsWordByte word
word_of_part part rest word byte (inl p) is =
    All-same IsWordByte word p.0 (same_from_push word p.0 byte p.1 (sym is ∙ p.4)).0 p.2
word_of_part part rest word byte (inr p) is =
    All-same IsWordByte word (take (length word) part) (sym (take-append_seam word (byte ∷ [])) ∙ ap (take (length word)) (sym is)) (All-take IsWordByte (length word) part p.0)

word_of_parenthesis : (part rest word end : List ℕ) → IsPart part rest → IsParenthesis end → part ≡ word ++ end → All IsWordByte word
word_of_parenthesis part rest word end p (inl e) is = word_of_part part rest word 40 p (is ∙ ap (λ xs. word ++ xs) e)
word_of_parenthesis part rest word end p (inr e) is = word_of_part part rest word 41 p (is ∙ ap (λ xs. word ++ xs) e)

word_without_end : (part rest : List ℕ) → IsPart part rest → ¬ (EndsInSeparator part) → All IsWordByte part × (rest ≡ [])
word_without_end part rest (inl p) none = absurd (none (p.0, p.1, p.4, no_word_byte p.1 p.3))
word_without_end part rest (inr p) none = p

part_without : (part rest word : List ℕ) (words : List (List ℕ)) → IsPart part rest
    → (part ≡ word ++ 32 ∷ []) ⊎ ((part ≡ word) × ¬ (EndsInSeparator part)) → AreWordsOf rest words
    → AreWordsOf (part ++ rest) (word_in word ++ words)
part_without part rest word words p (inl is) h =
    subst (λ line. AreWordsOf line (word_in word ++ words)) (sym (ap (λ xs. xs ++ rest) is ∙ append_assoc word (32 ∷ []) rest))
    (after_word word (32 ∷ rest) words (word_of_part part rest word 32 p is) (no_word_byte 32 (inl refl)) (after_space rest words h))
part_without part rest word words p (inr is) h =
    let all = word_without_end part rest p is.1 in
    subst (λ xs. AreWordsOf (part ++ rest) (word_in xs ++ words)) is.0
    (after_word part rest words all.0 (subst EndsWord (sym all.1) tt) h)

words_of_part : (part rest word : List ℕ) (end : Option (Bor (List ℕ))) (words : List (List ℕ)) → IsPart part rest
    → IfSome end (λ e. IsParenthesis e.now × (part ≡ word ++ e.now))
    → IfNone end ((part ≡ word ++ 32 ∷ []) ⊎ ((part ≡ word) × ¬ (EndsInSeparator part)))
    → AreWordsOf rest words → AreWordsOf (part ++ rest) (word_in word ++ (end_in end ++ words))
words_of_part part rest word None words p some none h = part_without part rest word words p none h
words_of_part part rest word (Some end) words p some none h =
    subst (λ line. AreWordsOf line (word_in word ++ (end.now ∷ words))) (sym (ap (λ xs. xs ++ rest) some.1 ∙ append_assoc word end.now rest))
    (after_word word (end.now ++ rest) (end.now ∷ words) (word_of_parenthesis part rest word end.now p some.0 some.1) (ends_at_parenthesis end.now rest some.0)
    (0, rest, refl, inl some.0, h))

-- ---- the list of words

-- the list after the word of a part is pushed, unless it is empty
pub word_pushed : (old new : List (Bor (List ℕ))) (word : Bor (List ℕ)) → ((0 < length word.now) × (new ≡ old ++ word ∷ [])) ⊎ ((length word.now ≡ 0) × (new ≡ old))
    → map (λ w. w.now) new ≡ map (λ w. w.now) old ++ word_in word.now
word_pushed old new word (inl p) =
    ap (map (λ w. w.now)) p.1 ∙ map-append (λ w. w.now) old (word ∷ []) ∙ ap (λ ws. map (λ w. w.now) old ++ ws) (sym (some_word word.now p.0))
word_pushed old new word (inr p) =
    ap (map (λ w. w.now)) p.1 ∙ sym (append-nil (map (λ w. w.now) old)) ∙ ap (λ xs. map (λ w. w.now) old ++ word_in xs) (sym (nil_from_length word.now p.0))

-- and after its parenthesis is pushed, if there is one
pub end_pushed : (old new : List (Bor (List ℕ))) (found : Option (Bor (List ℕ))) (end : Bor (List ℕ)) → found ≡ Some end → new ≡ old ++ end ∷ []
    → map (λ w. w.now) new ≡ map (λ w. w.now) old ++ end_in found
end_pushed old new found end is pushed =
    ap (map (λ w. w.now)) pushed ∙ map-append (λ w. w.now) old (end ∷ []) ∙ ap (λ o. map (λ w. w.now) old ++ end_in o) (sym is)

pub no_end : (old : List (Bor (List ℕ))) (found : Option (Bor (List ℕ))) → found ≡ None → map (λ w. w.now) old ≡ map (λ w. w.now) old ++ end_in found
no_end old found is = sym (append-nil (map (λ w. w.now) old)) ∙ ap (λ o. map (λ w. w.now) old ++ end_in o) (sym is)

-- the words of the text, as far as it was cut, and then those of what is left
pub part_added : (text left part rest : List ℕ) (word : List ℕ) (end : Option (Bor (List ℕ))) (old middle new : List (Bor (List ℕ)))
    → left ≡ part ++ rest → IsPart part rest → IfSome end (λ e. IsParenthesis e.now × (part ≡ word ++ e.now))
    → IfNone end ((part ≡ word ++ 32 ∷ []) ⊎ ((part ≡ word) × ¬ (EndsInSeparator part)))
    → map (λ w. w.now) middle ≡ map (λ w. w.now) old ++ word_in word → map (λ w. w.now) new ≡ map (λ w. w.now) middle ++ end_in end
    → ((words : List (List ℕ)) → AreWordsOf left words → AreWordsOf text (map (λ w. w.now) old ++ words))
    → (words : List (List ℕ)) → AreWordsOf rest words → AreWordsOf text (map (λ w. w.now) new ++ words)
part_added text left part rest word end old middle new whole p some none first second before words h =
    subst (AreWordsOf text)
    (sym (ap (λ ws. ws ++ words) (second ∙ ap (λ ws. ws ++ end_in end) first)
    ∙ append_assoc (map (λ w. w.now) old ++ word_in word) (end_in end) words
    ∙ append_assoc (map (λ w. w.now) old) (word_in word) (end_in end ++ words)))
    (before (word_in word ++ (end_in end ++ words))
    (subst (λ line. AreWordsOf line (word_in word ++ (end_in end ++ words))) (sym whole) (words_of_part part rest word end words p some none h)))
