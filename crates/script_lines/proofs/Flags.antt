-- Words of options, place by place.
use Rattle.std.proofs.Common.{◌≡◌, ℕ, zero, suc, ◌<◌, Bool, false, List, [], ◌∷◌, length, get_or, slice_set, ◌+◌, refl, ap, ◌∙◌, arith}
use Rattle.std.proofs.lemmas.Grind.{common_steps}
use Rattle.script_lines.specs.Commands.{flag_byte, flags_word}

pub flags_word-at : (letters : List ℕ) (flags : List Bool) (i : ℕ) → length flags ≡ length letters → i < length letters
    → get_or (flags_word letters flags) i 0 ≡ flag_byte (get_or letters i 0) (get_or flags i false)
flags_word-at [] flags i long in' = absurd (omega arith)
flags_word-at (letter ∷ letters) [] i long in' = absurd (omega arith)
flags_word-at (letter ∷ letters) (flag ∷ flags) zero long in' = refl
flags_word-at (letter ∷ letters) (flag ∷ flags) (suc i) long in' = flags_word-at letters flags i (omega arith) (omega arith)

pub length-flags_word : (letters : List ℕ) (flags : List Bool) → length flags ≡ length letters → length (flags_word letters flags) ≡ length letters
length-flags_word [] flags long = refl
length-flags_word (letter ∷ letters) [] long = absurd (omega arith)
length-flags_word (letter ∷ letters) (flag ∷ flags) long = ap suc (length-flags_word letters flags (omega arith))

pub flags_word-from : (word letters : List ℕ) (flags : List Bool) → length word ≡ length letters → length flags ≡ length letters
    → ((i : ℕ) → i < length letters → get_or word i 0 ≡ flag_byte (get_or letters i 0) (get_or flags i false)) → word ≡ flags_word letters flags
flags_word-from [] [] flags long same at = refl
flags_word-from [] (letter ∷ letters) flags long same at = absurd (omega arith)
flags_word-from (byte ∷ word) [] flags long same at = absurd (omega arith)
flags_word-from (byte ∷ word) (letter ∷ letters) [] long same at = absurd (omega arith)
flags_word-from (byte ∷ word) (letter ∷ letters) (flag ∷ flags) long same at =
    ap (λ b. b ∷ word) (at 0 (omega arith))
    ∙ ap (λ bs. flag_byte letter flag ∷ bs) (flags_word-from word letters flags (omega arith) (omega arith) (λ i in'. at (suc i) (omega arith)))

pub flags_word-more : (word letters : List ℕ) (flags : List Bool) (i : ℕ) (flag : Bool) → ((k : ℕ) → k < i → get_or word k 0 ≡ flag_byte (get_or letters k 0) (get_or flags k false))
    → i < length flags → get_or word i 0 ≡ flag_byte (get_or letters i 0) flag
    → (k : ℕ) → k < i + 1 → get_or word k 0 ≡ flag_byte (get_or letters k 0) (get_or (slice_set flags i flag) k false)
flags_word-more word letters flags i flag before in' here k below = grind (arith, common_steps, before k, here)
