-- Characters in HTML.
use Rattle.std.specs.Prelude.{ℕ, ◌==◌, List, [], ◌∷◌, encode_utf8, if◌then◌else◌}

-- the text that stands for a character: `&lt;`, `&gt;`, `&amp;` and `&quot;` for `<`, `>`, `&` and `"`,
-- and each other one for itself
abbrev pub escape : ℕ → List ℕ
escape c =
    if c == 60 then 38 ∷ 108 ∷ 116 ∷ 59 ∷ []
    else if c == 62 then 38 ∷ 103 ∷ 116 ∷ 59 ∷ []
    else if c == 38 then 38 ∷ 97 ∷ 109 ∷ 112 ∷ 59 ∷ []
    else if c == 34 then 38 ∷ 113 ∷ 117 ∷ 111 ∷ 116 ∷ 59 ∷ []
    else encode_utf8 c
