use Rattle.std.proofs.Common.{◌≡◌, ◌*◌, ◌-◌, ◌/◌, ◌^◌, ◌++◌, string_bytes}
use Rattle.xet_base.specs.Hex.{hex_digits}
use Rattle.xet_base.proofs.merklehash.push_word.Given as goal

-- the first digits are there, those of the word without its lower part
abbrev pub invariant-loop-i : goal.invariant-loop-i
invariant-loop-i l = string_bytes l.text ≡ string_bytes l.initial.text ++ hex_digits l.i (l.word / 2 ^ (64 - 4 * l.i))
