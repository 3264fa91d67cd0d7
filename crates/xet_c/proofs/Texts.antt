-- Hexadecimal digits and names of shard files are ASCII.
use Rattle.std.proofs.Common.{ℕ, ◌<◌, List, take, drop, sym, subst, arith}
use Rattle.std.specs.Prelude.{codes}
use Rattle.std.specs.Str.{IsAscii}
use Rattle.std.proofs.lemmas.List.{take-append-drop}
use Rattle.std.proofs.lemmas.List.Elements.{All-weaker}
use Rattle.std.proofs.lemmas.Str.{IsAscii-append}
use Rattle.std.proofs.lemmas.Str.Ascii.{IsAscii-from_all}
use Rattle.xet_core_structures.specs.Hex.{IsHexDigit, IsHexText}
use Rattle.xet_core_structures.specs.Names.{IsShardName}

digit_below : (b : ℕ) → IsHexDigit b → b < 128
digit_below b is = omega arith

pub hex_ascii : (text : List ℕ) → IsHexText text → IsAscii text
hex_ascii text is = IsAscii-from_all text (All-weaker IsHexDigit (λ b. b < 128) digit_below text is.digits)

ending_ascii : IsAscii (codes ".mdb")
ending_ascii = IsAscii-from_all (codes ".mdb") (λ k d below. grind arith)

pub name_ascii : (name : List ℕ) → IsShardName name → IsAscii name
name_ascii name is = subst IsAscii (take-append-drop 64 name)
    (IsAscii-append (take 64 name) (drop 64 name) (hex_ascii (take 64 name) is.digits) (subst IsAscii (sym is.ending) ending_ascii))
