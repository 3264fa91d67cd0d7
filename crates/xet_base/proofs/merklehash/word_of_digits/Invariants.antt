use Rattle.std.proofs.Common.{◌≡◌, ◌<◌, ◌^◌, take}
use Rattle.std.specs.Str.{str_to_ascii_lowercase}
use Rattle.xet_base.specs.Hex.{hex_digits}
use Rattle.xet_base.proofs.merklehash.word_of_digits.Given as goal

abbrev pub invariant-loop-digit : goal.invariant-loop-digit
invariant-loop-digit l = record {
  small : l.word < 16 ^ l.digit-index;
  same : hex_digits l.digit-index l.word ≡ str_to_ascii_lowercase (take l.digit-index l.digits);
}
