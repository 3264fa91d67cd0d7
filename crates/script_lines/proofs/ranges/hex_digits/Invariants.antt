use Rattle.std.proofs.Common.{◌≡◌, take, string_bytes}
use Rattle.script_lines.specs.Printed.{hex_text}
use Rattle.script_lines.proofs.ranges.hex_digits.Given as goal

abbrev pub invariant-loop-byte : goal.invariant-loop-byte
invariant-loop-byte l = string_bytes l.digits ≡ hex_text (take l.byte-index l.bytes)
