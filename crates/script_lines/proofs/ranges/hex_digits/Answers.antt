use Rattle.std.proofs.Common.{◌<◌, ◌^◌, [], ◌++◌, get_or, take, flat_map, string_bytes, sym, ap, ◌∙◌, subst, arith}
use Rattle.std.proofs.lemmas.List.{flat_map_more, take_more}
use Rattle.std.specs.Fmt.{AppendsText, styled_digits_output}
use Rattle.xet_core_structures.specs.Hex.{hex_digits}
use Rattle.script_lines.proofs.HexBytes.{byte_written}
use Rattle.script_lines.proofs.ranges.hex_digits.Goals as goal

pub loop-byte-preserved : goal.loop-byte-preserved
loop-byte-preserved c =
    let i = c.loop-byte.byte-index in
    let byte = get_or c.args.bytes.now i 0 in
    let fits : byte < 2 ^ 8 = omega (arith, c.type_inv.bytes i) in
    let text = ap (λ spec. styled_digits_output c.in_radix.result spec) c.laid_out.ensures ∙ byte_written byte _ fits c.in_radix.ensures in
    let written = subst (AppendsText (string_bytes c.loop-byte.digits) (string_bytes c.write.new.self)) text c.in_ok-write.ensures.bytes in
    written ∙ ap (λ text. text ++ hex_digits 2 byte) c.loop-byte.invariant
    ∙ flat_map_more (hex_digits 2) [] (take i c.args.bytes.now) byte ∙ ap (flat_map (hex_digits 2)) (sym (take_more c.args.bytes.now i 0 (omega arith)))
