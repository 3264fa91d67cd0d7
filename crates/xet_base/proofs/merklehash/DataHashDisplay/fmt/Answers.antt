use Rattle.std.proofs.Common.{◌^◌, ◌<◌, ◌∙◌, ap, arith, subst}
use Rattle.std.specs.Fmt.{DisplaysOnOk, styled_digits_output}
use Rattle.xet_base.proofs.HexText.{word_written, words_written}
use Rattle.xet_base.proofs.merklehash.DataHashDisplay.fmt.Goals as goal

pub returns-clause-writes : goal.returns-clause-writes
returns-clause-writes g c =
    let hash = c.args.self.now in
    let fits0 : hash.word0 < 2 ^ 64 = omega arith in
    let fits1 : hash.word1 < 2 ^ 64 = omega arith in
    let fits2 : hash.word2 < 2 ^ 64 = omega arith in
    let fits3 : hash.word3 < 2 ^ 64 = omega arith in
    subst (λ text. DisplaysOnOk g.W.Write.write_str_gives c.args.f.now c.write.result text c.write.new.self)
    (words_written hash _ _ _ _
    (ap (λ spec. styled_digits_output c.in_radix.result spec) c.laid_out.ensures ∙ word_written hash.word0 _ fits0 c.in_radix.ensures)
    (ap (λ spec. styled_digits_output c.in_radix-2.result spec) c.laid_out-2.ensures ∙ word_written hash.word1 _ fits1 c.in_radix-2.ensures)
    (ap (λ spec. styled_digits_output c.in_radix-3.result spec) c.laid_out-3.ensures ∙ word_written hash.word2 _ fits2 c.in_radix-3.ensures)
    (ap (λ spec. styled_digits_output c.in_radix-4.result spec) c.laid_out-4.ensures ∙ word_written hash.word3 _ fits3 c.in_radix-4.ensures))
    c.write.ensures.writes
