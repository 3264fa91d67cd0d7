use Rattle.std.proofs.Common.{◌+◌, take, sym, subst, arith}
use Rattle.std.proofs.lemmas.Grind.{common_steps}
use Rattle.std.specs.List.{AllZip}
use Rattle.script_lines.specs.Commands.{texts}
use Rattle.script_lines.specs.Words.{SpellsHash}
use Rattle.script_lines.proofs.SpelledHashes.{spelled_more, not_all_spelled}
use Rattle.script_lines.proofs.records.parse_hashes.Goals as goal

pub returns-in_err-parse_hash-clause-every : goal.returns-in_err-parse_hash-clause-every
returns-in_err-parse_hash-clause-every c = λ hashes all.
    absurd (not_all_spelled c.args.words.now c.loop-word.word-index _ c.loop-word-test.true c.in_err-parse_hash.ensures.none hashes all)

pub loop-word-preserved : goal.loop-word-preserved
loop-word-preserved c = record {
  count = grind (arith, common_steps);
  spelled = subst (λ hashes. AllZip SpellsHash (texts (take (c.loop-word.word-index + 1) c.args.words.now)) hashes) (sym c.in_ok-push.ensures.items)
      (spelled_more c.args.words.now c.loop-word.word-index _ c.loop-word.hashes.items c.in_ok-parse_hash.field-0 c.loop-word-test.true c.loop-word.invariant.spelled c.in_ok-parse_hash.ensures.hash);
}
